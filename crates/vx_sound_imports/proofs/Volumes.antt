-- Volumes of the imported group that are called, started and stopped are nothing to other groups.
use Rattle.std.proofs.Common.{◌≡◌, ◌∙◌, ℕ, ◌+◌, nat_lt, Bool, true, false, List, Option, Some, None, MatchBool, MatchOption, refl, sym, ap, subst}
use Rattle.vx_base.specs.Named.{Word, put}
use Rattle.vx_script_forms.specs.declared.call.Call.{Call}
use Rattle.vx_answers.specs.declared.answer.End.{End}
use Rattle.vx_answers.specs.declared.answer.End.TheVariants as ends
use Rattle.vx_answers.specs.declared.refusal.Refusal.TheVariants as refusal
use Rattle.vx_moments.specs.Holding.{HasDevice, IsLent}
use Rattle.vx_moments.specs.Moment.{Moment, Rests}
use Rattle.vx_moments.specs.World.{Device, Group, Lies, OnDevice, OnPlexes, Volume, World}
use Rattle.vx_moments.specs.Group.{ChangesOnly}
use Rattle.vx_stages.specs.Calls.{count_of, start_of, volume_of}
use Rattle.vx_stages.specs.Touching.{IsTouched, VolumeGoes}
use Rattle.vx_plans.specs.Serving.{CallRuns, ServesOn}
use Rattle.vx_sound.specs.Laws.{CallWritesNoHeader}
use Rattle.vx_sound.specs.Standing.{IsStanding}
use Rattle.vx_sound.proofs.Fewer.{HadEach}
use Rattle.vx_sound.proofs.Running.{standing_touched}
use Rattle.vx_sound.proofs.Volumes.{standing_served}
use Rattle.vx_sound_volumes.proofs.Parts.{Every, some_same}
use Rattle.vx_sound_imports.specs.Offered.{HaveSoundOffers}
use Rattle.vx_sound_imports.proofs.Writings.{HasWhole}
use Rattle.vx_sound_imports.proofs.Places.{had_elsewhere, lent_on_plexes, lent_put}
use Rattle.vx_sound_imports.proofs.Stages.{Settles, leads, offers_kept, same_settles, standing_settles, whole_before}

-- what is known of a world, but for the volumes of the imported group
pub record IsKnown (w : World) : Type 0 where
  pub standing : IsStanding w
  pub whole : HasWhole w
  pub offers : HaveSoundOffers w

pub known_settles : (end : End) (w : World) → IsKnown w → Settles Every end w
known_settles end w k = standing_settles end w k.standing k.whole k.offers

pub still_settles : (end : End) (old new : World) → new ≡ old → IsKnown old → Settles Every end new
still_settles end old new same k = same_settles end old new same k.standing k.whole k.offers

-- ---- one volume

module _ (g : Group) (vol : Word) (old : World) (here : old.group ≡ Some g) (s : IsStanding old) (offers : HaveSoundOffers old) where
  -- devices change in its sectors, and volumes come or go on no other devices
  changed_offers : (devices : Word → Option Device) (volumes : Word → Option Volume) → ChangesOnly g vol old.devices devices → ((name : Word) → IsLent old name → IsLent (record old { volumes = volumes }) name) →
      HaveSoundOffers (record old { devices = devices; volumes = volumes })
  changed_offers devices volumes changes lent =
      offers_kept old (record old { devices = devices; volumes = volumes }) s.copies
      (λ dg away. (away, had_elsewhere g vol old (record old { devices = devices; volumes = volumes }) (leads old g s here).own changes lent dg (away g here))) offers

-- only volumes come or go
pub lent_offers : (old : World) (volumes : Word → Option Volume) → ((name : Word) → IsLent old name → IsLent (record old { volumes = volumes }) name) → IsStanding old → HaveSoundOffers old → HaveSoundOffers (record old { volumes = volumes })
lent_offers old volumes lent s offers = offers_kept old (record old { volumes = volumes }) s.copies (λ dg away. (away, had dg)) offers
  where
    had : (dg : Word) → HadEach dg old (record old { volumes = volumes })
    had dg name slot d h = record { device = h.device; apart = λ is. h.apart (lent name is); label = h.label; header = h.header; group = h.group; slot_is = h.slot_is; size = h.size }

-- its log was called
pub touched_known : (g : Group) (vol : Word) (old new : Moment) → old.world.group ≡ Some g → IsTouched g vol old new → IsKnown old.world → IsKnown new.world
touched_known g vol old new here t k = record {
  standing = standing_touched g vol old new t k.standing;
  whole = whole_before old.world new.world (ap (λ (w : World). w.group) t.world) k.whole;
  offers = subst HaveSoundOffers (sym t.world) (changed_offers g vol old.world here k.standing k.offers new.world.devices old.world.volumes t.changes (λ name is. is));
}

-- it is another volume on the same plexes
pub goes_known : (g : Group) (vol : Word) (later : Volume) (plexes : List Word) (old new : Moment) → old.world.group ≡ Some g → ((v : Volume) → old.world.volumes vol ≡ Some v → v.lies ≡ OnPlexes plexes) →
    VolumeGoes g vol later old new → IsStanding new.world → IsKnown old.world → IsKnown new.world
goes_known g vol later plexes old new here was goes stands k = record {
  standing = stands;
  whole = whole_before old.world new.world (ap (λ (w : World). w.group) goes.world) k.whole;
  offers = subst HaveSoundOffers (sym goes.world)
      (changed_offers g vol old.world here k.standing k.offers new.world.devices (put vol (Some later) old.world.volumes) goes.changes (lent_on_plexes old.world vol (Some later) plexes was));
}

-- ---- calls

module _ (place : ℕ) (call : Call) (old : Moment) (end : End) (new : Moment) (k : IsKnown old.world) where
  served_offers : (v : Volume) → old.world.volumes (volume_of call) ≡ Some v → (lies : Lies) → v.lies ≡ lies → ServesOn lies place call v old end new → HaveSoundOffers new.world
  served_offers v is (OnDevice device) on served =
      subst HaveSoundOffers (sym served.world)
      (lent_offers old.world (put (volume_of call) (Some (record v { life = served.life })) old.world.volumes)
      (lent_put old.world (volume_of call) (Some (record v { life = served.life })) (λ u name at has. (record v { life = served.life }, refl, subst (λ (x : Volume). HasDevice x.lies name) (some_same u v (sym at ∙ is)) has))) k.standing k.offers)
  served_offers v is (OnPlexes plexes) on served =
      subst HaveSoundOffers (sym served.world)
      (changed_offers served.group (volume_of call) old.world served.here k.standing k.offers new.world.devices (put (volume_of call) (Some served.later) old.world.volumes) served.changes
      (lent_on_plexes old.world (volume_of call) (Some served.later) plexes (λ u at. ap (λ (x : Volume). x.lies) (some_same u v (sym at ∙ is)) ∙ on)))

  served_group : (v : Volume) → (lies : Lies) → ServesOn lies place call v old end new → new.world.group ≡ old.world.group
  served_group v (OnDevice device) served = ap (λ (w : World). w.group) served.world
  served_group v (OnPlexes plexes) served = ap (λ (w : World). w.group) served.world

  pub call_settles : CallWritesNoHeader call → CallRuns place call old end new → Settles Every end new.world
  call_settles none runs = at_volume (old.world.volumes (volume_of call)) refl runs
    where
      stands : IsStanding new.world
      stands = standing_served place call old end new none k.standing runs

      at_range : (v : Volume) (b : Bool) → old.world.volumes (volume_of call) ≡ Some v → MatchBool b ((end ≡ ends.Refused refusal.Range) × Rests old new) (ServesOn v.lies place call v old end new) → Settles Every end new.world
      at_range v true is h = still_settles end old.world new.world h.1.stays.world k
      at_range v false is h = standing_settles end new.world stands (whole_before old.world new.world (served_group v v.lies h) k.whole) (served_offers v is v.lies refl h)

      at_volume : (o : Option Volume) → old.world.volumes (volume_of call) ≡ o → MatchOption o ((end ≡ ends.Refused (refusal.NotStarted (volume_of call))) × Rests old new) (λ v. MatchBool (nat_lt v.length (start_of call + count_of call)) ((end ≡ ends.Refused refusal.Range) × Rests old new) (ServesOn v.lies place call v old end new)) → Settles Every end new.world
      at_volume None is h = still_settles end old.world new.world h.1.stays.world k
      at_volume (Some v) is h = at_range v (nat_lt v.length (start_of call + count_of call)) is h

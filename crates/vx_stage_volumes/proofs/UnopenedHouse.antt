-- A volume that was not opened, by a start or a recovery: in the moment that follows sectors of it alone have changed, and there is a cause.
use Rattle.std.proofs.Common.{◌≡◌, inl, inr, [], Option, Some, None, refl, sym, subst}
use Rattle.std.specs.Prelude.{is_some}
use Rattle.vx_pages.specs.declared.local_piece.LocalPiece.{Ghosts}
use Rattle.vx_base.specs.Named.{Word}
use Rattle.vx_piece.specs.Seen.{AreCounts, EndsThere, Seen}
use Rattle.vx_config_parts.specs.declared.vol.Vol.{Vol}
use Rattle.vx_image.specs.UsedPlexes.{IsVolOf}
use Rattle.vx_answers.specs.declared.answer.End.TheVariants as ends
use Rattle.vx_moments.specs.Moment.{AreLater, Moment}
use Rattle.vx_moments.specs.World.{Group}
use Rattle.vx_stages.specs.Starting.{UnopenedBy}
use Rattle.vx_stages.specs.Touching.{IsTouched, Narrows}
use Rattle.vx_group_volumes.specs.LogLaws.{EachCopyNarrows}
use Rattle.vx_group_start.specs.Refused.{IsNotStarted}
use Rattle.vx_group_start.specs.Fresh.{is_fresh}
use Rattle.vx_group_start.specs.declared.fault.StartFault.{StartFault}
use Rattle.vx_group_start.specs.declared.fault.StartFault.TheVariants as fault
use Rattle.vx_lending.specs.Form.{IsFormOf}
use Rattle.vx_lending.specs.declared.form.VolumeForm.{VolumeForm}
use Rattle.vx_house.specs.Scene.{FaultsGoOn, IsBlamed, Shelved}
use Rattle.vx_house.specs.View.{IsMoment, Keeps, at, scene}
use Rattle.vx_house.specs.declared.house.House.{House}
use Rattle.vx_house.specs.declared.house.Imported.{Imported}
use Rattle.vx_house.specs.declared.stop.Stop.{Stop}
use Rattle.vx_house.specs.declared.stop.Stop.TheVariants as stops
use Rattle.vx_stage_volumes.specs.Early.{refusal_here}
use Rattle.vx_stage_volumes.specs.Naming.{fault_of, names_at, unopened}
use Rattle.vx_stage_volumes.specs.Opening.{IsRefusedIn, IsUnopenedIn, good_of}
use Rattle.vx_stage_volumes.specs.Parting.{PartsGroup}
use Rattle.vx_stage_volumes.proofs.HeldStart.{world_of}
use Rattle.vx_stage_volumes.proofs.PartedHouse.{keeps_now, moment_now, same_scene}
use Rattle.vx_stage_volumes.proofs.UnopenedMoments.{blamed_by, comes_later, cut_off, failed_on, faults_on_it, is_next, is_touched, narrows_to, keeps_on, n, unlogged, unread}
use Rattle.vx_stage_volumes.proofs.UnopenedNames.{named_at}

-- The moment that follows: the copies of its log have come nearer to one another, and nothing else has changed.
pub record IsUnopenedAt {P : Type 0} {ghosts : Ghosts P} (see : P → Seen) (shelf : Shelved) (h : House P ghosts) (g : Group) (v : Vol) (m : Moment) : Type 0 where
  pub then : Moment
  pub is : IsMoment see (at shelf h) then
  pub later : AreLater m.counts then.counts
  pub touched : IsTouched g v.name m then
  pub narrows : Narrows g v m then

module _ {P : Type 0} {ghosts : Ghosts P} (see : P → Seen) (alike : (p q : P) → is_some (see p).told ≡ is_some (see q).told) (ends_there : (p : P) → EndsThere (see p)) (counts : (p : P) → AreCounts (see p)) (law : EachCopyNarrows)
    (shelf : Shelved) (h : House P ghosts) (keeps : Keeps see (at shelf h)) {g mid : Imported P ghosts} (has : h.group ≡ Some g) (parts : PartsGroup see g mid) {v : Vol} (g' : Imported P ghosts) {stop : Stop} (is : IsUnopenedIn see v mid g' stop) where
  -- the house whose group is parted, and then called
  abbrev h1 : House P ghosts
  h1 = record h { group = Some mid }

  abbrev pub unopened_house : House P ghosts
  unopened_house = record h { group = Some (record mid { public = g'.public }) }

  pub keeps_parted : Keeps see (at shelf h1)
  keeps_parted = keeps_now see shelf h g mid has parts keeps

  pub at_parted : (m : Moment) → IsMoment see (at shelf h) m → IsMoment see (at shelf h1) m
  at_parted m at_m = moment_now see shelf h g mid has parts m at_m

  -- ---- the frame

  pub unopened_keeps : Keeps see (at shelf unopened_house)
  unopened_keeps = keeps_on see alike ends_there counts shelf h1 keeps_parted mid refl v g' stop is

  pub unopened_faults : FaultsGoOn (scene see (at shelf h)) (scene see (at shelf unopened_house))
  unopened_faults =
      subst (λ s. FaultsGoOn s (scene see (at shelf unopened_house))) (same_scene see shelf h g mid has parts)
      (faults_on_it see alike ends_there counts shelf h1 keeps_parted mid refl v g' stop is)

  -- the moment that follows
  abbrev pub unopened_at : (m : Moment) → IsMoment see (at shelf h) m → IsUnopenedAt see shelf unopened_house (world_of see mid) v m
  unopened_at m at_m = record {
    then = n see alike ends_there counts shelf h1 keeps_parted mid refl v g' stop is m (at_parted m at_m);
    is = is_next see alike ends_there counts shelf h1 keeps_parted mid refl v g' stop is m (at_parted m at_m);
    later = comes_later see alike ends_there counts shelf h1 keeps_parted mid refl v g' stop is m (at_parted m at_m);
    touched = is_touched see alike ends_there counts shelf h1 keeps_parted mid refl v g' stop is m (at_parted m at_m);
    narrows = narrows_to see alike ends_there counts shelf h1 keeps_parted mid refl v g' stop is m (at_parted m at_m) law;
  }

  -- ---- each fault

  -- why the command ends so; for want of memory there is no cause
  abbrev pub HasCause : Stop → Type 0
  HasCause stops.OutOfMemory = Unit {0}
  HasCause (stops.Ended end) =
      ((m : Moment) (at_m : IsMoment see (at shelf h) m) → UnopenedBy (world_of see mid) v m end (unopened_at m at_m).then) × IsBlamed end (scene see (at shelf h)) (scene see (at shelf unopened_house))

  module _ (of : IsVolOf mid.config v) (early : refusal_here mid.config (good_of see mid) v ≡ None) where
    module _ (form : VolumeForm) (form_is : IsFormOf mid.config (good_of see mid) v (is_fresh v.state) form) where
      not_started : (x : StartFault) → (r : IsRefusedIn see v mid g' x) → IsNotStarted see v r.numbers form mid.public g'.public x → HasCause (unopened see mid.base.disks.items v.name x)
      not_started fault.OutOfMemory r why = tt
      not_started fault.NoLog r why = (
        λ m at_m.
            let u = unlogged see alike ends_there counts shelf h1 keeps_parted mid refl v g' stop is m (at_parted m at_m) of early r.numbers r.are form form_is why in
            inl (refl, u.0, u.1, u.2),
        tt,
      )
      not_started (fault.NoCurrent q) r why = (
        λ m at_m.
            let u = unread see alike ends_there counts shelf h1 keeps_parted mid refl v g' stop is m (at_parted m at_m) of early r.numbers r.are form form_is q why in
            inr (inl (q, refl, u.0, u.1)),
        tt,
      )
      not_started (fault.Failed number) r why = by (names_at see mid.base.disks.items number) refl
        where
          by : (o : Option (Word × Word)) → names_at see mid.base.disks.items number ≡ o → HasCause (fault_of o)
          by None e = tt
          by (Some names) e =
              let x = named_at see mid.base.disks.items number names e in (
                λ m at_m.
                    let failed = failed_on see alike ends_there counts shelf h1 keeps_parted mid refl v g' stop is m (at_parted m at_m) r.numbers r.are form form_is number why names x in
                    inr (inr (inl (names.0, names.1, refl, failed))),
                subst (λ s. IsBlamed (ends.Fault names.0 names.1 []) s (scene see (at shelf unopened_house))) (same_scene see shelf h g mid has parts)
                    (blamed_by see alike ends_there counts shelf h1 keeps_parted mid refl v g' stop is number names x why.rose),
              )
      not_started fault.PowerLost r why = (
        λ m at_m.
            let cut = cut_off see alike ends_there counts shelf h1 keeps_parted mid refl v g' stop is m (at_parted m at_m) r.numbers r.are form form_is why in
            inr (inr (inr (refl, cut))),
        tt,
      )

    refused : (x : StartFault) → IsRefusedIn see v mid g' x → HasCause (unopened see mid.base.disks.items v.name x)
    refused x r = elim r.refused [
      | inl wants ↦ subst (λ y. HasCause (unopened see mid.base.disks.items v.name y)) (sym wants) tt
      | inr (form, form_is, why) ↦ not_started form form_is x r why
    ]

    pub unopened_cause : HasCause stop
    unopened_cause = elim is.cause [
      | inl (wants, same) ↦ subst HasCause (sym wants) tt
      | inr (x, told, r) ↦ subst HasCause (sym told) (refused x r)
    ]

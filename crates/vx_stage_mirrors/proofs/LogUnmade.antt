-- No empty log could be made for a volume of the next configuration: what that does to a house and its moments, and why.
use Rattle.std.proofs.Common.{◌≡◌, inl, inr, [], Option, Some, None, refl, sym, subst}
use Rattle.std.specs.Prelude.{is_some}
use Rattle.vx_pages.specs.declared.local_piece.LocalPiece.{Ghosts}
use Rattle.vx_base.specs.Named.{Word}
use Rattle.vx_piece.specs.Seen.{AreCounts, EndsThere, Seen}
use Rattle.vx_config_parts.specs.declared.vol.Vol.{Vol}
use Rattle.vx_objects.specs.declared.config.Config.{Config}
use Rattle.vx_image.specs.UsedPlexes.{IsVolOf}
use Rattle.vx_answers.specs.declared.answer.End.{End}
use Rattle.vx_answers.specs.declared.answer.End.TheVariants as ends
use Rattle.vx_moments.specs.Moment.{Moment}
use Rattle.vx_stages.specs.Logged.{by_config}
use Rattle.vx_stages.specs.Touching.{PassHasCause}
use Rattle.vx_group_start.specs.declared.fault.StartFault.{StartFault}
use Rattle.vx_group_start.specs.declared.fault.StartFault.TheVariants as fault
use Rattle.vx_house.specs.Scene.{IsBlamed, Shelved}
use Rattle.vx_house.specs.View.{IsMoment, Keeps, at, scene}
use Rattle.vx_house.specs.declared.house.House.{House}
use Rattle.vx_house.specs.declared.house.Imported.{Imported}
use Rattle.vx_house.specs.declared.stop.Stop.{Stop}
use Rattle.vx_house.specs.declared.stop.Stop.TheVariants as stops
use Rattle.vx_house_calls.specs.Passes.{with_group}
use Rattle.vx_stage_volumes.specs.Naming.{fault_of, names_at, unopened}
use Rattle.vx_stage_volumes.proofs.UnopenedNames.{named_at}
use Rattle.vx_stage_mirrors.specs.Ending.{seen_group}
use Rattle.vx_stage_mirrors.specs.Making.{IsUnmadeBy, IsUnmadeIn}
use Rattle.vx_stage_mirrors.specs.LogMoments.{EachLogIsUnmade, EndsUnmadeFor, LogGoes}
use Rattle.vx_stage_mirrors.proofs.LogMoments.{blamed_by, carried, cut_off, failed_on, log_goes, n}
use Rattle.vx_stage_mirrors.proofs.LogTouches.{IsLogTried, unmade_tried}

module _ {P : Type 0} {ghosts : Ghosts P} (see : P → Seen) (ends_there : (p : P) → EndsThere (see p)) (counts : (p : P) → AreCounts (see p)) (alike : (p q : P) → is_some (see p).told ≡ is_some (see q).told)
    (shelf : Shelved) (h : House P ghosts) (keeps : Keeps see (at shelf h)) (g : Imported P ghosts) (has : h.group ≡ Some g) (c : Config) (v : Vol) (stop : Stop) (g' : Imported P ghosts) (unmade : IsUnmadeIn see c v stop g g') (of : IsVolOf c v) where
  tried : IsLogTried see c v g g'
  tried = unmade_tried see c v stop g g' unmade

  abbrev now : Imported P ghosts
  now = record g { public = g'.public }

  abbrev goes : LogGoes see shelf h c v.name g now
  goes = log_goes see ends_there counts alike shelf h keeps g has c v g' unmade.same tried of

  -- it ends so, by how it has stopped
  abbrev EndsFor : Stop → Type 0
  EndsFor s = EndsUnmadeFor see shelf h c v.name g now goes s

  ended : (end : End) →
      ((m : Moment) (is : IsMoment see (at shelf h) m) → PassHasCause (by_config c (seen_group see g)) v.name m.counts (n see ends_there counts alike shelf h keeps g has c v g' unmade.same tried m is).counts end) →
      IsBlamed end (scene see (at shelf h)) (scene see (at shelf (with_group h now))) → EndsFor (stops.Ended end)
  ended end cause blamed = record { cause = cause; blamed = blamed }

  by_fault : (x : StartFault) → IsUnmadeBy see c v g g' x → EndsFor (unopened see g.base.disks.items v.name x)
  by_fault fault.OutOfMemory u = tt
  by_fault fault.NoLog u = absurd u.unmade
  by_fault (fault.NoCurrent q) u = absurd u.unmade
  by_fault (fault.Failed number) u = by (names_at see g.base.disks.items number) refl
    where
      by : (o : Option (Word × Word)) → names_at see g.base.disks.items number ≡ o → EndsFor (fault_of o)
      by None e = tt
      by (Some names) e =
          let x = named_at see g.base.disks.items number names e in
          ended (ends.Fault names.0 names.1 [])
          (λ m is. (refl, failed_on see ends_there counts alike shelf h keeps g has c v g' unmade.same tried m is u.by number u.unmade names x))
          (blamed_by see ends_there counts alike shelf h keeps g has c v g' unmade.same tried number names x u.unmade.rose)
  by_fault fault.PowerLost u =
      ended (ends.Lost []) (λ m is. (refl, cut_off see ends_there counts alike shelf h keeps g has c v g' unmade.same tried m is u.by u.unmade)) tt

  ends_for : EndsFor stop
  ends_for = elim unmade.cause [
    | inl (wants, same) ↦ subst EndsFor (sym wants) tt
    | inr (x, told, u) ↦ subst EndsFor (sym told) (by_fault x u)
  ]

  -- it goes so
  unmade_goes : (name : Word) → v.name ≡ name → (goes : LogGoes see shelf h c name g g') × EndsUnmadeFor see shelf h c name g g' goes stop
  unmade_goes name named =
      carried see ends_there counts alike shelf h keeps g has c v g' unmade.same tried name named
      (λ (x : Word) (then : Imported P ghosts). (goes : LogGoes see shelf h c x g then) × EndsUnmadeFor see shelf h c x g then goes stop) (goes, ends_for)

pub log_unmade : {P : Type 0} {ghosts : Ghosts P} (see : P → Seen) → ((p : P) → EndsThere (see p)) → ((p : P) → AreCounts (see p)) → (h : House P ghosts) (old new : Imported P ghosts) → EachLogIsUnmade see h old new
log_unmade see ends_there counts h old new shelf next name later alike has keeps of stop unmade =
    unmade_goes see ends_there counts alike shelf h keeps old has next later stop new unmade of.there name of.named

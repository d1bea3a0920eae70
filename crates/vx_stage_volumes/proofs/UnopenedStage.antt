-- The start of a volume as a stage: the volume was not opened.
use Rattle.std.proofs.Common.{◌≡◌, ◌∙◌, inl, inr, List, Some, None, Err, sym, ap, subst}
use Rattle.std.specs.Prelude.{is_some}
use Rattle.vx_pages.specs.declared.local_piece.LocalPiece.{Ghosts}
use Rattle.vx_base.specs.Named.{Word}
use Rattle.vx_piece.specs.Seen.{AreCounts, EndsThere, Seen}
use Rattle.vx_config_parts.specs.declared.vol.Vol.{Vol}
use Rattle.vx_image.specs.UsedPlexes.{IsVolOf}
use Rattle.vx_moments.specs.Moment.{Moment}
use Rattle.vx_moments.specs.World.{Group}
use Rattle.vx_script_words.specs.declared.value.DiskAt.{DiskAt}
use Rattle.vx_stages.specs.Starting.{StopsOf, refusal_at_once}
use Rattle.vx_stages.specs.Touching.{IsTouched, Narrows}
use Rattle.vx_group_volumes.specs.LogLaws.{EachCopyNarrows}
use Rattle.vx_stages.specs.declared.stage.Stage.TheVariants as stage
use Rattle.vx_house.specs.Goes.{StageGoes}
use Rattle.vx_house.specs.Scene.{Shelved}
use Rattle.vx_house.specs.View.{IsMoment, Keeps, at}
use Rattle.vx_house.specs.declared.house.House.{House}
use Rattle.vx_house.specs.declared.house.Imported.{Imported}
use Rattle.vx_house.specs.declared.stop.Stop.{Stop}
use Rattle.vx_house.specs.declared.stop.Stop.TheVariants as stops
use Rattle.vx_stage_volumes.specs.Starting.{EndsUnopened}
use Rattle.vx_stage_volumes.proofs.StartStages.{has_ended, has_wanted, here, seen_group, stops_of}
use Rattle.vx_stage_volumes.proofs.UnopenedHouse.{HasCause, IsUnopenedAt, unopened_at, unopened_cause, unopened_faults, unopened_house, unopened_keeps}
use Rattle.vx_stage_volumes.proofs.Named.{found_name, found_of}

module _ {P : Type 0} {ghosts : Ghosts P} (see : P → Seen) (alike : (p q : P) → is_some (see p).told ≡ is_some (see q).told) (ends_there : (p : P) → EndsThere (see p)) (counts : (p : P) → AreCounts (see p)) (law : EachCopyNarrows) (name : Word) (disks : List DiskAt)
    (shelf : Shelved) (h : House P ghosts) (keeps : Keeps see (at shelf h)) (g : Imported P ghosts) (has : h.group ≡ Some g) (g' : Imported P ghosts) (stop : Stop) where
  module _ (is : EndsUnopened see name stop g g') where
    abbrev v : Vol
    v = is.volume

    -- the house whose group was parted, and then called
    abbrev k : House P ghosts
    k = unopened_house see alike ends_there counts law shelf h keeps has is.prepared.parts g' is.unopened

    -- it goes so, by how it has stopped
    abbrev GoesTo : Stop → Type 0
    GoesTo s = StageGoes {T = Unit {0}} see (stage.Start name) disks (Err s) (at shelf h) (at shelf k)

    -- the group of the world is the same as before it was parted
    same_group : seen_group see is.mid ≡ seen_group see g
    same_group = one (seen_group see is.mid) (seen_group see g) is.prepared.parts.group
      where
        one : (a b : Group) → Some a ≡ Some b → a ≡ b
        one a b e = cc

    named : v.name ≡ name
    named = found_name g.config name v is.prepared.found

    of : IsVolOf is.mid.config v
    of = subst (λ c. IsVolOf c v) (sym is.prepared.parts.config) (found_of g.config name v is.prepared.found)

    untested : refusal_at_once (seen_group see is.mid) v ≡ None
    untested = ap (λ (w : Group). refusal_at_once w v) same_group ∙ is.prepared.planned.early

    abbrev after : (m : Moment) → IsMoment see (at shelf h) m → IsUnopenedAt see shelf k (seen_group see is.mid) v m
    after m at_m = unopened_at see alike ends_there counts law shelf h keeps has is.prepared.parts g' is.unopened m at_m

    -- memory was wanting
    wanted : GoesTo stops.OutOfMemory
    wanted =
        has_wanted see name disks (at shelf h) (at shelf k) (unopened_keeps see alike ends_there counts law shelf h keeps has is.prepared.parts g' is.unopened)
        (λ m at_m.
        let a = after m at_m in (
          a.then,
          a.is,
          a.later,
          inr (
            seen_group see g,
            v,
            here see name disks shelf h keeps g has m at_m,
            is.prepared.found,
            is.prepared.planned.may,
            subst (λ (x : Word). IsTouched (seen_group see g) x m a.then) named (subst (λ (w : Group). IsTouched w v.name m a.then) same_group a.touched),
            subst (λ (w : Group). Narrows w v m a.then) same_group a.narrows,
          ),
        ))
        (unopened_faults see alike ends_there counts law shelf h keeps has is.prepared.parts g' is.unopened)

    -- by its cause
    by : (s : Stop) → HasCause see alike ends_there counts law shelf h keeps has is.prepared.parts g' is.unopened s → GoesTo s
    by stops.OutOfMemory none = wanted
    by (stops.Ended end) (cause, blamed) =
        has_ended see name disks end (at shelf h) (at shelf k) (unopened_keeps see alike ends_there counts law shelf h keeps has is.prepared.parts g' is.unopened)
        (λ m at_m.
        let a = after m at_m in (
          a.then,
          a.is,
          a.later,
          stops_of see name disks shelf h keeps g has v is.prepared.found is.prepared.planned.may m a.then end at_m
              (subst (λ (w : Group). StopsOf w v m end a.then) same_group (inr (inl (record { untested = untested; touched = a.touched; narrows = a.narrows; cause = cause m at_m })))),
        ))
        (unopened_faults see alike ends_there counts law shelf h keeps has is.prepared.parts g' is.unopened) blamed

    goes_on : GoesTo stop
    goes_on = by stop (unopened_cause see alike ends_there counts law shelf h keeps has is.prepared.parts g' is.unopened of untested)

  -- it goes as a start whose volume was not opened
  pub unopened_goes : EndsUnopened see name stop g g' → StageGoes {T = Unit {0}} see (stage.Start name) disks (Err stop) (at shelf h) (at shelf (record h { group = Some g' }))
  unopened_goes is =
      subst (λ (x : Imported P ghosts). StageGoes {T = Unit {0}} see (stage.Start name) disks (Err stop) (at shelf h)
      (at shelf (record h { group = Some x })))
      (sym is.unopened.same.group) (goes_on is)

-- A start whose volume was opened and is not recorded: the commit is stopped, or memory was wanting.
use Rattle.std.proofs.Common.{◌≡◌, ◌∙◌, inl, inr, List, [], ◌∷◌, ◌++◌, Some, Err, refl, sym, ap, subst}
use Rattle.std.specs.Prelude.{IfSome, is_some}
use Rattle.vx_pages.specs.declared.local_piece.LocalPiece.{Ghosts}
use Rattle.vx_base.specs.Named.{Word}
use Rattle.vx_piece.specs.Seen.{Seen}
use Rattle.vx_state_edits.specs.Edits.{start_edits}
use Rattle.vx_answers.specs.declared.answer.End.{End}
use Rattle.vx_answers.specs.declared.answer.End.TheVariants as ends
use Rattle.vx_script_words.specs.declared.value.DiskAt.{DiskAt}
use Rattle.vx_moments.specs.Moment.{Moment, AreLater}
use Rattle.vx_moments.specs.World.{Group}
use Rattle.vx_stages.specs.Starting.{StartStops}
use Rattle.vx_stages.specs.Touching.{IsTouched, Narrows}
use Rattle.vx_stages.specs.declared.stage.Stage.TheVariants as stage
use Rattle.vx_house.specs.Goes.{StageGoes}
use Rattle.vx_house.specs.Scene.{Shelved}
use Rattle.vx_house.specs.View.{IsGroupKept, IsMoment, IsMomentButGroup, Keeps, at}
use Rattle.vx_house.specs.declared.house.House.{House}
use Rattle.vx_house.specs.declared.house.Imported.{Imported}
use Rattle.vx_house.specs.declared.stop.Stop.{Stop}
use Rattle.vx_house.specs.declared.stop.Stop.TheVariants as stops
use Rattle.vx_house_calls.specs.Passes.{with_group}
use Rattle.vx_stage_changes.specs.Committing.{CommitEnds}
use Rattle.vx_stage_volumes.specs.Starting.{EndsUnrecorded}
use Rattle.vx_stage_volumes.proofs.HeldOpen.{IsUnrecordedAt, at1, but_group2, faults1, faults2, g1, group_lost, h1, keeps1, narrows1, power_lost}
use Rattle.vx_stage_volumes.proofs.HeldStart.{IsHeldPublic, world_of}
use Rattle.vx_stage_volumes.proofs.Narrowed.{HaveNarrowing}
use Rattle.vx_stage_volumes.proofs.Prepared.{IsOpenable, mid_world, v_name}
use Rattle.vx_stage_volumes.proofs.SoundAs.{HaveRecordedLaws}
use Rattle.vx_stage_volumes.proofs.StartPrepared.{HaveEditLaws, start_openable}
use Rattle.vx_stage_volumes.proofs.StartStages.{has_wanted, here, seen_group, stops_of}

module _ {P : Type 0} {ghosts : Ghosts P} (alike : (p q : P) → is_some (ghosts.seen p).told ≡ is_some (ghosts.seen q).told) (edits : HaveEditLaws) (laws : HaveNarrowing ghosts.seen) (sounds : HaveRecordedLaws) (name : Word) (disks : List DiskAt)
    (shelf : Shelved) (h : House P ghosts) (keeps : Keeps ghosts.seen (at shelf h)) (g : Imported P ghosts) (has : h.group ≡ Some g) (g' : Imported P ghosts) where
  abbrev see : P → Seen
  see = ghosts.seen

  abbrev then_house : House P ghosts
  then_house = with_group h g'

  abbrev Goes_ : Stop → Type 0
  Goes_ stop = StageGoes {T = Unit {0}} see (stage.Start name) disks (Err stop) (at shelf h) (at shelf then_house)

  module _ (stop : Stop) (e : EndsUnrecorded see name stop g g') where
    openable : IsOpenable see (start_edits g.config e.volume) name e.volume e.next g e.mid
    openable = start_openable edits (subst (λ o. IfSome o (IsGroupKept see)) has keeps.house.group) e.prepared

    public_held : IsHeldPublic e.mid.public e.opened.public e.running g'.public
    public_held = record {
      pool = e.held.pool;
      left = e.held.left;
      entries = e.held.entries ∙ ap (λ r. r.entries) e.opens.same.running;
      stuck = e.held.held ∙ ap (λ s. s.items ++ e.running ∷ []) e.opens.same.stuck;
    }

    -- ---- memory was wanting

    abbrev wanting_group : Imported P ghosts
    wanting_group = g1 alike shelf h keeps has openable.parts e.opens public_held

    abbrev wanting_house : House P ghosts
    wanting_house = h1 alike shelf h keeps has openable.parts e.opens public_held

    wanting : StageGoes {T = Unit {0}} see (stage.Start name) disks (Err stops.OutOfMemory) (at shelf h) (at shelf wanting_house)
    wanting = has_wanted see name disks (at shelf h) (at shelf wanting_house) (keeps1 alike shelf h keeps has openable.parts e.opens public_held)
        (λ m is.
        let t = at1 alike shelf h keeps has openable.parts e.opens public_held m is in (
          t.then,
          t.is,
          t.later,
          inr (
            seen_group see g,
            e.volume,
            here see name disks shelf h keeps g has m is,
            e.prepared.found,
            e.prepared.planned.may,
            subst (λ (x : Word). IsTouched (seen_group see g) x m t.then) (v_name openable) (subst (λ (w : Group). IsTouched w e.volume.name m t.then) (mid_world openable) t.touched),
            subst (λ (w : Group). Narrows w e.volume m t.then) (mid_world openable) (narrows1 alike shelf h keeps has openable.parts e.opens public_held laws m is),
          ),
        ))
        (faults1 alike shelf h keeps has openable.parts e.opens public_held)

    -- ---- the commit is stopped

    stops_so : (end : End) (m : Moment) → IsMoment see (at shelf h) m → IsUnrecordedAt see shelf then_house (start_edits g.config e.volume) (seen_group see g) e.volume end m →
        (n : Moment) × IsMomentButGroup see (at shelf then_house) n × AreLater m.counts n.counts × StartStops name m end n
    stops_so end m is u = (
      u.then,
      u.is,
      u.later,
      stops_of see name disks shelf h keeps g has e.volume e.prepared.found e.prepared.planned.may m u.then end is
          (inr (inr (inl (record {
            untested = e.prepared.planned.early;
            opened = u.opened;
            touched = u.touched;
            narrows = u.narrows;
            first = u.first;
            rest = u.rest;
            stops = (u.writing, u.change, u.stopped);
            recorded = u.sound;
          })))),
    )

    -- of the group of the world as it was before it was parted
    stops_by : (end : End) (m : Moment) → IsMoment see (at shelf h) m → IsUnrecordedAt see shelf then_house (start_edits g.config e.volume) (world_of see e.mid) e.volume end m →
        (n : Moment) × IsMomentButGroup see (at shelf then_house) n × AreLater m.counts n.counts × StartStops name m end n
    stops_by end m is u = stops_so end m is (subst (λ (w : Group). IsUnrecordedAt see shelf then_house (start_edits g.config e.volume) w e.volume end m) (mid_world openable) u)

    -- ---- the case

    by : (result : Stop) → CommitEnds see (Err result) e.next.text.items e.mid.base g'.base → Goes_ result
    by stops.OutOfMemory same = subst (λ (x : Imported P ghosts). StageGoes {T = Unit {0}} see (stage.Start name) disks (Err stops.OutOfMemory) (at shelf h) (at shelf (with_group h x))) (sym all_same) wanting
      where
        all_same : g' ≡ wanting_group
        all_same =
            ap (λ c. (let x : Imported P ghosts = record { config = c; base = g'.base; public = g'.public } in x)) (e.held.config ∙ ap (λ (x : Imported P ghosts). x.config) e.opens.same.group)
            ∙ ap (λ b. (let x : Imported P ghosts = record { config = e.mid.config; base = b; public = g'.public } in x)) same
    by (stops.Ended (ends.Done copied parts blocks)) ends = absurd ends
    by (stops.Ended (ends.Refused r)) ends = absurd ends
    by (stops.Ended (ends.Fault told device parts)) ends = absurd ends
    by (stops.Ended ends.ShelfFailed) ends = absurd ends
    by (stops.Ended ends.GroupLost) (tried, risen) = record {
      keeps = but_group2 alike shelf h keeps has openable e.opens public_held laws sounds g' refl tried;
      goes = λ m is. stops_by ends.GroupLost m is (group_lost alike shelf h keeps has openable e.opens public_held laws sounds g' refl tried risen m is);
      gives = tt;
      still = λ e. tt;
      faults = faults2 alike shelf h keeps has openable e.opens public_held laws sounds g' refl tried;
      blamed = tt;
    }
    by (stops.Ended (ends.Lost parts)) (none, tried, cut) = subst (λ p. Goes_ (stops.Ended (ends.Lost p))) (sym none) (record {
      keeps = but_group2 alike shelf h keeps has openable e.opens public_held laws sounds g' refl tried;
      goes = λ m is. stops_by (ends.Lost []) m is (power_lost alike shelf h keeps has openable e.opens public_held laws sounds g' refl tried cut m is);
      gives = tt;
      still = λ e. tt;
      faults = faults2 alike shelf h keeps has openable e.opens public_held laws sounds g' refl tried;
      blamed = tt;
    })

    pub unrecorded_goes : Goes_ stop
    unrecorded_goes = by stop (subst (λ b. CommitEnds see (Err stop) e.next.text.items b g'.base) (ap (λ (x : Imported P ghosts). x.base) e.opens.same.group) e.held.ends)

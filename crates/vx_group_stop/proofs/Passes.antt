-- Passes over all regions of a volume that settle them, or take their dirty marks away.
use Rattle.std.proofs.Common.{◌≡◌, ◌≢◌, inl, inr, ℕ, zero, suc, ◌<◌, false, sym, ◌∙◌, ap, subst, length, arith, Option, Some, None, Result, Ok, Err}
use Rattle.std.proofs.lemmas.Bool.{cases_eq}
use Rattle.vx_mask.specs.Mask.{has}
use Rattle.vx_core.specs.declared.stage.Phase.{Phase}
use Rattle.vx_core.specs.declared.stage.Phase.TheVariants.{Settled}
use Rattle.vx_cell.specs.declared.fault.CellFault.{CellFault}
use Rattle.vx_cell.specs.declared.fault.CellFault.TheVariants as cell
use Rattle.vx_cell.specs.Calls.{LeavesPhase}
use Rattle.vx_cell.specs.Changes.{CellSeen}
use Rattle.vx_volume.specs.declared.fault.IoFault.TheVariants.{Range, Fault, PowerLost}
use Rattle.vx_volume.specs.Loop.{AreDone, stop_of}
use Rattle.vx_volume.specs.Passes.{Clears, Settles}
use Rattle.vx_volume.specs.Volume.{VolumeSeen, cell_at, region_at}
use Rattle.vx_group_stop.specs.Laws.{AreSettled, EachClearLeavesRest, EachSettlingSettles, SamePlexMarks}
use Rattle.vx_group_stop.proofs.Clearings.{LeftBy, clear_left, clear_marks}

less : (r n : ℕ) → r < suc n → r ≢ n → r < n
less r n lt apart = grind (arith)

-- ---- a pass that settles

settled_by : {T : Type 0} (result : Result T CellFault) (phase : Phase) → (let o : Option CellFault = None in o) ≡ stop_of result → LeavesPhase result phase → phase ≡ Settled
settled_by (Ok value) phase done leaves = leaves
settled_by (Err fault) phase done leaves = cc

lost_not : {T : Type 0} (result : Result T CellFault) → (let o : Option CellFault = None in o) ≡ stop_of result → result ≡ Err cell.PowerLost → ⊥
lost_not (Ok value) done lost = cc
lost_not (Err fault) done lost = cc

settles_done : (n : ℕ) (old new : VolumeSeen) → AreDone Settles n old new → (r : ℕ) → r < n → (cell_at new r).stage.phase ≡ Settled
settles_done zero old new done r lt = absurd (omega (arith, lt))
settles_done (suc n) old new done r lt =
    let step = done.2 in
    let job = step.goes in
    let before = settles_done n old done.0 done.1 in
    elim (cases_eq r n) [
      | inl same ↦ subst (λ (m : ℕ). (cell_at new m).stage.phase ≡ Settled) (sym same) (settled_by job.result (cell_at new n).stage.phase job.stopped (job.ends.ended.ended (λ dead. lost_not job.result job.stopped (job.ends.ended.dead dead).answer)).phase)
      | inr apart ↦ ap (λ (c : CellSeen). c.stage.phase) (step.others r apart) ∙ before r (less r n lt apart)
    ]

pub settles_count : (n : ℕ) (old new : VolumeSeen) → AreDone Settles n old new → length new.cells ≡ length old.cells
settles_count zero old new done = ap (λ (v : VolumeSeen). length v.cells) done
settles_count (suc n) old new done = done.2.count ∙ settles_count n old done.0 done.1

pub settling_settles : EachSettlingSettles
settling_settles old new ends r lt = settles_done (length old.cells) old new ends.0 r (subst (λ (m : ℕ). r < m) (settles_count (length old.cells) old new ends.0) lt)

-- ---- a pass that clears

-- one more region is cleared, or stopped
module _ (n : ℕ) (stop : Option CellFault) (old new : VolumeSeen) (settled : AreSettled old) (step : Clears n stop old new) where
  pub one_left : LeftBy stop (region_at new n)
  one_left = clear_left stop (region_at old n) (region_at new n) (settled n step.inside) step.goes

  pub one_settled : (r : ℕ) → r < length new.cells → r ≢ n → (cell_at new r).stage.phase ≡ Settled
  one_settled r lt apart = ap (λ (c : CellSeen). c.stage.phase) (step.others r apart) ∙ settled r (subst (λ (m : ℕ). r < m) step.count lt)

  pub one_marks : SamePlexMarks old new
  one_marks r k other =
      elim (cases_eq r n) [
        | inl same ↦ subst (λ (m : ℕ). has (cell_at new m).stage.bits k ≡ has (cell_at old m).stage.bits k) (sym same) (clear_marks stop (region_at old n) (region_at new n) (settled n step.inside) step.goes k other)
        | inr apart ↦ ap (λ (c : CellSeen). has c.stage.bits k) (step.others r apart)
      ]

  pub all_settled : (cell_at new n).stage.phase ≡ Settled → AreSettled new
  all_settled here r lt =
      elim (cases_eq r n) [
        | inl same ↦ subst (λ (m : ℕ). (cell_at new m).stage.phase ≡ Settled) (sym same) here
        | inr apart ↦ one_settled r lt apart
      ]

-- the first regions are cleared
record AreCleared (n : ℕ) (old new : VolumeSeen) : Type 0 where
  pub count : length new.cells ≡ length old.cells
  pub settled : AreSettled new
  pub clean : (r : ℕ) → r < n → has (cell_at new r).stage.bits 30 ≡ false
  pub marks : SamePlexMarks old new

cleared : (n : ℕ) (old new : VolumeSeen) → AreSettled old → AreDone Clears n old new → AreCleared n old new
cleared zero old new settled done =
    record {
      count = ap (λ (v : VolumeSeen). length v.cells) done;
      settled = subst AreSettled (sym done) settled;
      clean = λ r lt. absurd (omega (arith, lt));
      marks = λ r k other. ap (λ (v : VolumeSeen). has (cell_at v r).stage.bits k) done;
    }
cleared (suc n) old new settled done =
    let mid = done.0 in
    let step = done.2 in
    let before = cleared n old mid settled done.1 in
    let left = one_left n None mid new before.settled step in
    record {
      count = step.count ∙ before.count;
      settled = all_settled n None mid new before.settled step left.0;
      clean = λ r lt. elim (cases_eq r n) [
        | inl same ↦ subst (λ (m : ℕ). has (cell_at new m).stage.bits 30 ≡ false) (sym same) left.1
        | inr apart ↦ ap (λ (c : CellSeen). has c.stage.bits 30) (step.others r apart) ∙ before.clean r (less r n lt apart)
      ];
      marks = λ r k other. one_marks n None mid new before.settled step r k other ∙ before.marks r k other;
    }

-- the region after them is stopped
stopped : (n : ℕ) (stop : Option CellFault) (old mid new : VolumeSeen) → AreSettled old → AreDone Clears n old mid → Clears n stop mid new → (length new.cells ≡ length old.cells) × SamePlexMarks old new
stopped n stop old mid new settled done step =
    let before = cleared n old mid settled done in
    (step.count ∙ before.count, λ r k other. one_marks n stop mid new before.settled step r k other ∙ before.marks r k other)

pub clear_leaves_rest : EachClearLeavesRest
clear_leaves_rest old new (Ok u) ends settled =
    let all = cleared (length old.cells) old new settled ends.0 in
    (all.count, (all.settled, λ r lt. all.clean r (subst (λ (m : ℕ). r < m) all.count lt)), all.marks)
clear_leaves_rest old new (Err (Fault place)) ends settled =
    let n = ends.0.0 in
    let mid = ends.0.1 in
    let before = cleared n old mid settled ends.0.3 in
    let stop : Option CellFault = Some (cell.Fault place) in
    let rest = stopped n stop old mid new settled ends.0.3 ends.0.4 in
    (rest.0, all_settled n stop mid new before.settled ends.0.4 (one_left n stop mid new before.settled ends.0.4), rest.1)
clear_leaves_rest old new (Err PowerLost) ends settled =
    let n = ends.0.0 in
    let mid = ends.0.1 in
    let before = cleared n old mid settled ends.0.3 in
    let stop : Option CellFault = Some cell.PowerLost in
    let rest = stopped n stop old mid new settled ends.0.3 ends.0.4 in
    let left = one_left n stop mid new before.settled ends.0.4 in (
      rest.0,
      record {
        region = n;
        inside = subst (λ (m : ℕ). n < m) (sym ends.0.4.count) ends.0.4.inside;
        dead = left.0;
        cut = left.1;
        others = one_settled n stop mid new before.settled ends.0.4;
      },
      rest.1,
    )
clear_leaves_rest old new (Err Range) ends settled = absurd ends.1

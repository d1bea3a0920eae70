-- A recovery that is done: what each of its passes leaves of a region.
use Rattle.std.proofs.Common.{◌≡◌, ℕ, zero, suc, ◌<◌, Bool, true, false, refl, sym, ◌∙◌, ap, subst, inl, inr, List, [], ◌∷◌, length, Option, None, Result, Ok, Err, arith}
use Rattle.std.specs.Prelude.{◌||◌}
use Rattle.std.specs.List.{list_any}
use Rattle.std.proofs.lemmas.Bool.{cases_eq}
use Rattle.vx_mask.specs.Mask.{has}
use Rattle.vx_mask.proofs.Tests.{true_or_false}
use Rattle.vx_core.specs.declared.stage.Phase.TheVariants.{Settled}
use Rattle.vx_core.specs.declared.stage.Stage.{Stage}
use Rattle.vx_cell.specs.declared.fault.CellFault.{CellFault}
use Rattle.vx_cell.specs.declared.fault.CellFault.TheVariants as cell
use Rattle.vx_cell.specs.Changes.{CellSeen}
use Rattle.vx_cell.specs.Region.{RegionSeen}
use Rattle.vx_pages.specs.Items.{item_at}
use Rattle.vx_volume.specs.Loop.{AreDone, stop_of}
use Rattle.vx_volume.specs.Passes.{Clears, CopiesTo, Copying, IsClearedAt, IsCopiedAt}
use Rattle.vx_volume.specs.Volume.{VolumeSeen, cell_at, no_cell, region_at}
use Rattle.vx_group_start.specs.Copying.{CopiesMap}
use Rattle.vx_group_stop.specs.Laws.{AreClean, AreSettled, SamePlexMarks}
use Rattle.vx_group_stop.proofs.Passes.{clear_leaves_rest, settles_count, settling_settles}
use Rattle.vx_group_volumes.specs.Copies.{IsUnmarkedAt}
use Rattle.vx_group_volumes.proofs.Copied.{copy_unmarks_all, still_by}
use Rattle.vx_group_volumes.proofs.Tight.{copy_alive, copy_settles, done_of, pass_done}
use Rattle.vx_group_recover.specs.Laws.{EachHealingHeals}

-- ---- a region that is copied

-- a settled region stays settled, its plexes are on as they were, and what was unmarked is still
record Shrinks (s t : Stage) : Type 0 where
  pub on : t.on ≡ s.on
  pub settled : s.phase ≡ Settled → t.phase ≡ Settled
  pub still : (k : ℕ) → IsUnmarkedAt s k → has t.bits k ≡ false

shrinks_none : (s : Stage) → Shrinks s s
shrinks_none s = record { on = refl; settled = λ is. is; still = λ k is. is.unmarked }

shrinks_on : (s t u : Stage) → Shrinks s t → Shrinks t u → Shrinks s u
shrinks_on s t u first then = record {
  on = then.on ∙ first.on;
  settled = λ is. then.settled (first.settled is);
  still = λ k is. then.still k (record { settled = first.settled is.settled; unmarked = first.still k is });
}

copy_shrinks : (map : ℕ) (found : Bool) (old new : RegionSeen) → IsCopiedAt map (Ok found) old new → Shrinks old.stage new.stage
copy_shrinks map found old new is = record {
  on = copy_alive map found old new is (λ alive. (is.ends.ended.ended alive).masks.0);
  settled = λ was. copy_settles map found old new is;
  still = λ k was. still_by map k old.stage new.stage found is.marks was;
}

-- ---- the copies

-- each region has gone so
record AllShrink (old new : VolumeSeen) : Type 0 where
  pub count : length new.cells ≡ length old.cells
  pub each : (r : ℕ) → Shrinks (cell_at old r).stage (cell_at new r).stage

all_none : (v : VolumeSeen) → AllShrink v v
all_none v = record { count = refl; each = λ r. shrinks_none (cell_at v r).stage }

all_on : (u v w : VolumeSeen) → AllShrink u v → AllShrink v w → AllShrink u w
all_on u v w first then = record {
  count = then.count ∙ first.count;
  each = λ r. shrinks_on (cell_at u r).stage (cell_at v r).stage (cell_at w r).stage (first.each r) (then.each r);
}

one_copy : (map n : ℕ) (old new : Copying) → CopiesTo map n None old new → AllShrink old.volume new.volume
one_copy map n old new copies = record {
  count = copies.ends.count;
  each = λ r. elim (cases_eq r n) [
    | inl is ↦ subst (λ (j : ℕ). Shrinks (cell_at old.volume j).stage (cell_at new.volume j).stage) (sym is) here
    | inr apart ↦ subst (λ (c : CellSeen). Shrinks (cell_at old.volume r).stage c.stage) (sym (copies.ends.others r apart)) (shrinks_none (cell_at old.volume r).stage)
  ];
}
  where
    here : Shrinks (cell_at old.volume n).stage (cell_at new.volume n).stage
    here =
        let ok = done_of copies.result copies.stopped in
        copy_shrinks map ok.0 (region_at old.volume n) (region_at new.volume n)
        (subst (λ (x : Result Bool CellFault). IsCopiedAt map x (region_at old.volume n) (region_at new.volume n)) ok.1 copies.ends.goes)

one_pass : (map n : ℕ) (old new : Copying) → AreDone (CopiesTo map) n old new → AllShrink old.volume new.volume
one_pass map zero old new same = subst (λ (c : Copying). AllShrink old.volume c.volume) (sym same) (all_none old.volume)
one_pass map (suc n) old new done = all_on old.volume done.0.volume new.volume (one_pass map n old done.0 done.1) (one_copy map n done.0 new done.2)

one_map : (mask map : ℕ) (old new : VolumeSeen) → CopiesMap mask map None old new → AllShrink old new
one_map mask map old new copies = elim (true_or_false (has mask map)) [
  | inl there ↦
      let pass = copies.pass there in
      let done = pass_done map pass.result old new pass.stopped pass.ends in
      one_pass map (length old.cells) (record { volume = old; copied = 0 }) (record { volume = new; copied = done.0 }) done.1
  | inr away ↦ subst (AllShrink old) (sym (copies.none away).1) (all_none old)
]

all_copies : (mask n : ℕ) (old new : VolumeSeen) → AreDone (CopiesMap mask) n old new → AllShrink old new
all_copies mask zero old new same = subst (AllShrink old) (sym same) (all_none old)
all_copies mask (suc n) old new done = all_on old done.0 new (all_copies mask n old done.0 done.1) (one_map mask n done.0 new done.2)

-- ---- the clear

not_lost : (result : Result (Unit {0}) CellFault) → (let o : Option CellFault = None in o) ≡ stop_of result → result ≡ Err cell.PowerLost → ⊥
not_lost (Ok value) done lost = cc
not_lost (Err fault) done lost = cc

clear_on : (old new : RegionSeen) → IsClearedAt None old new → new.stage.on ≡ old.stage.on
clear_on old new is = (is.ends.ended.ended (λ dead. not_lost is.result is.stopped (is.ends.ended.dead dead).answer)).masks.0

clears_on : (n : ℕ) (old new : VolumeSeen) → AreDone Clears n old new → (r : ℕ) → (cell_at new r).stage.on ≡ (cell_at old r).stage.on
clears_on zero old new same r = ap (λ (v : VolumeSeen). (cell_at v r).stage.on) same
clears_on (suc n) old new done r =
    elim (cases_eq r n) [
      | inl is ↦ subst (λ (j : ℕ). (cell_at new j).stage.on ≡ (cell_at done.0 j).stage.on) (sym is) (clear_on (region_at done.0 n) (region_at new n) done.2.goes)
      | inr apart ↦ ap (λ (c : CellSeen). c.stage.on) (done.2.others r apart)
    ]
    ∙ clears_on n old done.0 done.1 r

-- ---- the whole

or_left : (a b : Bool) → (a || b) ≡ false → a ≡ false
or_left true b e = cc
or_left false b e = refl

or_right : (a b : Bool) → (a || b) ≡ false → b ≡ false
or_right true b e = cc
or_right false b e = e

-- what holds of none of them holds of no one
none_at : (p : CellSeen → Bool) (cells : List CellSeen) (r : ℕ) → list_any p cells ≡ false → r < length cells → p (item_at no_cell cells r) ≡ false
none_at p [] r none lt = absurd (omega (arith, lt))
none_at p (c ∷ cells) zero none lt = or_left (p c) (list_any p cells) none
none_at p (c ∷ cells) (suc r) none lt = none_at p cells r (or_right (p c) (list_any p cells) none) (omega (arith, lt))

pub healing_heals : EachHealingHeals
healing_heals old new healed is = (rest.0 ∙ copies.count ∙ settles_count (length old.cells) old is.mid is.settled.settled.0, record { settled = rest.1.0; clean = rest.1.1; unmarked = unmarked })
  where
    mid_settled : AreSettled is.mid
    mid_settled = settling_settles old is.mid is.settled.settled

    copies : AllShrink is.mid is.whole
    copies = all_copies is.mask is.copied.maps is.mid is.whole is.copied.made

    inside : (r : ℕ) → r < length is.whole.cells → r < length is.mid.cells
    inside r lt = subst (λ (m : ℕ). r < m) copies.count lt

    whole_settled : AreSettled is.whole
    whole_settled r lt = (copies.each r).settled (mid_settled r (inside r lt))

    rest : (length new.cells ≡ length is.whole.cells) × (AreSettled new × AreClean new) × SamePlexMarks is.whole new
    rest = clear_leaves_rest is.whole new (Ok tt) is.cleared whole_settled

    unmarked_whole : (r k : ℕ) → r < length is.whole.cells → k < 64 → has (cell_at is.whole r).stage.on k ≡ true → has (cell_at is.whole r).stage.bits k ≡ false
    unmarked_whole r k lt low on = elim (true_or_false (has is.mask k)) [
      | inl there ↦ (copy_unmarks_all is.mask healed.copied is.mid is.whole is.copied r k lt low there on).unmarked
      | inr away ↦ (copies.each r).still k (record {
        settled = mid_settled r (inside r lt);
        unmarked = none_at (λ (c : CellSeen). has c.stage.bits k) is.mid.cells r (sym (is.settled.marks k) ∙ away) (inside r lt);
      })
    ]

    unmarked : (r k : ℕ) → r < length new.cells → k < 64 → has (cell_at new r).stage.on k ≡ true → has (cell_at new r).stage.bits k ≡ false
    unmarked r k lt low on = elim (cases_eq k 30) [
      | inl dirty ↦ subst (λ (j : ℕ). has (cell_at new r).stage.bits j ≡ false) (sym dirty) (rest.1.1 r lt)
      | inr apart ↦ rest.2 r k apart ∙ unmarked_whole r k (subst (λ (m : ℕ). r < m) rest.0 lt) low (subst (λ (m : ℕ). has m k ≡ true) (clears_on (length is.whole.cells) is.whole new is.cleared.0 r) on)
    ]

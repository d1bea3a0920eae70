-- A plex that is on and marked in each region misses them all.
use Rattle.std.proofs.Common.{◌≡◌, ◌≢◌, ◌∙◌, ℕ, zero, suc, ◌<◌, ◌==◌, Bool, true, false, cond, List, [], ◌∷◌, length, refl, ap, arith}
use Rattle.std.specs.Prelude.{◌&&◌, not, count_by}
use Rattle.std.proofs.lemmas.Bool.{false≢true}
use Rattle.std.proofs.lemmas.Bool.Decides.{nat_tests}
use Rattle.std.proofs.lemmas.List.Sums.{sum_by-cons}
use Rattle.vx_mask.specs.Mask.{has, without}
use Rattle.vx_mask.proofs.MaskLemmas.{has-without, not_empty}
use Rattle.vx_cell.specs.Changes.{CellSeen}
use Rattle.vx_pages.specs.Items.{item_at}
use Rattle.vx_group_start.specs.Copying.{common, misses}
use Rattle.vx_volume.specs.Volume.{cell_at, no_cell}
use Rattle.vx_stage_mirrors.specs.CopyingLaws.{EachMarkedRegionIsMissed}

kept : (a b : Bool) → a ≡ true → b ≡ true → (a && not (a && not b)) ≡ true
kept true true e f = refl
kept true false e f = absurd (false≢true f)
kept false b e f = e

has_common : (a b k : ℕ) → has a k ≡ true → has b k ≡ true → has (common a b) k ≡ true
has_common a b k e f = has-without a (without a b) k ∙ ap (λ (x : Bool). has a k && not x) (has-without a b k) ∙ kept (has a k) (has b k) e f

some_left : (n : ℕ) → n ≢ 0 → not (n == 0) ≡ true
some_left zero some = absurd (some refl)
some_left (suc n) some = grind (arith, nat_tests)

count_all : (p : CellSeen → Bool) (cells : List CellSeen) → ((i : ℕ) → i < length cells → p (item_at no_cell cells i) ≡ true) → count_by p cells ≡ length cells
count_all p [] each = refl
count_all p (x ∷ xs) each =
    let here : ◌≡◌ {A = ℕ} (cond (p x) 1 0) 1 = ap (λ (b : Bool). cond b 1 0) (each 0 (omega arith)) in
    let rest = count_all p xs (λ i lt. each (suc i) (omega (arith, lt))) in
    let sum = sum_by-cons (λ (y : CellSeen). cond (p y) 1 0) x xs in
    omega (arith, here, rest, sum)

pub marked_missed : EachMarkedRegionIsMissed
marked_missed mask k v low in_mask on marked = count_all (λ (cell : CellSeen). misses mask cell.stage) v.cells (λ r lt.
    let stage = (cell_at v r).stage in
    some_left _ (not_empty _ k (has_common (common mask stage.on) stage.bits k (has_common mask stage.on k in_mask (on r lt)) (marked r lt))))

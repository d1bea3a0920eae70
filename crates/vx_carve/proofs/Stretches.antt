-- Stretches of disks, one of each disk.
use Rattle.std.proofs.Common.{◌≡◌, ◌≢◌, ℕ, zero, suc, ◌+◌, ◌<◌, ◌≤◌, Bool, true, false, cond, List, [], ◌∷◌, length, get_or, refl, sym, ap, ◌∙◌, arith}
use Rattle.std.specs.Prelude.{slice_index}
use Rattle.std.specs.List.{All}
use Rattle.std.proofs.lemmas.List.Sums.{sum_by-cons}
use Rattle.std.proofs.lemmas.List.Elements.{All-head, All-tail}
use Rattle.vx_piece.specs.Seen.{Seen}
use Rattle.vx_layout.specs.declared.run.Run.{Run}
use Rattle.vx_carve.specs.Together.{covers_at, AreOnce}
use Rattle.vx_carve.specs.Carved.{ArePieces, HaveNumbers, wants, wanted}
use Rattle.vx_carve.specs.Strips.{AreOfDisks, IsOpenRun, HaveTogether}
use Rattle.vx_carve.proofs.Spans.{at_number, pieces_have}
use Rattle.vx_carve.proofs.Runs.{inside}

module _ (numbers : List ℕ) (have : HaveNumbers numbers) where
  -- none of the runs is of the disk
  none_wanted : (runs : List Run) (device sector : ℕ) → All (λ (r : Run). slice_index numbers r.disk ≢ device) runs → wanted numbers device sector runs ≡ 0
  none_wanted [] device sector others = refl
  none_wanted (run ∷ runs) device sector others = by (covers_at (slice_index numbers run.disk) (2048 + run.sector) run.count device sector) refl (none_wanted runs device sector (All-tail (λ (r : Run). slice_index numbers r.disk ≢ device) run runs others))
    where
      by : (v : Bool) → v ≡ covers_at (slice_index numbers run.disk) (2048 + run.sector) run.count device sector → wanted numbers device sector runs ≡ 0 → wanted numbers device sector (run ∷ runs) ≡ 0
      by true e rest = absurd (All-head (λ (r : Run). slice_index numbers r.disk ≢ device) run runs others (at_number (slice_index numbers run.disk) (2048 + run.sector) run.count device sector (sym e)).0)
      by false e rest =
          let no : wants numbers device sector run ≡ 0 = ap (λ b. cond b 1 0) (sym e) in
          let sum = sum_by-cons (wants numbers device sector) run runs in
          omega (arith, no, sum, rest)

  fewer : (run : Run) (runs : List Run) → AreOfDisks numbers (run ∷ runs) → AreOfDisks numbers runs
  fewer run runs of = record {
    numbered = All-tail (λ (r : Run). r.disk < length numbers) run runs of.numbered;
    differ = λ j k d lt lt' same. let e = of.differ (suc j) (suc k) d (omega (arith, lt)) (omega (arith, lt')) same in omega (arith, e);
  }

  -- the others are of other disks
  others_differ : (run : Run) (runs : List Run) (device : ℕ) → AreOfDisks numbers (run ∷ runs) → slice_index numbers run.disk ≡ device → All (λ (r : Run). slice_index numbers r.disk ≢ device) runs
  others_differ run runs device of here k d lt same =
      let other = get_or runs k d in
      let e : run.disk ≡ other.disk = have run.disk other.disk (All-head (λ (r : Run). r.disk < length numbers) run runs of.numbered) (All-tail (λ (r : Run). r.disk < length numbers) run runs of.numbered k d lt) (here ∙ sym same) in
      let wrong : 0 ≡ suc k = of.differ 0 (suc k) d (omega arith) (omega (arith, lt)) e in
      omega (arith, wrong)

  once_wanted : (runs : List Run) (device sector : ℕ) → AreOfDisks numbers runs → wanted numbers device sector runs ≤ 1
  once_wanted [] device sector of = omega arith
  once_wanted (run ∷ runs) device sector of = by (covers_at (slice_index numbers run.disk) (2048 + run.sector) run.count device sector) refl (once_wanted runs device sector (fewer run runs of))
    where
      sum : wanted numbers device sector (run ∷ runs) ≡ wants numbers device sector run + wanted numbers device sector runs
      sum = sum_by-cons (wants numbers device sector) run runs

      by : (v : Bool) → v ≡ covers_at (slice_index numbers run.disk) (2048 + run.sector) run.count device sector → wanted numbers device sector runs ≤ 1 → wanted numbers device sector (run ∷ runs) ≤ 1
      by false e rest = let no : wants numbers device sector run ≡ 0 = ap (λ b. cond b 1 0) (sym e) in omega (arith, no, sum, rest)
      by true e rest =
          let yes : wants numbers device sector run ≡ 1 = ap (λ b. cond b 1 0) (sym e) in
          let here = (at_number (slice_index numbers run.disk) (2048 + run.sector) run.count device sector (sym e)).0 in
          let none = none_wanted runs device sector (others_differ run runs device of here) in
          omega (arith, yes, sum, none)

  -- a sector of a run is wanted
  some_wanted : (runs : List Run) (k : ℕ) (d : Run) → k < length runs → (i : ℕ) → i < (get_or runs k d).count → 0 < wanted numbers (slice_index numbers (get_or runs k d).disk) (2048 + (get_or runs k d).sector + i) runs
  some_wanted [] k d lt i less = absurd (omega (arith, lt))
  some_wanted (run ∷ runs) zero d lt i less =
      let sum = sum_by-cons (wants numbers (slice_index numbers run.disk) (2048 + run.sector + i)) run runs in
      let here : wants numbers (slice_index numbers run.disk) (2048 + run.sector + i) run ≡ 1 = inside (slice_index numbers run.disk) (2048 + run.sector) run.count i less in
      omega (arith, sum, here)
  some_wanted (run ∷ runs) (suc k) d lt i less =
      let r = get_or runs k d in
      let sum = sum_by-cons (wants numbers (slice_index numbers r.disk) (2048 + r.sector + i)) run runs in
      let there = some_wanted runs k d (omega (arith, lt)) i less in
      omega (arith, sum, there)

pub pieces_together : (numbers : List ℕ) (runs : List Run) (ps : List Seen) → ArePieces numbers runs ps → HaveTogether numbers runs ps
pieces_together numbers runs ps are device sector = pieces_have numbers runs ps device sector are

pub stretches_free : (numbers : List ℕ) (stretches : List Run) (ps : List Seen) → HaveNumbers numbers → AreOfDisks numbers stretches → HaveTogether numbers stretches ps → AreOnce ps × All (IsOpenRun numbers ps) stretches
stretches_free numbers stretches ps have of together = (once, free)
  where
    once : AreOnce ps
    once device sector =
        let all = together device sector in
        let few = once_wanted numbers have stretches device sector of in
        omega (arith, all, few)

    free : All (IsOpenRun numbers ps) stretches
    free k d lt = (
      of.numbered k d lt,
      λ i less.
          let r = get_or stretches k d in
          let all = together (slice_index numbers r.disk) (2048 + r.sector + i) in
          let few = once_wanted numbers have stretches (slice_index numbers r.disk) (2048 + r.sector + i) of in
          let some = some_wanted numbers have stretches k d lt i less in
          omega (arith, all, few, some),
    )

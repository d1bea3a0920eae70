-- The strip of a sector, by where the strips end.
use Rattle.std.proofs.Common.{◌≡◌, ℕ, zero, suc, ◌+◌, ◌-◌, ◌<◌, ◌≤◌, true, false, List, [], ◌∷◌, length, get_or, Some, None, arith, refl, sym, ◌∙◌, ap, subst, ltb, leb}
use Rattle.std.specs.List.Sorted.{IsNonDecreasingBy, IsPartitionedBy, IsPartitionPoint}
use Rattle.std.proofs.lemmas.Bool.{cond-true, cond-false, lt-ltb, le-ltb, leb-true, leb-false}
use Rattle.std.proofs.lemmas.List.Sorted.{IsPartitionedBy-leb}
use Rattle.vx_layout.specs.declared.strip.Strip.{Strip}
use Rattle.vx_layout.specs.Columns.{rest_in}
use Rattle.vx_layout.specs.Ends.{ends_of, ArePassed}

-- each strip has an end
pub ends_length : (start : ℕ) (strips : List Strip) → length (ends_of start strips) ≡ length strips
ends_length start [] = refl
ends_length start (strip ∷ strips) = ap suc (ends_length (start + strip.count) strips)

-- no strip ends before the first begins
not_before : (start : ℕ) (strips : List Strip) (j d : ℕ) → j < length (ends_of start strips) → start ≤ get_or (ends_of start strips) j d
not_before start [] j d lt = absurd (omega arith)
not_before start (strip ∷ strips) zero d lt = omega arith
not_before start (strip ∷ strips) (suc j) d lt = let next = not_before (start + strip.count) strips j d (omega arith) in omega (arith, next)

rising : (start : ℕ) (strips : List Strip) → IsNonDecreasingBy (λ (end : ℕ). end) (ends_of start strips)
rising start [] i j d le lt = absurd (omega arith)
rising start (strip ∷ strips) zero zero d le lt = omega arith
rising start (strip ∷ strips) zero (suc j) d le lt = not_before (start + strip.count) strips j d (omega arith)
rising start (strip ∷ strips) (suc i) zero d le lt = absurd (omega arith)
rising start (strip ∷ strips) (suc i) (suc j) d le lt = rising (start + strip.count) strips i j d (omega arith) (omega arith)

-- the strips that end before a sector, or at it, come first
pub passed_first : (strips : List Strip) (sector : ℕ) → IsPartitionedBy (λ (end : ℕ). leb end sector) (ends_of 0 strips)
passed_first strips sector = IsPartitionedBy-leb (λ (end : ℕ). end) (ends_of 0 strips) sector (rising 0 strips)

-- what is left of the strip that ends there is what is left at the sector
pub record IsRest (strips : List Strip) (sector at end : ℕ) (strip : Strip) : Type 0 where
  pub below : sector < end
  pub within : end ≤ sector + strip.count
  pub is : rest_in strips at ≡ Some (record { disk = strip.disk; start = strip.start + (strip.count - (end - sector)); count = end - sector })

one_strip : (d s t n m : ℕ) → s ≡ t → n ≡ m → (let strip : Strip = record { disk = d; start = s; count = n } in Some strip) ≡ Some (record { disk = d; start = t; count = m })
one_strip d s t n m p q = λ i. Some (record { disk = d; start = p i; count = q i })

first_rest : (strips : List Strip) (first : Strip) (start sector end : ℕ) → start ≤ sector → sector < end → end ≡ start + first.count → IsRest (first ∷ strips) sector (sector - start) end first
first_rest strips first start sector end from lt is = record {
  below = lt;
  within = omega (arith, is);
  is =
      let here : ltb (sector - start) first.count ≡ true = lt-ltb (sector - start) first.count (omega (arith, is)) in
      cond-true _ _ _ here
      ∙ one_strip first.disk (first.start + (sector - start)) (first.start + (first.count - (end - sector))) (first.count - (sector - start)) (end - sector) (omega (arith, is)) (omega (arith, is));
}

next_rest : (strips : List Strip) (first : Strip) (start sector end : ℕ) (strip : Strip) → start + first.count ≤ sector → IsRest strips sector (sector - (start + first.count)) end strip →
    IsRest (first ∷ strips) sector (sector - start) end strip
next_rest strips first start sector end strip from rest = record {
  below = rest.below;
  within = rest.within;
  is =
      let past : ltb (sector - start) first.count ≡ false = le-ltb (sector - start) first.count (omega arith) in
      let at : sector - start - first.count ≡ sector - (start + first.count) = omega arith in
      cond-false _ _ _ past ∙ ap (rest_in strips) at ∙ rest.is;
}

rest_behind : (start : ℕ) (strips : List Strip) (k sector end : ℕ) (strip : Strip) → start ≤ sector → k < length strips → strip ≡ get_or strips k strip → end ≡ get_or (ends_of start strips) k end →
    ((i : ℕ) → i < k → get_or (ends_of start strips) i 0 ≤ sector) → sector < end → IsRest strips sector (sector - start) end strip
rest_behind start [] k sector end strip from inside here ends passed lt = absurd (omega arith)
rest_behind start (first ∷ strips) zero sector end strip from inside here ends passed lt =
    let P : Strip → Type 0 = λ s. IsRest (first ∷ strips) sector (sector - start) end s in
    subst P (sym here) (first_rest strips first start sector end from lt ends)
rest_behind start (first ∷ strips) (suc k) sector end strip from inside here ends passed lt =
    let before : start + first.count ≤ sector = passed 0 (omega arith) in
    next_rest strips first start sector end strip before
    (rest_behind (start + first.count) strips k sector end strip before (omega arith) here ends (λ i less. passed (suc i) (omega arith)) lt)

nothing_behind : (start : ℕ) (strips : List Strip) (sector : ℕ) → start ≤ sector → ((i : ℕ) → i < length strips → get_or (ends_of start strips) i 0 ≤ sector) → rest_in strips (sector - start) ≡ None
nothing_behind start [] sector from passed = refl
nothing_behind start (first ∷ strips) sector from passed =
    let before : start + first.count ≤ sector = passed 0 (omega arith) in
    let past : ltb (sector - start) first.count ≡ false = le-ltb (sector - start) first.count (omega arith) in
    let at : sector - start - first.count ≡ sector - (start + first.count) = omega arith in
    cond-false _ _ _ past ∙ ap (rest_in strips) at ∙ nothing_behind (start + first.count) strips sector before (λ i less. passed (suc i) (omega arith))

-- the numbers of the clause, in place of its tests
pub are_passed : (strips : List Strip) (ends : List ℕ) (sector k : ℕ) → ends ≡ ends_of 0 strips → k ≤ length ends →
    IsPartitionPoint (λ (end : ℕ). leb end sector ≡ true) (λ (end : ℕ). leb end sector ≡ false) ends k → ArePassed strips sector k
are_passed strips ends sector k same few point =
    let P : List ℕ → Type 0 = λ es. IsPartitionPoint (λ (end : ℕ). end ≤ sector) (λ (end : ℕ). sector < end) es k in
    record {
      few = omega (arith, ap (λ (es : List ℕ). length es) same, ends_length 0 strips);
      point = subst P same ((λ i d from lt. leb-true (get_or ends i d) sector (point.0 i d from lt)), (λ i d from lt. leb-false (get_or ends i d) sector (point.1 i d from lt)));
    }

module _ (strips view : List Strip) (ends : List ℕ) (sector k : ℕ) (same : strips ≡ view) (summed : ends ≡ ends_of 0 strips) (passed : ArePassed view sector k) where
  passed_here : ArePassed strips sector k
  passed_here = let P : List Strip → Type 0 = λ xs. ArePassed xs sector k in subst P (sym same) passed

  -- each strip has an end
  pub end_there : (k ≡ length strips → ⊥) → k < length ends
  end_there more = omega (arith, more, passed_here.few, ap (λ (es : List ℕ). length es) summed, ends_length 0 strips)

  -- the strip behind those that are passed has the sector
  pub rest_found : (end : ℕ) (strip : Strip) → (k ≡ length strips → ⊥) → strip ≡ get_or strips k strip → end ≡ get_or ends k end → IsRest view sector sector end strip
  rest_found end strip more here ends_here =
      let At : ℕ → Type 0 = λ at. IsRest strips sector at end strip in
      let In : List Strip → Type 0 = λ xs. IsRest xs sector sector end strip in
      let inside : k < length strips = omega (arith, more, passed_here.few) in
      let is : end ≡ get_or (ends_of 0 strips) k end = ends_here ∙ ap (λ (es : List ℕ). get_or es k end) summed in
      let above : sector < get_or (ends_of 0 strips) k end = passed_here.point.1 k end (omega arith) (omega (arith, inside, ends_length 0 strips)) in
      let zero_less : sector - 0 ≡ sector = omega arith in
      subst In same (subst At zero_less (rest_behind 0 strips k sector end strip (omega arith) inside here is (λ i lt. passed_here.point.0 i 0 (omega arith) lt) (omega (arith, above, is))))

  -- where all are passed, none has the sector
  pub nothing_found : k ≡ length strips → rest_in view sector ≡ None
  nothing_found all =
      let none_less : sector ≡ sector - 0 = omega arith in
      let none : rest_in strips (sector - 0) ≡ None = nothing_behind 0 strips sector (omega arith) (λ i lt. passed_here.point.0 i 0 (omega arith) (omega (arith, all))) in
      ap (λ (xs : List Strip). rest_in xs sector) (sym same) ∙ ap (rest_in strips) none_less ∙ none

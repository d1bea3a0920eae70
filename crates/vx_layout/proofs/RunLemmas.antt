-- Runs that are joined, and one run more.
use Rattle.std.proofs.Common.{◌≡◌, ℕ, ◌+◌, ◌-◌, List, [], ◌∷◌, ◌++◌, Option, Some, arith, refl, sym, ◌∙◌, ap, inl, inr, subst, min}
use Rattle.std.proofs.lemmas.Bool.{cases_lt}
use Rattle.vx_layout.specs.declared.strip.Strip.{Strip}
use Rattle.vx_layout.specs.declared.place.Place.{Place}
use Rattle.vx_layout.specs.declared.run.Run.{Run}
use Rattle.vx_layout.specs.Columns.{place_of, rest_in, column_at, column_of, sector_of}
use Rattle.vx_layout.specs.Runs.{IsRun, Continues, AreRuns, IsInUnit}
use Rattle.vx_layout.proofs.ColumnLemmas.{Follows, rest_follows}

abbrev pub IsApartAfter : Run → List Run → Run → Type 0
IsApartAfter last [] run = ¬ Continues last run
IsApartAfter first (last ∷ rest) run = IsApartAfter last rest run

-- the last of these runs could not be joined with this one
abbrev pub IsLastApart : List Run → Run → Type 0
IsLastApart [] run = Unit {0}
IsLastApart (first ∷ rest) run = IsApartAfter first rest run

longer_after : (first : Run) (rest : List Run) (run longer : Run) → longer.disk ≡ run.disk → longer.sector ≡ run.sector → IsApartAfter first rest run → IsApartAfter first rest longer
longer_after first [] run longer d s apart = λ continues. apart (sym d ∙ continues.0, sym s ∙ continues.1)
longer_after first (last ∷ rest) run longer d s apart = longer_after last rest run longer d s apart

pub longer_last : (runs : List Run) (run longer : Run) → longer.disk ≡ run.disk → longer.sector ≡ run.sector → IsLastApart runs run → IsLastApart runs longer
longer_last [] run longer d s apart = apart
longer_last (first ∷ rest) run longer d s apart = longer_after first rest run longer d s apart

pushed_after : (first : Run) (rest : List Run) (run next : Run) → (Continues run next → ⊥) → IsApartAfter first (rest ++ run ∷ []) next
pushed_after first [] run next apart = apart
pushed_after first (last ∷ rest) run next apart = pushed_after last rest run next apart

pub pushed_last : (runs : List Run) (run next : Run) → (Continues run next → ⊥) → IsLastApart (runs ++ run ∷ []) next
pushed_last [] run next apart = apart
pushed_last (first ∷ rest) run next apart = pushed_after first rest run next apart

one_place : (d e s t : ℕ) → d ≡ e → s ≡ t → (let place : Place = record { disk = d; sector = s } in Some place) ≡ Some (record { disk = e; sector = t })
one_place d e s t p q = λ i. Some (record { disk = p i; sector = q i })

rest_is : (strips : List Strip) (sector : ℕ) (found : Option Strip) (rest : Strip) → found ≡ Some rest → Follows strips sector found → Follows strips sector (Some rest)
rest_is strips sector found rest e follows = let P : Option Strip → Type 0 = λ o. Follows strips sector o in subst P e follows

module _ (unit : ℕ) (columns : List (List Strip)) where
  -- one run more
  pub one_run_more : (start end : ℕ) (runs : List Run) (run : Run) → AreRuns unit columns start end runs → IsLastApart runs run → run.block ≡ end → IsRun unit columns run →
      AreRuns unit columns start (end + run.count) (runs ++ run ∷ [])
  one_run_more start end [] run are apart at is = (at ∙ sym are, is, tt, ap (λ (n : ℕ). n + run.count) are)
  one_run_more start end (first ∷ []) run are apart at is = (are.0, are.1, apart, one_run_more (start + first.count) end [] run are.3 tt at is)
  one_run_more start end (first ∷ second ∷ rest) run are apart at is = (are.0, are.1, are.2, one_run_more (start + first.count) end (second ∷ rest) run are.3 apart at is)

  -- two runs that follow each other on the disk are one
  pub joined_run : (first second joined : Run) → IsRun unit columns first → IsRun unit columns second → Continues first second → second.block ≡ first.block + first.count →
      joined.disk ≡ first.disk → joined.sector ≡ first.sector → joined.block ≡ first.block → joined.count ≡ first.count + second.count → IsRun unit columns joined
  joined_run first second joined is is' continues at d s b n = record {
    some = omega (arith, n, is.some);
    places = λ i lt. elim (cases_lt i first.count) [
      | inl front ↦
          ap (λ (k : ℕ). place_of unit columns (k + i)) b ∙ is.places i front ∙ one_place first.disk joined.disk (first.sector + i) (joined.sector + i) (sym d) (ap (λ (k : ℕ). k + i) (sym s))
      | inr back ↦
          let place : joined.block + i ≡ second.block + (i - first.count) = omega (arith, b, at) in
          let sector : second.sector + (i - first.count) ≡ joined.sector + i = omega (arith, s, continues.1) in
          ap (place_of unit columns) place ∙ is'.places (i - first.count) (omega (arith, n)) ∙ one_place second.disk joined.disk (second.sector + (i - first.count)) (joined.sector + i) (continues.0 ∙ sym d) sector
    ];
  }

  -- the open run is closed
  pub closed_runs : (start end : ℕ) (runs runs' : List Run) (open_run : Run) → AreRuns unit columns start open_run.block runs → IsLastApart runs open_run → IsRun unit columns open_run →
      runs' ≡ runs ++ open_run ∷ [] → open_run.block + open_run.count ≡ end → AreRuns unit columns start end runs'
  closed_runs start end runs runs' open_run are apart is e at =
      let To : ℕ → Type 0 = λ n. AreRuns unit columns start n (runs ++ open_run ∷ []) in
      let Of : List Run → Type 0 = λ rs. AreRuns unit columns start end rs in
      subst Of (sym e) (subst To at (one_run_more start open_run.block runs open_run are apart refl is))

  -- where a run begins
  pub first_place : (run : Run) (block : ℕ) → IsRun unit columns run → run.block ≡ block → place_of unit columns block ≡ Some (record { disk = run.disk; sector = run.sector })
  first_place run block is at =
      let same : block ≡ run.block + 0 = omega (arith, at) in
      ap (place_of unit columns) same ∙ is.places 0 is.some ∙ one_place run.disk run.disk (run.sector + 0) run.sector refl (omega arith)

  -- blocks of one unit and of one strip are a run
  pub run_from : (block most count n : ℕ) (rest : Strip) → IsInUnit unit columns block most count →
      rest_in (column_at columns (column_of unit columns block)) (sector_of unit columns block) ≡ Some rest → n ≡ min count rest.count →
      IsRun unit columns (record { disk = rest.disk; sector = rest.start; count = n; block = block })
  run_from block most count n rest in_unit is e =
      let strips : List Strip = column_at columns (column_of unit columns block) in
      let follows : Follows strips (sector_of unit columns block) (Some rest) = rest_is strips (sector_of unit columns block) (rest_in strips (sector_of unit columns block)) rest is (rest_follows strips (sector_of unit columns block)) in
      record {
        some = omega (arith, e, follows.0, in_unit.some);
        places = λ i lt. in_unit.places i (omega (arith, e)) ∙ follows.1 i (omega (arith, e));
      }

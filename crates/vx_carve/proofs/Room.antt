-- Strips that lie in runs of disks.
use Rattle.std.proofs.Common.{◌≡◌, ℕ, ◌+◌, ◌-◌, true, List, [], ◌∷◌, sym, ap, ◌∙◌, arith, inl, inr}
use Rattle.std.specs.Prelude.{slice_index, ◌==◌, ◌&&◌, nat_le}
use Rattle.std.specs.List.{All, list_all}
use Rattle.std.proofs.lemmas.Bool.{and_parts, or_cases, eqb-true, leb-true, false≢true}
use Rattle.std.proofs.lemmas.List.Elements.{All-nil, All-cons, All-head, All-tail}
use Rattle.vx_piece.specs.Seen.{Seen}
use Rattle.vx_layout.specs.declared.strip.Strip.{Strip}
use Rattle.vx_layout.specs.declared.run.Run.{Run}
use Rattle.vx_carve.specs.Together.{owners}
use Rattle.vx_carve.specs.Strips.{EachStrip, HasNumber, IsFreeStrip, IsOpenRun, lies_in, all_lie_in}

module _ (numbers : List ℕ) (ps : List Seen) where
  abbrev HasRoom : Strip → Type 0
  HasRoom strip = HasNumber numbers strip × IsFreeStrip numbers ps strip

  in_one : (r : Run) (strip : Strip) → IsOpenRun numbers ps r → (r.disk == strip.disk && nat_le r.sector strip.start && nat_le (strip.start + strip.count) (r.sector + r.count)) ≡ true → HasRoom strip
  in_one r strip is inside =
      let parts = and_parts (r.disk == strip.disk && nat_le r.sector strip.start) (nat_le (strip.start + strip.count) (r.sector + r.count)) inside in
      let first = and_parts (r.disk == strip.disk) (nat_le r.sector strip.start) parts.0 in
      let slot = eqb-true r.disk strip.disk first.0 in
      let from = leb-true r.sector strip.start first.1 in
      let room = leb-true (strip.start + strip.count) (r.sector + r.count) parts.1 in
      let number = is.0 in (
        omega (arith, slot, number),
        λ k lt.
            let at : 2048 + r.sector + (strip.start - r.sector + k) ≡ 2048 + strip.start + k = omega (arith, from) in
            ap (λ n. owners (slice_index numbers n) (2048 + strip.start + k) ps) (sym slot) ∙ ap (λ s. owners (slice_index numbers r.disk) s ps) (sym at) ∙ is.1 (strip.start - r.sector + k) (omega (arith, lt, room, from)),
      )

  in_some : (runs : List Run) (strip : Strip) → All (IsOpenRun numbers ps) runs → lies_in runs strip ≡ true → HasRoom strip
  in_some [] strip all on = absurd (false≢true on)
  in_some (r ∷ runs) strip all on = elim (or_cases (r.disk == strip.disk && nat_le r.sector strip.start && nat_le (strip.start + strip.count) (r.sector + r.count)) (lies_in runs strip) on) [
    | inl here ↦ in_one r strip (All-head (IsOpenRun numbers ps) r runs all) here
    | inr there ↦ in_some runs strip (All-tail (IsOpenRun numbers ps) r runs all) there
  ]

  strips_room : (runs : List Run) (strips : List Strip) → All (IsOpenRun numbers ps) runs → list_all (lies_in runs) strips ≡ true → All HasRoom strips
  strips_room runs [] all on = All-nil HasRoom
  strips_room runs (strip ∷ strips) all on =
      let parts = and_parts (lies_in runs strip) (list_all (lies_in runs) strips) on in
      All-cons HasRoom strip strips (in_some runs strip all parts.0) (strips_room runs strips all parts.1)

  columns_room : (runs : List Run) (columns : List (List Strip)) → All (IsOpenRun numbers ps) runs → all_lie_in runs columns ≡ true → EachStrip HasRoom columns
  columns_room runs [] all on = All-nil (λ strips. All HasRoom strips)
  columns_room runs (strips ∷ columns) all on =
      let parts = and_parts (list_all (lies_in runs) strips) (all_lie_in runs columns) on in
      All-cons (λ strips. All HasRoom strips) strips columns (strips_room runs strips all parts.0) (columns_room runs columns all parts.1)

pub strips_free : (numbers : List ℕ) (runs : List Run) (ps : List Seen) (columns : List (List Strip)) → All (IsOpenRun numbers ps) runs → all_lie_in runs columns ≡ true →
    EachStrip (HasNumber numbers) columns × EachStrip (IsFreeStrip numbers ps) columns
strips_free numbers runs ps columns all on =
    let both = columns_room numbers ps runs columns all on in
    (λ i d lt j e lt'. (both i d lt j e lt').0, λ i d lt j e lt'. (both i d lt j e lt').1)

-- Copies of a log that were taken have room for it.
use Rattle.std.proofs.Common.{subst, ◌≡◌, ℕ, ◌+◌, ◌*◌, ◌≤◌, List, [], ◌∷◌, length, get_or, Result, Ok, Err, arith}
use Rattle.std.specs.Prelude.{IfOk}
use Rattle.std.specs.List.{All}
use Rattle.std.proofs.lemmas.List.Elements.{All-nil, All-cons}
use Rattle.vx_piece.specs.Seen.{Seen}
use Rattle.vx_runs.specs.Run.{run_sectors}
use Rattle.vx_layout.specs.declared.layout.Layout.{Layout}
use Rattle.vx_layout.specs.declared.run.Run.{Run}
use Rattle.vx_layout.specs.declared.strip.Strip.{Strip}
use Rattle.vx_layout.specs.Runs.{AreRuns}
use Rattle.vx_carve.specs.Carved.{ArePieces, AreCut, StaysBeside}
use Rattle.vx_cut.specs.Same.{HasSome}
use Rattle.vx_maps.specs.Copies.{IsCopy}
use Rattle.vx_lending.specs.Taken.{AreLogCopies, AreTakenCopies}

-- what holds of a result by two facts of it
pub if_both : {A E : Type 0} (r : Result A E) (F G H : A → Type 0) → ((x : A) → F x → G x → H x) → IfOk r F → IfOk r G → IfOk r H
if_both (Ok x) F G H on f g = on x f g
if_both (Err e) F G H on f g = tt

runs_cover : (numbers : List ℕ) (unit : ℕ) (columns : List (List Strip)) (start end : ℕ) (runs : List Run) (ps : List Seen) → AreRuns unit columns start end runs → ArePieces numbers runs ps → (start + run_sectors ps ≡ end) × All HasSome ps
runs_cover numbers unit columns start end [] [] are of = (omega (arith, are), All-nil HasSome)
runs_cover numbers unit columns start end [] (p ∷ ps) are of = absurd of
runs_cover numbers unit columns start end (run ∷ runs) [] are of = absurd of
runs_cover numbers unit columns start end (run ∷ runs) (p ∷ ps) are of =
    let rest = runs_cover numbers unit columns (start + run.count) end runs ps are.3 of.1 in
    let sum = rest.0 in
    let here = of.0.count_is in
    let some = are.1.some in
    (omega (arith, sum, here), All-cons HasSome p ps (omega (arith, here, some)) rest.1)

copy_is : (numbers : List ℕ) (l : Layout) (size : ℕ) (ps : List Seen) → AreCut numbers l.unit l.columns 0 (35 * size) ps → IsCopy size ps
copy_is numbers l size ps cut =
    let both = runs_cover numbers l.unit l.columns 0 (35 * size) cut.runs ps cut.are_runs cut.pieces in
    let sum = both.0 in
    record { some = both.1; room = omega (arith, sum) }

-- there are two at most
pub log_copies : (numbers : List ℕ) (logs : List Layout) (size : ℕ) (copies : List (List Seen)) → length logs ≤ 2 → AreTakenCopies numbers logs (35 * size) copies → AreLogCopies size copies
log_copies numbers logs size [] few taken = tt
log_copies numbers [] size (x ∷ xs) few taken = let l = taken.long in absurd (omega (arith, l))
log_copies numbers (l ∷ ls) size (x ∷ []) few taken = let n = taken.long in copy_is numbers l size x (taken.cut 0 l (omega arith))
log_copies numbers (l ∷ ls) size (x ∷ y ∷ []) few taken =
    let n = taken.long in
    (copy_is numbers l size x (taken.cut 0 l (omega arith)), copy_is numbers (get_or (l ∷ ls) 1 l) size y (taken.cut 1 l (omega (arith, n))))
log_copies numbers (l ∷ ls) size (x ∷ y ∷ z ∷ more) few taken = let n = taken.long in absurd (omega (arith, n, few))

-- the blocks from the first one on
pub cut_from : (numbers : List ℕ) (l : Layout) (start count n : ℕ) (ps : List Seen) → start ≡ 0 → count ≡ n → AreCut numbers l.unit l.columns start (start + count) ps → AreCut numbers l.unit l.columns 0 n ps
cut_from numbers l start count n ps e f cut =
    let end : start + count ≡ n = omega (arith, e, f) in
    subst (λ i. AreCut numbers l.unit l.columns 0 i ps) end (subst (λ i. AreCut numbers l.unit l.columns i (start + count) ps) e cut)

pub stays_from : (numbers : List ℕ) (ls : List Layout) (start count n : ℕ) (ps qs : List Seen) → start ≡ 0 → count ≡ n → StaysBeside numbers ls start (start + count) ps qs → StaysBeside numbers ls 0 n ps qs
stays_from numbers ls start count n ps qs e f stays =
    let end : start + count ≡ n = omega (arith, e, f) in
    subst (λ i. StaysBeside numbers ls 0 i ps qs) end (subst (λ i. StaysBeside numbers ls i (start + count) ps qs) e stays)

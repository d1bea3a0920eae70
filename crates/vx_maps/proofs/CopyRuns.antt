-- Copies that were cut, and go on.
use Rattle.std.proofs.Common.{refl, List, [], ◌∷◌}
use Rattle.vx_piece.specs.Seen.{Seen}
use Rattle.vx_cut.specs.Same.{SameRun}
use Rattle.vx_runs.specs.Run.{EachPiece}
use Rattle.vx_pages.specs.Sector.{KeepsPiece}
use Rattle.vx_pages.specs.Stays.{piece_same}
use Rattle.vx_maps.specs.Copies.{SameRuns}
use Rattle.vx_maps.specs.Going.{CopiesGo, CutCopiesGo}

each_same : (ps : List Seen) → EachPiece KeepsPiece ps ps
each_same [] = tt
each_same (p ∷ ps) = (piece_same p, each_same ps)

copies_same : (xs : List (List Seen)) → CopiesGo KeepsPiece xs xs
copies_same [] = tt
copies_same (x ∷ xs) = (each_same x, copies_same xs)

run_same : (ps : List Seen) → SameRun ps ps
run_same ps = record { each = λ k. refl; sectors = refl; tells = λ t. t; faults = λ d. refl; writes = λ d. refl; reads = λ d. refl; some = λ h. h }

pub runs_same : (xs : List (List Seen)) → SameRuns xs xs
runs_same [] = tt
runs_same (x ∷ xs) = (run_same x, runs_same xs)

-- where nothing was called
pub only_cut : (old new : List (List Seen)) → SameRuns old new → CutCopiesGo KeepsPiece old new
only_cut old new same = record { cut = new; same = same; goes = copies_same new }

-- where nothing happened
pub none_cut : (copies : List (List Seen)) → CutCopiesGo KeepsPiece copies copies
none_cut copies = only_cut copies copies (runs_same copies)

-- How many sectors of a call are good.
use Rattle.std.proofs.Common.{ℕ, ◌≤◌, List, [], ◌∷◌, Bool, min, arith}
use Rattle.std.specs.List.{fold}
use Rattle.vx_piece.specs.Bads.{good_sectors, good_before}
use Rattle.vx_piece.specs.declared.bad.Bad.{Bad}

fold_below : (f : Bad → ℕ) (bads : List Bad) (most : ℕ) → fold (λ good bad. min good (f bad)) most bads ≤ most
fold_below f [] most = omega arith
fold_below f (bad ∷ bads) most = let rest = fold_below f bads (min most (f bad)) in omega arith

pub good_sectors_few : (start count : ℕ) (is_write : Bool) (bads : List Bad) → good_sectors start count is_write bads ≤ count
good_sectors_few start count is_write bads = fold_below (good_before start count is_write) bads count

-- The copies that a store is made of, as lists of pieces.
use Rattle.std.specs.Prelude.{ℕ, ◌*◌, ◌≤◌, List, [], ◌∷◌, Option, Some, None}
use Rattle.std.specs.List.{All}
use Rattle.vx_piece.specs.Seen.{Seen}
use Rattle.vx_runs.specs.Run.{run_sectors}
use Rattle.vx_cut.specs.Same.{HasSome, SameRun}

-- the copies of a list, each in its order
abbrev pub copies_list : List Seen → Option (List Seen) → List (List Seen)
copies_list first None = first ∷ []
copies_list first (Some second) = first ∷ second ∷ []

-- a copy has room for so many slots of so many sectors each, and no piece of it is empty
pub record IsCopy (size : ℕ) (pieces : List Seen) : Type 0 where
  pub some : All HasSome pieces
  pub room : 35 * size ≤ run_sectors pieces

-- one copy or two
abbrev pub AreCopies : ℕ → List (List Seen) → Type 0
AreCopies size [] = ⊥
AreCopies size (x ∷ []) = IsCopy size x
AreCopies size (x ∷ y ∷ []) = IsCopy size x × IsCopy size y
AreCopies size (x ∷ y ∷ z ∷ more) = ⊥

-- each copy is the same run
abbrev pub SameRuns : List (List Seen) → List (List Seen) → Type 0
SameRuns [] [] = Unit {0}
SameRuns (x ∷ xs) (y ∷ ys) = SameRun x y × SameRuns xs ys
SameRuns _ _ = ⊥

-- What the seats of a board know, and the rule of the board.
use Rattle.std.specs.Prelude.{◌≡◌, ℕ, ◌+◌, ◌%◌, ◌^◌, Bool, if◌then◌else◌, List, [], ◌∷◌, length, slice_index}
use Rattle.atomic_table.specs.Table.{State}
use Rattle.vx_base.specs.Blocks.{blocks_in}
use Rattle.vx_power.specs.declared.views.View.{View}

-- the view of a seat that has drawn nothing
abbrev pub nothing : View
nothing = record { draws = 0; writes = 0; reads = 0 }

-- the view after one draw
abbrev pub drawn_once : View → View
drawn_once view = record { draws = view.draws + 1; writes = view.writes; reads = view.reads }

-- the view with these sectors as those that were handed over as the power went
abbrev pub noted : ℕ → ℕ → View → View
noted writes reads view = record { draws = view.draws; writes = writes; reads = reads }

-- the draws of all views
abbrev pub total : List View → ℕ
total [] = 0
total (v ∷ vs) = v.draws + total vs

-- there are two words, and the first is the sum of the draws of all views, modulo 2^64
pub record IsSum (board : State (Unit {0}) View) : Type 0 where
  pub words : length board.words ≡ 2
  pub sum : slice_index board.words 0 ≡ total board.views % 2 ^ 64

-- how many sectors the bytes count as, as the power goes: none where it was gone before
abbrev pub handed : Bool → List ℕ → ℕ
handed cut bytes = if cut then 0 else blocks_in bytes

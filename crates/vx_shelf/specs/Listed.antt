-- The names of the devices of a shelf, as a list.
use Rattle.std.specs.Prelude.{◌↔◌, IsTrue, Bool, List, Option}
use Rattle.std.specs.List.{list_any}
use Rattle.std.specs.List.Sorted.{IsStrictlySortedBy}
use Rattle.std.specs.Cmp.Lexicographic.{slice_cmp}
use Rattle.std.specs.Ordering.{nat_cmp}
use Rattle.std.specs.Str.{bytes_eq}
use Rattle.vx_base.specs.Named.{Word}
use Rattle.vx_piece.specs.Seen.{Seen}
use Rattle.vx_shelf.specs.Shelf.{Held, IsUsed}

-- each name stands before those behind it, by their bytes
abbrev pub IsRising : List Word → Type 0
IsRising names = IsStrictlySortedBy (slice_cmp nat_cmp) names

-- the name is in the list
abbrev pub is_listed : Word → List Word → Bool
is_listed name names = list_any (λ other. bytes_eq other name) names

-- the list has each name that is used, and no other
abbrev pub Lists : List Word → (Word → Option Seen) → (Word → Option Held) → Type 0
Lists names free held = (name : Word) → IsTrue (is_listed name names) ↔ IsUsed name free held

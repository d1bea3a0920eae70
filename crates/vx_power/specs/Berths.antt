-- The berths of a shelf: one for each name that a device may come back under.
use Rattle.std.specs.Prelude.{◌≡◌, ℕ, zero, suc, Bool, true, false, if◌then◌else◌, is_some, List, [], ◌∷◌, Option, None}
use Rattle.std.specs.List.{list_any}
use Rattle.std.specs.Str.{bytes_eq}
use Rattle.vx_base.specs.Named.{Word}
use Rattle.vx_power.specs.declared.board.Wire.{Wire}

-- a name, and the wire on which its device came back without power
abbrev pub Berth : Type 0
Berth = Word × Option Wire

-- it is the berth of the name
abbrev pub is_at : Word → Berth → Bool
is_at name berth = bytes_eq berth.0 name

-- the name has a berth
abbrev pub has_berth : List Berth → Word → Bool
has_berth berths name = list_any (is_at name) berths

-- the wire on which the device of a name came back without power
abbrev pub gone_in : List Berth → Word → Option Wire
gone_in [] name = None
gone_in (b ∷ bs) name = if is_at name b then b.1 else gone_in bs name

-- the device of a name came back without power
abbrev pub is_gone : List Berth → Word → Bool
is_gone berths name = is_some (gone_in berths name)

-- the berth at the index is the first of the name
abbrev pub IsFirst : Word → List Berth → ℕ → Type 0
IsFirst name [] i = ⊥
IsFirst name (b ∷ bs) zero = is_at name b ≡ true
IsFirst name (b ∷ bs) (suc i) = (is_at name b ≡ false) × IsFirst name bs i

-- a berth without a wire
abbrev pub empty_berth : Word → Berth
empty_berth name = (name, None)

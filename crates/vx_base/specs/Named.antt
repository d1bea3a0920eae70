-- Things that stand under names.
use Rattle.std.specs.Prelude.{◌≡◌, ℕ, if◌then◌else◌, List, Option}
use Rattle.std.specs.Str.{bytes_eq}

-- the bytes of a name
abbrev pub Word : Type 0
Word = List ℕ

-- the same things, but for this one
abbrev pub put : {X : Type 0} → Word → Option X → (Word → Option X) → Word → Option X
put name thing old other = if bytes_eq name other then thing else old other

-- under each name stands the same
abbrev pub SameUnder : {X : Type 0} → (Word → Option X) → (Word → Option X) → Type 0
SameUnder old new = (name : Word) → new name ≡ old name

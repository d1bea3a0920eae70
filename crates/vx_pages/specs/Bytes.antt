-- The bytes of a page: a bit for each of its regions.
use Rattle.std.specs.Prelude.{ℕ, ◌%◌, ◌==◌, Bool, List, replicate}

-- two regions have their bit at one place of their pages
abbrev pub same_place : ℕ → ℕ → Bool
same_place region other = (region % 4096) == (other % 4096)

-- so many bytes with every bit
unfoldable pub full : ℕ → List ℕ
full n = replicate n 255

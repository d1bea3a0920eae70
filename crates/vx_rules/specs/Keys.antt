-- A name and a number, in order.
use Rattle.std.specs.Prelude.{ℕ}
use Rattle.std.specs.declared.cmp.Ordering.{Ordering}
use Rattle.std.specs.Ordering.{nat_cmp, ordering_then}
use Rattle.std.specs.Cmp.Lexicographic.{slice_cmp}
use Rattle.vx_base.specs.Named.{Word}

-- a disk and a sector, or a plex and a column
abbrev pub Key : Type 0
Key = Word × ℕ

-- by name, then by number
abbrev pub key_cmp : Key → Key → Ordering
key_cmp p q = ordering_then (slice_cmp nat_cmp p.0 q.0) (nat_cmp p.1 q.1)

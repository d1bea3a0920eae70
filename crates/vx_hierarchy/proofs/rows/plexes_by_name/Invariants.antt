use Rattle.std.proofs.Common.{◌≡◌, take}
use Rattle.std.specs.BTreeMap.{get}
use Rattle.std.specs.Cmp.Lexicographic.{slice_cmp}
use Rattle.std.specs.Ordering.{nat_cmp}
use Rattle.vx_base.specs.Named.{Word}
use Rattle.vx_hierarchy.specs.Rows.{plex_named}
use Rattle.vx_hierarchy.proofs.rows.plexes_by_name.Given as goal

abbrev pub invariant-loop-plex : goal.invariant-loop-plex
invariant-loop-plex l = (name : Word) → get (slice_cmp nat_cmp) l.named name ≡ plex_named (take l.plex-index l.plexes) name

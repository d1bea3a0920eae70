use Rattle.std.proofs.Common.{◌≡◌, List, ℕ, is_some, take}
use Rattle.std.specs.BTreeMap.{get}
use Rattle.std.specs.Cmp.Lexicographic.{slice_cmp}
use Rattle.std.specs.Ordering.{nat_cmp}
use Rattle.vx_new_volumes.specs.Naming.{is_known}
use Rattle.vx_new_records.proofs.known.Known.of.Given as goal

abbrev pub invariant-loop-name : goal.invariant-loop-name
invariant-loop-name l = (name : List ℕ) → is_some (get (slice_cmp nat_cmp) l.found name) ≡ is_known (take l.name-index l.name-items) name

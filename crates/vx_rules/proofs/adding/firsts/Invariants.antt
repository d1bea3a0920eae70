use Rattle.std.proofs.Common.{◌≡◌, ◌++◌, List, ℕ, [], None, drop, is_some}
use Rattle.std.specs.BTreeMap.{get}
use Rattle.std.specs.Cmp.Lexicographic.{slice_cmp}
use Rattle.std.specs.Ordering.{nat_cmp}
use Rattle.vx_rules.specs.Adding.{firsts, firsts_after}
use Rattle.vx_rules.specs.References.{has_name, repeated_after}
use Rattle.vx_rules.proofs.adding.firsts.Given as goal

-- the first records so far, whose names differ, and the map has their names
abbrev pub invariant-loop-object : goal.invariant-loop-object
invariant-loop-object l = record {
  goes_on : l.out.items ++ firsts_after l.out.items (drop l.object-index l.all) ≡ firsts l.all;
  differ : repeated_after [] l.out.items ≡ None;
  finds : (name : List ℕ) → is_some (get (slice_cmp nat_cmp) l.names name) ≡ has_name name l.out.items;
}

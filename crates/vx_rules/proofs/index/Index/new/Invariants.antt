use Rattle.std.proofs.Common.{◌≡◌, List, ℕ, [], take, drop}
use Rattle.std.specs.BTreeMap.{get}
use Rattle.std.specs.Cmp.Lexicographic.{slice_cmp}
use Rattle.std.specs.Ordering.{nat_cmp}
use Rattle.std.specs.Option.{option_copied}
use Rattle.vx_rules.specs.Named.{first_named}
use Rattle.vx_rules.specs.References.{repeated_after}
use Rattle.vx_rules.proofs.index.Index.new.Given as goal

abbrev pub invariant-loop-object : goal.invariant-loop-object
invariant-loop-object l = record {
  differ : repeated_after (take l.object-index l.all) (drop l.object-index l.all) ≡ repeated_after [] l.all;
  finds : (name : List ℕ) → option_copied (get (slice_cmp nat_cmp) l.by_name name) ≡ first_named name (take l.object-index l.all);
}

use Rattle.std.proofs.Common.{◌≡◌, ◌++◌, drop}
use Rattle.vx_rules.specs.Extents.{extents}
use Rattle.vx_rules.proofs.extent.extents_of.Given as goal

abbrev pub invariant-loop-object : goal.invariant-loop-object
invariant-loop-object l = l.found.items ++ extents (drop l.object-index l.all) ≡ extents l.all

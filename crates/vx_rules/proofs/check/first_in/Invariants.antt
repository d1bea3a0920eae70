use Rattle.std.proofs.Common.{◌≡◌, drop}
use Rattle.vx_rules.specs.Faults.{first_of}
use Rattle.vx_rules.specs.Rules.{fault_in}
use Rattle.vx_rules.proofs.check.first_in.Given as goal

abbrev pub invariant-loop-object : goal.invariant-loop-object
invariant-loop-object l = first_of (fault_in l.rule l.index.all.now) (drop l.object-index l.objects) ≡ first_of (fault_in l.rule l.index.all.now) l.objects

use Rattle.std.proofs.Common.{◌≡◌, drop}
use Rattle.vx_rules.specs.Rules.{first_broken_of}
use Rattle.vx_rules.proofs.check.first_broken_of.Given as goal

abbrev pub invariant-loop-rule : goal.invariant-loop-rule
invariant-loop-rule l = first_broken_of (drop l.rule-index l.rules) l.index.all.now ≡ first_broken_of l.rules l.index.all.now

use Rattle.std.proofs.Common.{◌≡◌, drop}
use Rattle.vx_rules.specs.Adding.{first_broken_by}
use Rattle.vx_rules.proofs.adding.first_broken_in.Given as goal

abbrev pub invariant-loop-rule : goal.invariant-loop-rule
invariant-loop-rule l = first_broken_by (drop l.rule-index l.rules) l.index.all.now l.all ≡ first_broken_by l.rules l.index.all.now l.all

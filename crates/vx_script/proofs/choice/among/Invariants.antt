use Rattle.std.proofs.Common.{◌≡◌, drop}
use Rattle.vx_script.specs.Choice.{choice, choose}
use Rattle.vx_script.proofs.choice.among.Given as goal

abbrev pub invariant-loop-kind : goal.invariant-loop-kind
invariant-loop-kind l = choice l.may_be_cut (drop l.kind-index l.kinds) l.text l.least ≡ choose l.may_be_cut l.kinds l.text

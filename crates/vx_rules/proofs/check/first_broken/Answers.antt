use Rattle.std.proofs.Common.{◌≡◌, IfOk, subst}
use Rattle.vx_rules.specs.Rules.{first_broken}
use Rattle.vx_rules.proofs.InOrder.{broken_group, broken_name}
use Rattle.vx_rules.proofs.check.first_broken.Goals as goal

pub returns-in-Ok : goal.returns-in-Ok
unfolding first_broken
returns-in-Ok c =
    let same = rw c.in-Ok.is at c.in_ok-index.ensures in
    subst (λ all. IfOk c.first_broken_of.result (λ fault. fault ≡ first_broken all)) same c.first_broken_of.ensures

pub returns-in-Some : goal.returns-in-Some
returns-in-Some c =
    let twice = rw c.in-Err.is at c.in_ok-index.ensures in
    broken_group c.args.all.now c.has_one_group.result c.limit_unless.result c.in-Err.repeated c.in-Some.fault c.has_one_group.ensures c.limit_unless.ensures twice c.in-Some.is

pub returns-in-None : goal.returns-in-None
returns-in-None c =
    let twice = rw c.in-Err.is at c.in_ok-index.ensures in
    broken_name c.args.all.now c.has_one_group.result c.limit_unless.result c.in-Err.repeated c.has_one_group.ensures c.limit_unless.ensures twice c.in-None.is

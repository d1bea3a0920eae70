use Rattle.std.proofs.Common.{rules}
use Rattle.vx_new_records.proofs.Behind.{no_log_name, logs_are_named}
use Rattle.vx_new_records.proofs.logs.logs_of.Goals as goal

pub returns-in_default : goal.returns-in_default
returns-in_default c =
    no_log_name c.args.group.now c.args.vol.now c.args.dco c.args.plan.now c.args.state c.in_ok-known.known.names.items (search rules) (search rules)

pub returns : goal.returns
returns c =
    rw (logs_are_named c.args.group.now c.args.vol.now c.args.dco c.args.plan.now c.args.state c.in_ok-known.known.names.items c.in-Some.logs.items (search rules) (search rules))
    (search rules)

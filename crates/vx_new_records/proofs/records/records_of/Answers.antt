use Rattle.std.proofs.Common.{rules}
use Rattle.vx_new_records.proofs.Steps.{no_dco, no_plexes, no_logs, all_named}
use Rattle.vx_new_records.proofs.records.records_of.Goals as goal

pub returns-in_default : goal.returns-in_default
returns-in_default c = no_dco c.args.group.now c.args.new.now c.args.plan.now (search rules)

pub returns-in_default-2 : goal.returns-in_default-2
returns-in_default-2 c =
    no_plexes c.args.group.now c.args.new.now c.args.plan.now c.in-Some.dco c.in_ok-known.known.names.items (search rules) (search rules) (search rules)

pub returns-in_default-3 : goal.returns-in_default-3
returns-in_default-3 c =
    no_logs c.args.group.now c.args.new.now c.args.plan.now c.in-Some.dco c.in_ok-known.known.names.items c.in-Some-2.plexes.items (search rules) (search rules) (search rules) (search rules)

pub returns : goal.returns
returns c =
    rw (all_named c.args.group.now c.args.new.now c.args.plan.now c.in-Some.dco c.in_ok-known.known.names.items c.in-Some-2.plexes.items c.in-Some-3.logs.items (search rules) (search rules) (search rules) (search rules))
    (search rules)

use Rattle.std.proofs.Common.{rules}
use Rattle.vx_new_records.proofs.InOrder.{at_disks, at_limits, at_names, at_logs, valid}
use Rattle.vx_new_records.proofs.tests.new_fault.Goals as goal

pub returns-in-Some-clause-fault : goal.returns-in-Some-clause-fault
returns-in-Some-clause-fault c = at_disks c.args.started c.args.group.now c.args.new.now c.in-Some.fault (search rules)

pub returns-in-Some-limit_fault-clause-fault : goal.returns-in-Some-limit_fault-clause-fault
returns-in-Some-limit_fault-clause-fault c =
    at_limits c.args.started c.args.group.now c.args.new.now c.in-Some-limit_fault.fault (search rules) (search rules)

pub returns-in-Some-2-clause-fault : goal.returns-in-Some-2-clause-fault
returns-in-Some-2-clause-fault c =
    at_names c.args.started c.args.group.now c.args.new.now c.in-Some-2.fault (search rules) (search rules) (search rules)

pub returns-clause-fault : goal.returns-clause-fault
returns-clause-fault c = search (rules, at_logs c.args.started c.args.group.now c.args.new.now (search rules) (search rules) (search rules))

pub returns-clause-valid : goal.returns-clause-valid
returns-clause-valid c = λ _. valid c.args.group.now c.args.new.now (search rules)

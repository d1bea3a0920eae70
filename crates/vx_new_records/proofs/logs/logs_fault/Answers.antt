use Rattle.std.proofs.Common.{rules}
use Rattle.vx_new_records.proofs.Behind.{valid}
use Rattle.vx_new_records.proofs.logs.logs_fault.Goals as goal

pub returns-clause-valid : goal.returns-clause-valid
returns-clause-valid c = search (rules, valid c.args.group.now c.args.vol.now c.args.count c.args.region)

use Rattle.std.proofs.Common.{arith}
use Rattle.vx_confdb.proofs.Enlistment.{all_none}
use Rattle.vx_confdb.proofs.founding.create.Goals as goal

pub returns-then-text-clause-writes : goal.returns-then-text-clause-writes
returns-then-text-clause-writes g c = record { last = 0; few = omega arith; are = all_none c.args.name c.args.text.now _ }

pub returns-in_default-clause-writes : goal.returns-in_default-clause-writes
returns-in_default-clause-writes g c = record { last = 0; few = omega arith; are = all_none c.args.name c.args.text.now _ }

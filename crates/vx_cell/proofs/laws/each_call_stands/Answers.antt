use Rattle.std.proofs.Common.{ℕ, Bool}
use Rattle.vx_cell.proofs.Stands.{call_stands}
use Rattle.vx_cell.proofs.laws.each_call_stands.Goals as goal

pub returns-clause-number : goal.returns-clause-number
returns-clause-number c = call_stands ℕ

pub returns-clause-copied : goal.returns-clause-copied
returns-clause-copied c = call_stands Bool

pub returns-clause-plain : goal.returns-clause-plain
returns-clause-plain c = call_stands (Unit {0})

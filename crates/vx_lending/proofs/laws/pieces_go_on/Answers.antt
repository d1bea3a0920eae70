-- The laws are lemmas.
use Rattle.vx_lending.proofs.Goings.{go_beside, go_from, go_then}
use Rattle.vx_lending.proofs.laws.pieces_go_on.Goals as goal

pub returns-clause-same : goal.returns-clause-same
returns-clause-same c = go_from

pub returns-clause-then : goal.returns-clause-then
returns-clause-then c = go_then

pub returns-clause-beside : goal.returns-clause-beside
returns-clause-beside c = go_beside

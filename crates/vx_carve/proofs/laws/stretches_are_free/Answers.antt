use Rattle.vx_carve.proofs.Stretches.{pieces_together, stretches_free}
use Rattle.vx_carve.proofs.Room.{strips_free}
use Rattle.vx_carve.proofs.laws.stretches_are_free.Goals as goal

pub returns-clause-pieces : goal.returns-clause-pieces
returns-clause-pieces c = pieces_together

pub returns-clause-stretches : goal.returns-clause-stretches
returns-clause-stretches c = stretches_free

pub returns-clause-strips : goal.returns-clause-strips
returns-clause-strips c = strips_free

use Rattle.vx_carve.proofs.Places.{blocks_on, blocks_free, list_apart}
use Rattle.vx_carve.proofs.laws.blocks_lie_on_strips.Goals as goal

pub returns-clause-on : goal.returns-clause-on
returns-clause-on c = blocks_on

pub returns-clause-free : goal.returns-clause-free
returns-clause-free c = blocks_free

pub returns-clause-apart : goal.returns-clause-apart
returns-clause-apart c = list_apart

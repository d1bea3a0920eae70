-- The log gives up a copy.
use Rattle.vx_volume.proofs.Yieldings.{copy_may_go, yielding_tells}
use Rattle.vx_volume.proofs.laws.each_copy_may_go.Goals as goal

pub returns-clause-stands : goal.returns-clause-stands
returns-clause-stands c = copy_may_go

pub returns-clause-told : goal.returns-clause-told
returns-clause-told c = yielding_tells

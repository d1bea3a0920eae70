use Rattle.vx_volume_laws.proofs.Examples.{some_volume_opens}
use Rattle.vx_volume_laws.proofs.some_volume_opens.Goals as goal

pub returns : goal.returns
returns c = some_volume_opens

use Rattle.vx_volume_laws.proofs.Recoveries.{each_recovery_agrees}
use Rattle.vx_volume_laws.proofs.each_recovery_agrees.Goals as goal

pub returns : goal.returns
returns c = each_recovery_agrees

use Rattle.vx_core.proofs.RecoveryLaws.{each_recovers}
use Rattle.vx_core.proofs.laws.each_recovers.Goals as goal

pub returns : goal.returns
returns c = each_recovers

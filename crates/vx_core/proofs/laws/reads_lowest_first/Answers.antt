use Rattle.vx_core.proofs.RecoveryLaws.{reads_lowest_first}
use Rattle.vx_core.proofs.laws.reads_lowest_first.Goals as goal

pub returns : goal.returns
returns c = reads_lowest_first

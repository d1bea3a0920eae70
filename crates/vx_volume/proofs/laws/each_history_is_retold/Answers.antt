-- A region stands for its history told coarser.
use Rattle.vx_volume.proofs.Retellings.{history_retold}
use Rattle.vx_volume.proofs.laws.each_history_is_retold.Goals as goal

pub returns : goal.returns
returns c = history_retold

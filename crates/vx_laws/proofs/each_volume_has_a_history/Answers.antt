use Rattle.vx_laws.proofs.Transcripts.{each_volume_has_a_history as has}
use Rattle.vx_laws.proofs.each_volume_has_a_history.Goals as goal

pub returns : goal.returns
returns c = has

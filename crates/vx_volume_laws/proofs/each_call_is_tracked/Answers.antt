use Rattle.vx_volume_laws.proofs.Tracks.{each_call_is_tracked}
use Rattle.vx_volume_laws.proofs.each_call_is_tracked.Goals as goal

pub returns : goal.returns
returns c = each_call_is_tracked

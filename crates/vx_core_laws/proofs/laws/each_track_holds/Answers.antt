use Rattle.vx_core_laws.proofs.Tracks.{each_track_holds}
use Rattle.vx_core_laws.proofs.laws.each_track_holds.Goals as goal

pub returns : goal.returns
returns c = each_track_holds

use Rattle.std.proofs.Common.{length}
use Rattle.vx_stage_gates.proofs.devices.+sectors_among.Given as goal

abbrev pub decreases-sectors_among : goal.decreases-sectors_among
decreases-sectors_among g l = length l.hand.now

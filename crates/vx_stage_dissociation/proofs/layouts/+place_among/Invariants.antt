use Rattle.std.proofs.Common.{length}
use Rattle.vx_stage_dissociation.proofs.layouts.+place_among.Given as goal

abbrev pub decreases-place_among : goal.decreases-place_among
decreases-place_among l = length l.layouts.now

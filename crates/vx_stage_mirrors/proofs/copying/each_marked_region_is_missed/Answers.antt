use Rattle.vx_stage_mirrors.proofs.Missed.{marked_missed}
use Rattle.vx_stage_mirrors.proofs.copying.each_marked_region_is_missed.Goals as goal

pub returns : goal.returns
returns c = marked_missed

use Rattle.vx_group_volumes.proofs.NearerImages.{copy_narrows}
use Rattle.vx_group_volumes.proofs.each_copy_narrows.Goals as goal

pub returns : goal.returns
returns c = copy_narrows

-- A mirror that is laid lies on good disks.
use Rattle.vx_group_edits.proofs.Held.{laid_held}
use Rattle.vx_group_edits.proofs.mirrors.each_laid_mirror_is_held.Goals as goal

pub returns : goal.returns
returns c = laid_held

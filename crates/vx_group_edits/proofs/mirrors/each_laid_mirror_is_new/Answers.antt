-- A mirror that is laid is new.
use Rattle.vx_group_edits.proofs.Each.{is_new}
use Rattle.vx_group_edits.proofs.mirrors.each_laid_mirror_is_new.Goals as goal

pub returns : goal.returns
returns c = is_new

-- The edits by which a volume gets logs are its own.
use Rattle.vx_group_edits.proofs.DcoEdits.{preparing_own}
use Rattle.vx_group_edits.proofs.dcos.each_preparing_is_own.Goals as goal

pub returns : goal.returns
returns c = preparing_own

-- The edits by which a volume loses its logs are its own.
use Rattle.vx_group_edits.proofs.DcoEdits.{unpreparing_own}
use Rattle.vx_group_edits.proofs.dcos.each_unpreparing_is_own.Goals as goal

pub returns : goal.returns
returns c = unpreparing_own

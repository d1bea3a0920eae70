use Rattle.std.proofs.Common.{rules, append_assoc}
use Rattle.vx_stage_mirrors.proofs.log_planning.unprepare_edits.Goals as goal

pub returns : goal.returns
returns c = search (rules, append_assoc)

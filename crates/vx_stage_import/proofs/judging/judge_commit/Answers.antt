use Rattle.vx_stage_import.proofs.Verdicts.{commit_judged, commit_refused}
use Rattle.vx_stage_import.proofs.judging.judge_commit.Goals as goal

pub returns-in-Ok : goal.returns-in-Ok
returns-in-Ok c = commit_judged c.print_config.result c.args.config.now c.in-Ok.after c.in_ok-all.all.items c.deref.result.now c.in_ok-synced.synced.items c.deref-2.result.now c.in_ok-all.ensures c.deref.ensures.value c.in_ok-synced.ensures c.deref-2.ensures.value c.in-Ok.ensures.made c.print_config.ensures

pub returns : goal.returns
returns c = commit_refused c.refused_by.result c.args.config.now c.in-Err.fault c.in_ok-all.all.items c.deref.result.now c.in_ok-synced.synced.items c.deref-2.result.now c.in_ok-all.ensures c.deref.ensures.value c.in_ok-synced.ensures c.deref-2.ensures.value c.in-Err.ensures.refused c.refused_by.ensures

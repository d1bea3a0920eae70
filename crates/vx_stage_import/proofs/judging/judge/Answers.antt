use Rattle.vx_stage_import.specs.Judging.{labels_of, is_started}
use Rattle.vx_stage_import.proofs.Verdicts.{text_judged}
use Rattle.vx_stage_import.proofs.judging.judge.Goals as goal

pub returns-in-Ok : goal.returns-in-Ok
returns-in-Ok g c = text_judged c.args.dg.now c.args.text.now c.args.good (labels_of c.args.found.now) (is_started c.args.volumes.now) c.judge_records.result c.in-Ok.records c.as_slice.result.now c.as_slice.ensures c.in-Ok.ensures.spelled c.judge_records.ensures

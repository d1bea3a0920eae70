use Rattle.vx_stage_import.specs.Judging.{labels_of, is_started}
use Rattle.vx_stage_import.proofs.Verdicts.{records_judged}
use Rattle.vx_stage_import.proofs.judging.judge_records.Goals as goal

pub returns-in-Ok : goal.returns-in-Ok
returns-in-Ok g c = records_judged c.args.dg.now c.args.dg.now c.args.good (labels_of c.args.found.now) (is_started c.args.volumes.now) c.judge_config.result c.args.records.now c.in-Ok.config c.in-Ok.ensures.made c.judge_config.ensures

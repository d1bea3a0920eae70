use Rattle.vx_plan_laws.proofs.Makings.{making_kept}
use Rattle.vx_plan_laws.proofs.no_rule_refuses_records.Goals as goal

pub returns : goal.returns
returns c = making_kept

use Rattle.vx_plan_laws.proofs.Tests.{policy_law}
use Rattle.vx_plan_laws.proofs.no_rule_refuses_a_policy.Goals as goal

pub returns : goal.returns
returns c = λ vol how w g here has prefers. policy_law w g here vol how has prefers

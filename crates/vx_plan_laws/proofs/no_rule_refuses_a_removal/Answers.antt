use Rattle.vx_plan_laws.proofs.Tests.{removal_law}
use Rattle.vx_plan_laws.proofs.no_rule_refuses_a_removal.Goals as goal

pub returns : goal.returns
returns c = λ vol w g here has free. removal_law w g here vol has free

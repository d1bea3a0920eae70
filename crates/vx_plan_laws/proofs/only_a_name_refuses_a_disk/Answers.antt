use Rattle.vx_plan_laws.proofs.Tests.{joining_law}
use Rattle.vx_plan_laws.proofs.only_a_name_refuses_a_disk.Goals as goal

pub returns : goal.returns
returns c = joining_law

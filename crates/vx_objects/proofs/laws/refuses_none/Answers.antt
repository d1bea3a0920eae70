use Rattle.vx_objects.proofs.RoundTrip.{refuses_none}
use Rattle.vx_objects.proofs.laws.refuses_none.Goals as goal

pub returns : goal.returns
returns c = refuses_none

use Rattle.vx_objects.proofs.RoundTrip.{prints_back}
use Rattle.vx_objects.proofs.laws.prints_back.Goals as goal

pub returns : goal.returns
returns c = prints_back

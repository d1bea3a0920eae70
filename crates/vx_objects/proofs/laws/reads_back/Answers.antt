use Rattle.vx_objects.proofs.RoundTrip.{reads_back}
use Rattle.vx_objects.proofs.laws.reads_back.Goals as goal

pub returns : goal.returns
returns c = reads_back

use Rattle.vx_new_volume_laws.proofs.Each.{through}
use Rattle.vx_new_volume_laws.proofs.laws.each_new_volume_is_let_through.Goals as goal

pub returns : goal.returns
returns c = through

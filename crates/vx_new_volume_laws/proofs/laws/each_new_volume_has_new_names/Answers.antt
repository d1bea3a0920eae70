use Rattle.vx_new_volume_laws.proofs.Each.{new_names}
use Rattle.vx_new_volume_laws.proofs.laws.each_new_volume_has_new_names.Goals as goal

pub returns : goal.returns
returns c = new_names

use Rattle.vx_loss_laws.proofs.Entries.{each_acknowledged_write_is_held as proved}
use Rattle.vx_loss_laws.proofs.each_acknowledged_write_is_held.Goals as goal

pub returns : goal.returns
returns c = proved

-- A volume is written.
use Rattle.vx_volume.proofs.Steps.{called_fresh, called_volume}
use Rattle.vx_volume.proofs.volume.Volume.write.Goals as goal

pub write_parts-outcome-requires-clause-whole : goal.write_parts-outcome-requires-clause-whole
write_parts-outcome-requires-clause-whole g c κs within = called_volume _ c.requires.whole

pub write_parts-outcome-requires-clause-fresh : goal.write_parts-outcome-requires-clause-fresh
write_parts-outcome-requires-clause-fresh g c κs within = called_fresh _ c.requires.whole c.requires.room

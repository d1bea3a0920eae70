-- A volume is read.
use Rattle.vx_volume.proofs.Steps.{called_fresh, called_volume}
use Rattle.vx_volume.proofs.volume.Volume.read.Goals as goal

pub read_parts-outcome-requires-clause-whole : goal.read_parts-outcome-requires-clause-whole
read_parts-outcome-requires-clause-whole g c κs within = called_volume _ c.requires.whole

pub read_parts-outcome-requires-clause-fresh : goal.read_parts-outcome-requires-clause-fresh
read_parts-outcome-requires-clause-fresh g c κs within = called_fresh _ c.requires.whole c.requires.room

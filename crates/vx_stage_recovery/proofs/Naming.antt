-- The names of the volumes that the command goes over.
use Rattle.vx_base.specs.Named.{Word}
use Rattle.std.proofs.Common.{Option, Some, None, List}
use Rattle.vx_moments.specs.World.{Group}
use Rattle.vx_recovery.specs.Going.{AreNamesOf}
use Rattle.vx_stage_recovery.specs.Names.{AreNames}

-- those of the configuration are those of its group
pub names_of_group : (vol : Option Word) (g : Group) (names : List Word) → AreNames vol g.config names → AreNamesOf vol g names
names_of_group None g names are = record { all = are.all; ordered = are.ordered }
names_of_group (Some vol) g names are = are

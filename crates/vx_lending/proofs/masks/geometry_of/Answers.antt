use Rattle.vx_lending.proofs.Rules.{vol_geometry}
use Rattle.vx_lending.proofs.masks.geometry_of.Goals as goal

pub invariant_of-result : goal.invariant_of-result
invariant_of-result c = record { valid = vol_geometry c.args.config.now c.args.vol.now c.requires }

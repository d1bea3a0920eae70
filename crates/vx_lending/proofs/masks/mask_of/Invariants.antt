use Rattle.std.proofs.Common.{take}
use Rattle.vx_lending.specs.Form.{IsMaskOf}
use Rattle.vx_lending.proofs.masks.mask_of.Given as goal

abbrev pub invariant-loop-map : goal.invariant-loop-map
invariant-loop-map l = IsMaskOf (take l.map-index l.maps) l.mask

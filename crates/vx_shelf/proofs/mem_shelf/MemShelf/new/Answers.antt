use Rattle.vx_shelf.proofs.Devices.{devices_at_rest, devices_not_held, devices_numbered}
use Rattle.vx_shelf.proofs.mem_shelf.MemShelf.new.Goals as goal

pub invariant_of-result : goal.invariant_of-result
invariant_of-result c = record { at_rest = devices_at_rest c.args.devices.items c.requires; below = rw c.as_slice.ensures.value at c.number_above-next.ensures; numbered = devices_numbered c.args.devices.items c.requires }

pub returns-clause-held : goal.returns-clause-held
returns-clause-held c = λ name. devices_not_held c.args.devices.items name c.requires

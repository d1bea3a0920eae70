use Rattle.vx_shelf.proofs.Devices.{first_misfits, first_fits}
use Rattle.vx_shelf.specs.MemShelf.{are_devices}
use Rattle.vx_shelf.proofs.mem_shelf.MemShelf.accepts.Goals as goal

pub returns-then-not-fits : goal.returns-then-not-fits
returns-then-not-fits c = first_misfits c.loop-rest.rest.now c.first-item.result _ (are_devices c.args.devices.now) c.fits.result c.loop-rest.invariant c.in-len1-up.len_at_least c.first-item.is c.fits.ensures c.if-not-fits.true

pub loop-rest-preserved : goal.loop-rest-preserved
loop-rest-preserved c = first_fits c.loop-rest.rest.now c.first-item.result _ (are_devices c.args.devices.now) c.fits.result c.loop-rest.invariant c.in-len1-up.len_at_least c.first-item.is c.fits.ensures c.if-not-fits.false

use Rattle.vx_volume.proofs.PageByPage.{clears}
use Rattle.vx_volume.proofs.whole_maps.MapStoreWholeMaps.clear.Goals as goal

pub returns-clause-set : goal.returns-clause-set
returns-clause-set g c = clears c.args.map _ _ c.set_from.result c.set_from.ensures.set

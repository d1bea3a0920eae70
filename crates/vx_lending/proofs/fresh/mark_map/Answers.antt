-- A map of the mask is marked in all regions.
use Rattle.std.proofs.Common.{rules, ◌≡◌, true}
use Rattle.vx_mask.specs.Mask.{has}
use Rattle.vx_volume.specs.Bytes.{map_bit}
use Rattle.vx_lending.proofs.Marked.{marked_one, store_risen}
use Rattle.vx_lending.proofs.fresh.mark_map.Goals as goal

pub returns-then-contains-clause-marked : goal.returns-then-contains-clause-marked
returns-then-contains-clause-marked g c =
    let there : has c.args.marked c.args.map ≡ true = search rules in
    marked_one c.args.marked c.args.map (map_bit c.args.all.now) c.args.store.now c.set_from.new.self c.requires.all c.set_from.result there c.set_from.ensures.kept c.set_from.ensures.base c.set_from.ensures.set

pub returns-then-contains-clause-cause : goal.returns-then-contains-clause-cause
returns-then-contains-clause-cause g c = store_risen c.args.store.now c.set_from.new.self c.set_from.result c.set_from.ensures.base c.set_from.ensures.cause

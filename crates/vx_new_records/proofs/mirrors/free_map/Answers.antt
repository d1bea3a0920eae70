use Rattle.std.proofs.Common.{rules}
use Rattle.vx_new_records.proofs.FreeMaps.{starts, map_taken, map_free, no_map}
use Rattle.vx_new_records.proofs.mirrors.free_map.Goals as goal

pub returns-then-is_free : goal.returns-then-is_free
returns-then-is_free c = map_free 30 c.loop-map.map c.args.group.now c.args.vol.now _ c.loop-map.invariant (search rules) (search rules)

pub loop-map-preserved : goal.loop-map-preserved
loop-map-preserved c = map_taken 30 c.loop-map.map c.args.group.now c.args.vol.now _ c.loop-map.invariant (search rules) (search rules)

pub returns : goal.returns
returns c = no_map 30 c.loop-map.map c.args.group.now c.args.vol.now _ c.loop-map.invariant (search rules)

pub loop-map-init : goal.loop-map-init
loop-map-init c = starts c.args.group.now c.args.vol.now

use Rattle.std.proofs.Common.{arith}
use Rattle.vx_rules.proofs.Counts.{uses_more, unused_at}
use Rattle.vx_rules.proofs.uses.uses_of_maps.Goals as goal

pub loop-object-init : goal.loop-object-init
loop-object-init c = λ m lt. unused_at m

pub loop-object-preserved : goal.loop-object-preserved
loop-object-preserved c = λ m lt.
    let before = c.loop-object.invariant m lt in
    let first = c.count.ensures m lt in
    let second = c.count-in-loop-object.ensures m lt in
    let third = c.count-in-loop-object-2.ensures m lt in
    let more = uses_more c.args.all.now c.args.vol.now c.loop-object.object-index c.object-item.result m _ _ _ (omega arith) c.object-item.is (c.data_plex_map.ensures m) (c.snapshot_map.ensures m) (c.original_map.ensures m) in
    omega arith

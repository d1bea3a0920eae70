use Rattle.std.proofs.Common.{◌<◌, length, arith, rules, None}
use Rattle.std.proofs.lemmas.List.{length-map}
use Rattle.std.specs.Option.{option_map}
use Rattle.vx_pages.specs.Arming.{armed}
use Rattle.vx_pages.proofs.Rounds.{ends, goes_on}
use Rattle.vx_pages.proofs.Settlement.{each_is}
use Rattle.vx_maps.proofs.slots.arm_slots.Goals as goal

pub loop-index-preserved : goal.loop-index-preserved
loop-index-preserved g c =
    let lt : c.loop-index.index < length c.loop-index.slots.items = let f = c.loop-index.invariant.size in omega (arith, c.len-index-end.ensures, f, c.args.slots.now.ok.0) in
    record { went = goes_on None (option_map g.P.LocalPiece.seen) _ _ c.loop-index.slots.items c.loop-index.index c.index_mut-slot.result.now c.arm_slot.new.slot lt c.index_mut-slot.ensures.value c.loop-index.invariant.went c.arm_slot.ensures; size = search rules }

pub returns : goal.returns
returns g c =
    each_is None (option_map (armed c.args.stop)) _ _
    (ends None _ c.loop-index.index _ _ (let f = c.loop-index.invariant.size in let e = length-map c.args.slots.now.items (option_map g.P.LocalPiece.seen) in omega (arith, e, f, c.len-index-end.ensures, c.args.slots.now.ok.0)) c.loop-index.invariant.went)

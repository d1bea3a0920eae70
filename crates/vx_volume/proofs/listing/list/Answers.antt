use Rattle.std.proofs.Common.{◌≤◌, ap, arith}
use Rattle.std.specs.Prelude.{◌&&◌, nat_lt}
use Rattle.std.proofs.lemmas.Bool.{le-ltb}
use Rattle.vx_mapfmt.specs.declared.shape.DcoShape.{DcoShape}
use Rattle.vx_maps.specs.Stores.{store_seen}
use Rattle.vx_volume.proofs.Lists.{bit_at_region}
use Rattle.vx_volume.proofs.listing.list.Goals as goal

pub returns-clause-bits : goal.returns-clause-bits
returns-clause-bits g c region =
    bit_at_region (λ n. nat_lt n c.args.store.now.base.shape.regions && (store_seen g.P.LocalPiece.seen c.args.store.now).claims n c.args.map) c.loop-place.bits.items c.loop-place.place region c.loop-place.invariant.size c.loop-place.invariant.bits
    (λ n le.
    let few = ap (λ (s : DcoShape). s.regions) c.shape.ensures in
    let count = c.div_ceil-count.ensures in
    let done = c.loop-place-test.false in
    let above : c.args.store.now.base.shape.regions ≤ n = omega (arith, le, few, count, done) in
    ap (λ b. b && (store_seen g.P.LocalPiece.seen c.args.store.now).claims n c.args.map) (le-ltb n c.args.store.now.base.shape.regions above))

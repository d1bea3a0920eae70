use Rattle.std.proofs.Common.{◌∙◌, ◌<◌, ap, arith}
use Rattle.std.specs.Prelude.{◌%◌, ◌/◌}
use Rattle.vx_mask.specs.Mask.{has}
use Rattle.vx_pages.proofs.Differences.{has-and, has-xor}
use Rattle.vx_pages.proofs.bytes.open_differing.Goals as goal

pub returns-clause-sure : goal.returns-clause-sure
returns-clause-sure c region =
    let lt : region % 4096 / 8 < c.loop-place.place = let e = c.loop-place-test.false in omega (arith, e) in
    ap (λ byte. has byte (region % 8)) (c.loop-place.invariant.below (region % 4096 / 8) lt).0 ∙ has-and _ _ (region % 8)

pub returns-clause-loose : goal.returns-clause-loose
returns-clause-loose c region =
    let lt : region % 4096 / 8 < c.loop-place.place = let e = c.loop-place-test.false in omega (arith, e) in
    ap (λ byte. has byte (region % 8)) (c.loop-place.invariant.below (region % 4096 / 8) lt).1 ∙ has-xor _ _ (region % 8)

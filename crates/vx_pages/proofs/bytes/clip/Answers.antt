use Rattle.std.proofs.Common.{◌∙◌, ◌≤◌, ap, sym, arith}
use Rattle.std.specs.Prelude.{◌%◌, ◌&&◌, min}
use Rattle.vx_mapfmt.specs.Bits.{bit_in}
use Rattle.vx_pages.proofs.Clips.{stays, step, stays_first, stays_last, and_true}
use Rattle.vx_pages.proofs.bytes.clip.Goals as goal

pub loop-place-init : goal.loop-place-init
loop-place-init c = record {
  size = c.requires;
  bits = λ region. sym (ap (λ place. bit_in c.args.page.now.items region && stays c.args.inside place (region % 4096)) c.min-place.ensures ∙ ap (λ b. bit_in c.args.page.now.items region && b) (stays_first c.args.inside (region % 4096) (omega arith)) ∙ and_true _);
}

pub loop-place-preserved : goal.loop-place-preserved
loop-place-preserved c =
    let low : min c.args.inside 4096 ≤ c.loop-place.place = let a = c.loop-place.auto.place in omega (arith, a, c.min-place.ensures) in
    record {
      size = c.put_bit.ensures.length;
      bits = λ region. step c.args.inside c.loop-place.place (region % 4096) _ _ _ low c.loop-place-test.true (c.loop-place.invariant.bits region) (c.put_bit.ensures.bits region);
    }

pub returns-clause-bits : goal.returns-clause-bits
returns-clause-bits c region = c.loop-place.invariant.bits region ∙ ap (λ b. bit_in c.args.page.now.items region && b) (stays_last c.args.inside c.loop-place.place (region % 4096) (omega arith) c.loop-place-test.false)

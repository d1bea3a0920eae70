use Rattle.std.proofs.Common.{sym, ◌∙◌, ap}
use Rattle.std.specs.Prelude.{◌==◌, if◌then◌else◌, Bool}
use Rattle.vx_mask.specs.Mask.{has}
use Rattle.vx_pages.proofs.Bits.{set_bit, clear_bit}
use Rattle.vx_pages.proofs.bytes.with_bit.Goals as goal

pub returns-then-on : goal.returns-then-on
returns-then-on c = λ k. set_bit c.args.byte c.args.bit k c.requires ∙ ap (λ (b : Bool). if c.args.bit == k then b else has c.args.byte k) (sym c.if-on.true)

pub returns-else-on : goal.returns-else-on
returns-else-on c = λ k. clear_bit c.args.byte c.args.bit k c.ranges.byte.fits c.requires ∙ ap (λ (b : Bool). if c.args.bit == k then b else has c.args.byte k) (sym c.if-on.false)

use Rattle.std.proofs.Common.{◌≡◌, ◌<◌, false, arith, sym}
use Rattle.std.proofs.lemmas.Grind.{common_steps}
use Rattle.vx_stage_gates.proofs.Lowest.{has_slot, lowest, none_free}
use Rattle.vx_stage_gates.proofs.slots.next_slot.Goals as goal

pub returns-then-not-has_slot : goal.returns-then-not-has_slot
returns-then-not-has_slot c =
    let free : has_slot c.slots.slot c.args.config.now ≡ false = grind (arith, common_steps) in
    let low : c.slots.slot < 32 = omega arith in
    sym (lowest c.args.config.now c.slots.slot low c.slots.invariant.taken free)

pub returns : goal.returns
returns c = sym (none_free c.args.config.now (λ k less. c.slots.invariant.taken k (omega (arith, less))))

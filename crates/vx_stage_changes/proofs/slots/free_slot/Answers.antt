use Rattle.std.proofs.Common.{◌≡◌, ◌<◌, false, arith}
use Rattle.std.proofs.lemmas.Grind.{common_steps}
use Rattle.vx_stage_changes.specs.Joining.{has_slot}
use Rattle.vx_stage_changes.proofs.Lowest.{lowest, none_free}
use Rattle.vx_stage_changes.proofs.slots.free_slot.Goals as goal

pub returns-then-not-has_slot : goal.returns-then-not-has_slot
returns-then-not-has_slot c =
    let free : has_slot c.slots.slot c.args.config.now ≡ false = grind (arith, common_steps) in
    let low : c.slots.slot < 32 = omega arith in
    record { next = lowest c.args.config.now c.slots.slot low c.slots.invariant.taken free; low = low; free = free }

pub returns : goal.returns
returns c = none_free c.args.config.now (λ k less. c.slots.invariant.taken k (omega (arith, less)))

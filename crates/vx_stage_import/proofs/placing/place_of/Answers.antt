use Rattle.std.proofs.Common.{◌<◌, arith, add-one}
use Rattle.vx_stage_import.proofs.Places.{lower_more, any_at, higher_from, slots_long}
use Rattle.vx_stage_import.proofs.placing.place_of.Goals as goal

pub returns-then-here-slot : goal.returns-then-here-slot
returns-then-here-slot g c = any_at c.args.slot c.args.found.now c.slots.i c.index-found-i.result c.slots-test.true c.if-here-slot.true

pub returns-then-here-slot-2 : goal.returns-then-here-slot-2
returns-then-here-slot-2 g c = record {
  within = let long = slots_long c.args.found.now in omega (arith, long, c.slots.invariant.most);
  lower = c.slots.invariant.lower;
  higher = higher_from c.args.slot c.args.found.now c.slots.i c.index-found-i.result c.slots-test.true c.requires c.if-here-slot-2.true;
}

pub slots-preserved : goal.slots-preserved
slots-preserved g c = record {
  most = omega (arith, c.slots-test.true);
  lower = rw add-one (lower_more (λ n. n < c.args.slot) c.args.found.now c.slots.i c.index-found-i.result c.slots-test.true c.slots.invariant.lower (omega (arith, c.if-here-slot.false, c.if-here-slot-2.false)));
}

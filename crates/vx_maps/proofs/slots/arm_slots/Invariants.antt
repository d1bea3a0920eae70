use Rattle.std.proofs.Common.{◌≡◌, length, None}
use Rattle.std.specs.Option.{option_map}
use Rattle.vx_pages.specs.Arming.{armed}
use Rattle.vx_pages.proofs.Rounds.{Went}
use Rattle.vx_maps.specs.Slots.{slots_seen}
use Rattle.vx_maps.proofs.slots.arm_slots.Given as goal

abbrev pub invariant-loop-index : goal.invariant-loop-index
invariant-loop-index g l = record {
  went : Went None (λ k a b. b ≡ option_map (armed l.stop) a) l.index (slots_seen g.P.LocalPiece.seen l.fn.slots.items) (slots_seen g.P.LocalPiece.seen l.slots.items);
  size : length l.slots.items ≡ length l.fn.slots.items;
}

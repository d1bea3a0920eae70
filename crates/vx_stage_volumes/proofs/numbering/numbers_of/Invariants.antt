use Rattle.std.proofs.Common.{◌≤◌, ◌-◌}
use Rattle.vx_stage_volumes.specs.Numbers.{AreNumbersOf}
use Rattle.vx_stage_volumes.proofs.numbering.numbers_of.Given as goal

abbrev pub invariant-slots : goal.invariant-slots
invariant-slots g l = record {
  low : l.slot ≤ 32;
  high : l.next ≤ 4294967295;
  are : AreNumbersOf g.P.Piece.seen l.disks l.slot l.next l.numbers.items;
}

abbrev pub decreases-slots : goal.decreases-slots
decreases-slots g l = 32 - l.slot

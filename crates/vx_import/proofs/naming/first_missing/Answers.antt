use Rattle.std.proofs.Common.{map, arith}
use Rattle.vx_import.specs.Looks.{looked}
use Rattle.vx_import.proofs.Absent.{there_none, there_more, there_all}
use Rattle.vx_import.proofs.naming.first_missing.Goals as goal

pub slots-init : goal.slots-init
slots-init g c = record { most = omega arith; there = there_none c.args.mask (map (looked g.P.Piece.seen) c.args.found.now) }

pub returns-then-is_missing : goal.returns-then-is_missing
returns-then-is_missing g c = record {
  below = c.slots-test.true;
  named = c.is_missing.ensures.named c.if-is_missing.true;
  gone = c.is_missing.ensures.gone c.if-is_missing.true;
  lowest = c.slots.invariant.there;
}

pub slots-preserved : goal.slots-preserved
slots-preserved g c = record {
  most = omega (arith, c.slots-test.true);
  there = there_more c.slots.slot c.args.mask (map (looked g.P.Piece.seen) c.args.found.now) c.slots.invariant.there (c.is_missing.ensures.there c.if-is_missing.false);
}

pub returns : goal.returns
returns g c = there_all c.slots.slot 32 c.args.mask (map (looked g.P.Piece.seen) c.args.found.now) c.slots-test.false c.slots.invariant.there

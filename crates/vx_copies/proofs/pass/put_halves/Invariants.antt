use Rattle.std.proofs.Common.{◌≡◌, ◌-◌, ◌≤◌, length, map, take}
use Rattle.vx_copies.specs.Lists.{Each, AllOf}
use Rattle.vx_copies.specs.Disks.{disk_seen, Stays, IsReady, HasSpare}
use Rattle.vx_copies.specs.Steps.{HalfDone}
use Rattle.vx_copies.proofs.Passes.{PassedTo}
use Rattle.vx_copies.proofs.pass.put_halves.Given as goal

abbrev pub invariant-halves : goal.invariant-halves
invariant-halves g l = record {
  most : l.i ≤ length l.disks;
  stays : Each Stays (map (disk_seen g.P.Piece.seen) l.fn.disks) (map (disk_seen g.P.Piece.seen) l.disks);
  ready : AllOf IsReady (map (disk_seen g.P.Piece.seen) l.disks);
  spare : AllOf (HasSpare l.text) (map (disk_seen g.P.Piece.seen) (take l.i l.disks));
  done : PassedTo l.i (HalfDone l.text) (map (disk_seen g.P.Piece.seen) l.fn.disks) (map (disk_seen g.P.Piece.seen) l.disks);
  good : Each (λ a b. b.good ≡ a.good) (map (disk_seen g.P.Piece.seen) l.fn.disks) (map (disk_seen g.P.Piece.seen) l.disks);
}

abbrev pub decreases-halves : goal.decreases-halves
decreases-halves g l = length l.disks - l.i

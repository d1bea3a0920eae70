use Rattle.std.proofs.Common.{◌≡◌, ◌-◌, ◌≤◌, length, map, take, drop}
use Rattle.vx_copies.specs.Lists.{Each, AllOf}
use Rattle.vx_copies.specs.Disks.{disk_seen, Stamps, IsReady, HasSpare, IsOffer}
use Rattle.vx_copies.specs.Pass.{KeepsOffer}
use Rattle.vx_copies.specs.Steps.{ToggleDone}
use Rattle.vx_copies.proofs.Passes.{PassedTo}
use Rattle.vx_copies.proofs.pass.put_toggles.Given as goal

abbrev pub invariant-toggles : goal.invariant-toggles
invariant-toggles g l = record {
  most : l.i ≤ length l.disks;
  size : length l.sector ≡ 512;
  stamps : Each (Stamps l.sequence l.mask l.text) (map (disk_seen g.P.Piece.seen) l.fn.disks) (map (disk_seen g.P.Piece.seen) l.disks);
  ready : AllOf IsReady (map (disk_seen g.P.Piece.seen) l.disks);
  spare : AllOf (HasSpare l.text) (map (disk_seen g.P.Piece.seen) (drop l.i l.disks));
  rest : Each (λ a b. KeepsOffer a.seen.told b.seen.told) (drop l.i (map (disk_seen g.P.Piece.seen) l.fn.disks)) (map (disk_seen g.P.Piece.seen) (drop l.i l.disks));
  offer : AllOf (IsOffer l.sequence l.mask l.text) (map (disk_seen g.P.Piece.seen) (take l.i l.disks));
  done : PassedTo l.i (ToggleDone l.sequence l.mask l.text) (map (disk_seen g.P.Piece.seen) l.fn.disks) (map (disk_seen g.P.Piece.seen) l.disks);
  good : Each (λ a b. b.good ≡ a.good) (map (disk_seen g.P.Piece.seen) l.fn.disks) (map (disk_seen g.P.Piece.seen) l.disks);
}

abbrev pub decreases-toggles : goal.decreases-toggles
decreases-toggles g l = length l.disks - l.i

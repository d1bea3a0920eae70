use Rattle.std.proofs.Common.{◌≡◌, ◌-◌, ◌≤◌, length, map, take, drop}
use Rattle.vx_copies.specs.Lists.{Each, AllOf}
use Rattle.vx_copies.specs.Disks.{disk_seen}
use Rattle.vx_confdb.specs.Prepare.{IsFresh, Prepares, IsPrepared}
use Rattle.vx_copies.proofs.Passes.{PassedTo}
use Rattle.vx_confdb.proofs.Preparation.{FrontsJust}
use Rattle.vx_confdb.proofs.joining.prepare_all.Given as goal

abbrev pub invariant-disks : goal.invariant-disks
invariant-disks g l = record {
  most : l.i ≤ length l.disks;
  size : length l.sector ≡ 512;
  prepares : Each (Prepares l.group) (map (disk_seen g.P.Piece.seen) l.fn.disks) (map (disk_seen g.P.Piece.seen) l.disks);
  fresh : AllOf (IsFresh g.P.Piece.seen l.group) (drop l.i l.disks);
  passed : PassedTo l.i FrontsJust (map (disk_seen g.P.Piece.seen) l.fn.disks) (map (disk_seen g.P.Piece.seen) l.disks);
  prepared : AllOf (IsPrepared l.group) (map (disk_seen g.P.Piece.seen) (take l.i l.disks));
}

abbrev pub decreases-disks : goal.decreases-disks
decreases-disks g l = length l.disks - l.i

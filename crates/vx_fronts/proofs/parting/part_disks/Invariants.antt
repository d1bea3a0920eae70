use Rattle.std.proofs.Common.{◌+◌, ◌≤◌, ◌++◌, map, reverse, vec_len, vec_capacity}
use Rattle.std.specs.Prelude.{OnOk}
use Rattle.vx_copies.specs.Disks.{disk_seen}
use Rattle.vx_copies.specs.Lists.{AllOf}
use Rattle.vx_fronts.specs.Forms.{HasForm}
use Rattle.vx_fronts.specs.Parted.{Reparts}
use Rattle.vx_fronts.proofs.parting.part_disks.Given as goal

abbrev pub invariant-left : goal.invariant-left
invariant-left g l = record {
  parts : Reparts (map (disk_seen g.P.Piece.seen) l.fn.disks.items) (map (disk_seen g.P.Piece.seen) (l.parted.items ++ reverse l.left.items)) (map g.P.Piece.seen l.fn.pool.items.items) (map g.P.Piece.seen l.pool.items.items);
  formed : OnOk l.result (AllOf (HasForm l.parting) (map (disk_seen g.P.Piece.seen) l.parted.items));
  room : vec_len l.parted + vec_len l.left ≤ vec_capacity l.parted;
}

abbrev pub decreases-left : goal.decreases-left
decreases-left g l = vec_len l.left

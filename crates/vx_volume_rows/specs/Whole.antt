-- That pieces make up the devices of a group.
use Rattle.std.specs.Prelude.{List}
use Rattle.vx_piece.specs.Seen.{Seen}
use Rattle.vx_copies.specs.Disks.{DiskSeen}
use Rattle.vx_fronts.specs.Parted.{AreParted}
use Rattle.vx_lending.specs.Going.{GoTogether}

-- the pieces went on from those that were behind the fronts of the disks
pub record AreFromBehind (hs : List DiskSeen) (ps : List Seen) : Type 0 where
  pub behind : List Seen
  pub parted : AreParted hs behind
  pub goes : GoTogether behind ps

-- The plexes of the maps below this one are copied to, if the mask has them.
use Rattle.std.proofs.Common.{◌≡◌}
use Rattle.vx_volume.specs.Log.{LogGoes}
use Rattle.vx_volume.specs.Loop.{AreDone}
use Rattle.vx_volume.specs.Volume.{IsVolume, log_of, shape_of, volume_seen}
use Rattle.vx_group_start.specs.Copying.{CopiesMap}
use Rattle.vx_group_start.proofs.copying.copy_all.Given as goal

abbrev pub invariant-loop-map : goal.invariant-loop-map
invariant-loop-map g l = record {
  done : AreDone (CopiesMap l.mask) l.map (volume_seen g.P.Piece.seen l.fn.volume) (volume_seen g.P.Piece.seen l.volume);
  whole : IsVolume (volume_seen g.P.Piece.seen l.volume);
  shape : shape_of l.volume ≡ shape_of l.fn.volume;
  follows : LogGoes g.P.Piece.seen (log_of l.fn.volume) (log_of l.volume);
}

-- The regions before this one are copied where they are to be, and counted.
use Rattle.std.proofs.Common.{◌≡◌, ◌≤◌, vec_len}
use Rattle.vx_volume.specs.Log.{LogGoes}
use Rattle.vx_volume.specs.Loop.{AreDone}
use Rattle.vx_volume.specs.Passes.{CopiesTo}
use Rattle.vx_volume.specs.Volume.{IsVolume, volume_seen}
use Rattle.vx_volume.proofs.volume.Volume.copy_plex.Given as goal

abbrev pub invariant-loop-region : goal.invariant-loop-region
invariant-loop-region g l = record {
  done : AreDone (CopiesTo l.map) l.region (record { volume = volume_seen g.P.Piece.seen l.fn.self; copied = 0 }) (record { volume = volume_seen g.P.Piece.seen l.self; copied = l.copied });
  few : l.copied ≤ l.region;
  whole : IsVolume (volume_seen g.P.Piece.seen l.self);
  shape : l.self.shape ≡ l.fn.self.shape;
  count : vec_len l.self.cells ≡ vec_len l.fn.self.cells;
  follows : LogGoes g.P.Piece.seen l.fn.self.log l.self.log;
}

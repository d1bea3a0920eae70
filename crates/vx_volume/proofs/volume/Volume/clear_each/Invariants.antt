-- The marks of the regions before this one are taken away.
use Rattle.std.proofs.Common.{◌≡◌, vec_len}
use Rattle.vx_volume.specs.Log.{LogGoes}
use Rattle.vx_volume.specs.Loop.{AreDone}
use Rattle.vx_volume.specs.Passes.{Clears}
use Rattle.vx_volume.specs.Volume.{IsVolume, volume_seen}
use Rattle.vx_volume.proofs.volume.Volume.clear_each.Given as goal

abbrev pub invariant-loop-region : goal.invariant-loop-region
invariant-loop-region g l = record {
  done : AreDone Clears l.region (volume_seen g.P.Piece.seen l.fn.self) (volume_seen g.P.Piece.seen l.self);
  whole : IsVolume (volume_seen g.P.Piece.seen l.self);
  shape : l.self.shape ≡ l.fn.self.shape;
  count : vec_len l.self.cells ≡ vec_len l.fn.self.cells;
  follows : LogGoes g.P.Piece.seen l.fn.self.log l.self.log;
}

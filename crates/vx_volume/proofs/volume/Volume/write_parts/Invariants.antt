-- The parts before this one are written.
use Rattle.std.proofs.Common.{◌≡◌, ◌+◌, ◌/◌, ◌≤◌, [], vec_len, vec_capacity}
use Rattle.vx_volume.specs.Calls.{AreFresh, CallsPart, IsWritten}
use Rattle.vx_volume.specs.Log.{LogGoes}
use Rattle.vx_volume.specs.Loop.{AreDone}
use Rattle.vx_volume.specs.Volume.{IsVolume, volume_seen}
use Rattle.vx_volume.proofs.volume.Volume.write_parts.Given as goal

abbrev pub invariant-loop-index : goal.invariant-loop-index
invariant-loop-index g l = record {
  done : AreDone (CallsPart IsWritten l.start l.count l.bytes) l.index (record { volume = volume_seen g.P.Piece.seen l.fn.self; parts = [] }) (record { volume = volume_seen g.P.Piece.seen l.self; parts = l.parts.items });
  whole : IsVolume (volume_seen g.P.Piece.seen l.self);
  fresh : AreFresh (l.start / l.fn.self.shape.geometry.region + l.index) (volume_seen g.P.Piece.seen l.self);
  shape : l.self.shape ≡ l.fn.self.shape;
  few : vec_len l.parts ≤ l.index;
  spare : vec_capacity l.parts ≡ vec_capacity l.fn.parts;
  follows : LogGoes g.P.Piece.seen l.fn.self.log l.self.log;
}

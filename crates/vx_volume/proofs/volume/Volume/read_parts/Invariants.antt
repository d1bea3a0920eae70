-- The parts before this one are read.
use Rattle.std.proofs.Common.{◌≡◌, ◌+◌, ◌/◌, ◌≤◌, [], vec_len, vec_capacity}
use Rattle.vx_volume.specs.Calls.{AreFresh, CallsPart, IsRead}
use Rattle.vx_volume.specs.Log.{LogGoes}
use Rattle.vx_volume.specs.Loop.{AreDone}
use Rattle.vx_volume.specs.Volume.{IsVolume, volume_seen}
use Rattle.vx_volume.proofs.volume.Volume.read_parts.Given as goal

abbrev pub invariant-loop-index : goal.invariant-loop-index
invariant-loop-index g l = record {
  done : AreDone (CallsPart IsRead l.start l.count l.blocks.items) l.index (record { volume = volume_seen g.P.Piece.seen l.fn.self; parts = [] }) (record { volume = volume_seen g.P.Piece.seen l.self; parts = l.parts.items });
  whole : IsVolume (volume_seen g.P.Piece.seen l.self);
  fresh : AreFresh (l.start / l.fn.self.shape.geometry.region + l.index) (volume_seen g.P.Piece.seen l.self);
  shape : l.self.shape ≡ l.fn.self.shape;
  few : vec_len l.parts ≤ l.index;
  spare : vec_capacity l.parts ≡ vec_capacity l.fn.parts;
  bytes : vec_len l.blocks ≡ vec_len l.fn.blocks;
  follows : LogGoes g.P.Piece.seen l.fn.self.log l.self.log;
}

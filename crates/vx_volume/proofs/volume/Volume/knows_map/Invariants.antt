-- The regions below the index have the mark that the log claims.
use Rattle.std.proofs.Common.{◌≡◌, ℕ, ◌<◌}
use Rattle.vx_mask.specs.Mask.{has}
use Rattle.vx_volume.specs.Log.{log_seen}
use Rattle.vx_volume.specs.Volume.{cell_at, volume_seen}
use Rattle.vx_volume.proofs.volume.Volume.knows_map.Given as goal

abbrev pub invariant-loop-index : goal.invariant-loop-index
invariant-loop-index g l = (r : ℕ) → r < l.index → (log_seen g.P.Piece.seen l.self.log).claims r l.map ≡ has (cell_at (volume_seen g.P.Piece.seen l.self) r).stage.bits l.map

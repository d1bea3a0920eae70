-- Each region before the one at hand has a plex that is on and unmarked.
use Rattle.std.proofs.Common.{ℕ, ◌<◌}
use Rattle.vx_volume.specs.Log.{log_seen}
use Rattle.vx_volume.specs.Opening.{HasCurrent}
use Rattle.vx_volume.proofs.opening.first_unread.Given as goal

abbrev pub invariant-loop-region : goal.invariant-loop-region
invariant-loop-region g l = (r : ℕ) → r < l.region → HasCurrent l.shape (log_seen g.P.LocalPiece.seen l.log) r

use Rattle.std.proofs.Common.{◌≡◌, ℕ, ◌+◌, ◌<◌}
use Rattle.std.specs.Prelude.{◌&&◌}
use Rattle.vx_mask.specs.Mask.{has}
use Rattle.vx_maps.specs.Stores.{store_seen}
use Rattle.vx_volume.proofs.listing.byte_of.Given as goal

abbrev pub invariant-loop-k : goal.invariant-loop-k
invariant-loop-k g l = (j : ℕ) → j < l.k → has l.byte j ≡ ((store_seen g.P.LocalPiece.seen l.store).has_region (l.first + j) && (store_seen g.P.LocalPiece.seen l.store).claims (l.first + j) l.map)

use Rattle.std.proofs.Common.{◌≡◌, ℕ, ◌+◌, ◌*◌, ◌<◌, length, get_or}
use Rattle.std.specs.Prelude.{◌&&◌}
use Rattle.vx_mask.specs.Mask.{has}
use Rattle.vx_maps.specs.Stores.{store_seen}
use Rattle.vx_volume.proofs.listing.list.Given as goal

abbrev pub invariant-loop-place : goal.invariant-loop-place
invariant-loop-place g l = record {
  size : length l.bits.items ≡ l.place;
  bits : (j k : ℕ) → j < l.place → k < 8 → has (get_or l.bits.items j 0) k ≡ ((store_seen g.P.LocalPiece.seen l.store).has_region (8 * j + k) && (store_seen g.P.LocalPiece.seen l.store).claims (8 * j + k) l.map);
}

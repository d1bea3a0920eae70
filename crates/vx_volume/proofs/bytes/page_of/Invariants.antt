use Rattle.std.proofs.Common.{◌≡◌, ℕ, ◌+◌, ◌-◌, ◌*◌, ◌<◌, length, get_or}
use Rattle.std.specs.Prelude.{◌&&◌, nat_lt}
use Rattle.vx_mask.specs.Mask.{has}
use Rattle.vx_volume.proofs.bytes.page_of.Given as goal

abbrev pub invariant-loop-place : goal.invariant-loop-place
invariant-loop-place l = record {
  size : length l.image ≡ 512;
  bits : (j k : ℕ) → j < l.place → k < 8 → has (get_or l.image j 0) k ≡ (has (get_or l.bytes (512 * l.page + j) 0) k && nat_lt k (l.regions - 8 * (512 * l.page + j)));
}

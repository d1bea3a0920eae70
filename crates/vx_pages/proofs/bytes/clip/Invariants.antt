use Rattle.std.proofs.Common.{◌≡◌, ℕ, length}
use Rattle.std.specs.Prelude.{◌%◌, ◌&&◌}
use Rattle.vx_mapfmt.specs.Bits.{bit_in}
use Rattle.vx_pages.proofs.Clips.{stays}
use Rattle.vx_pages.proofs.bytes.clip.Given as goal

abbrev pub invariant-loop-place : goal.invariant-loop-place
invariant-loop-place l = record {
  size : length l.page.items ≡ 512;
  bits : (region : ℕ) → bit_in l.page.items region ≡ (bit_in l.fn.page.items region && stays l.inside l.place (region % 4096));
}

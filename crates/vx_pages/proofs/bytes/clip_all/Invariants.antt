use Rattle.std.proofs.Common.{◌≡◌, ◌<◌, ◌≤◌, ℕ}
use Rattle.std.specs.Prelude.{◌%◌, ◌&&◌, nat_lt}
use Rattle.vx_mapfmt.specs.Bits.{bit_in}
use Rattle.vx_pages.specs.Images.{images_seen}
use Rattle.vx_pages.specs.Reading.{AreImages, image_at}
use Rattle.vx_pages.proofs.bytes.clip_all.Given as goal

abbrev pub invariant-loop-map : goal.invariant-loop-map
invariant-loop-map l = record {
  images : AreImages (images_seen l.images.items);
  below : (m region : ℕ) → m < l.map → bit_in (image_at (images_seen l.images.items) m) region ≡ (bit_in (image_at (images_seen l.fn.images.items) m) region && nat_lt (region % 4096) l.inside);
  rest : (m : ℕ) → l.map ≤ m → image_at (images_seen l.images.items) m ≡ image_at (images_seen l.fn.images.items) m;
}

use Rattle.std.proofs.Common.{◌≡◌, ◌<◌, ◌≤◌, ℕ, length}
use Rattle.std.specs.Prelude.{vec_capacity}
use Rattle.vx_pages.specs.Images.{images_seen}
use Rattle.vx_pages.specs.Reading.{image_at}
use Rattle.vx_maps.proofs.reading.row_of.Given as goal

abbrev pub invariant-loop-map : goal.invariant-loop-map
invariant-loop-map l = record {
  count : length l.row.items ≡ l._map;
  room : 32 ≤ vec_capacity l.row;
  whole : (m : ℕ) → m < l._map → length (image_at (images_seen l.row.items) m) ≡ 512;
}

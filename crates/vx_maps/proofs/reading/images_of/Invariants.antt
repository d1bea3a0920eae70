use Rattle.std.proofs.Common.{◌≡◌, ◌<◌, ◌≤◌, ℕ, length}
use Rattle.std.specs.Prelude.{vec_capacity}
use Rattle.vx_pages.specs.Reading.{AreImages}
use Rattle.vx_maps.specs.Loading.{images_at, rows_seen}
use Rattle.vx_maps.proofs.reading.images_of.Given as goal

abbrev pub invariant-loop-page : goal.invariant-loop-page
invariant-loop-page l = record {
  count : length l.rows.items ≡ l._page;
  room : l.pages ≤ vec_capacity l.rows;
  each : (i : ℕ) → i < l._page → AreImages (images_at (rows_seen l.rows.items) i);
}

use Rattle.std.proofs.Common.{◌≡◌, ◌≤◌, ℕ, [], length}
use Rattle.vx_pages.specs.Page.{EachSector}
use Rattle.vx_pages.specs.Pages.{grid_seen}
use Rattle.vx_pages.specs.Reading.{IsSettled, image_at}
use Rattle.vx_pages.proofs.Rounds.{Went}
use Rattle.vx_maps.specs.Going.{places_of}
use Rattle.vx_maps.specs.Loading.{images_at, rows_seen}
use Rattle.vx_maps.specs.Store.{pages_faults, pages_seen}
use Rattle.vx_maps.proofs.loading.settle_pages.Given as goal

abbrev pub invariant-loop-index : goal.invariant-loop-index
invariant-loop-index g l = record {
  went : Went [] (λ i. EachSector (λ m. IsSettled (image_at (images_at (rows_seen l.images.items) i) m))) l.index (grid_seen g.P.LocalPiece.seen l.fn.pages.items) (grid_seen g.P.LocalPiece.seen l.pages.items);
  size : length l.pages.items ≡ length l.fn.pages.items;
  places : places_of l.pages.items ≡ places_of l.fn.pages.items;
  grown : (copy device : ℕ) → pages_faults (pages_seen g.P.LocalPiece.seen l.fn.pages.items) copy device ≤ pages_faults (pages_seen g.P.LocalPiece.seen l.pages.items) copy device;
}

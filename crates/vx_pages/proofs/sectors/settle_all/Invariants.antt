use Rattle.std.proofs.Common.{◌≡◌, ◌≤◌, ℕ, length}
use Rattle.vx_pages.specs.Images.{images_seen}
use Rattle.vx_pages.specs.Page.{faults_in, sectors_seen}
use Rattle.vx_pages.specs.Reading.{IsSettled, image_at}
use Rattle.vx_pages.proofs.Loops.{Went}
use Rattle.vx_pages.proofs.sectors.settle_all.Given as goal

abbrev pub invariant-loop-map : goal.invariant-loop-map
invariant-loop-map g l = record {
  went : Went (λ map. IsSettled (image_at (images_seen l.images.items) map)) l.map (sectors_seen g.P.LocalPiece.seen l.fn.sectors.items) (sectors_seen g.P.LocalPiece.seen l.sectors.items);
  size : length l.sectors.items ≡ 32;
  grown : (copy device : ℕ) → faults_in (sectors_seen g.P.LocalPiece.seen l.fn.sectors.items) copy device ≤ faults_in (sectors_seen g.P.LocalPiece.seen l.sectors.items) copy device;
}

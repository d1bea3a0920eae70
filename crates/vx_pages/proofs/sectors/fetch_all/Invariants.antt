use Rattle.std.proofs.Common.{◌≡◌, ◌<◌, ℕ, length}
use Rattle.vx_pages.specs.Images.{images_seen}
use Rattle.vx_pages.specs.Page.{faults_in, sector_at, sectors_seen}
use Rattle.vx_pages.specs.Reading.{AreImages, IsWhatIs, ReadsSector, image_at}
use Rattle.vx_pages.specs.Sector.{copy_of}
use Rattle.vx_pages.proofs.Loops.{Went}
use Rattle.vx_pages.proofs.sectors.fetch_all.Given as goal

abbrev pub invariant-loop-map : goal.invariant-loop-map
invariant-loop-map g l = record {
  went : Went (λ map. ReadsSector) l.map (sectors_seen g.P.LocalPiece.seen l.fn.sectors.items) (sectors_seen g.P.LocalPiece.seen l.sectors.items);
  size : length l.sectors.items ≡ 32;
  images : AreImages (images_seen l.images.items);
  gives : (m : ℕ) → m < l.map → IsWhatIs (image_at (images_seen l.images.items) m) (copy_of (sector_at (sectors_seen g.P.LocalPiece.seen l.fn.sectors.items) m).copies l.copy);
  quiet : (copy device : ℕ) → faults_in (sectors_seen g.P.LocalPiece.seen l.sectors.items) copy device ≡ faults_in (sectors_seen g.P.LocalPiece.seen l.fn.sectors.items) copy device;
}

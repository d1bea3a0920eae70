use Rattle.std.proofs.Common.{◌≡◌, ℕ, length, Ok}
use Rattle.vx_pages.specs.Sector.{IsTidied, SectorHands}
use Rattle.vx_pages.specs.Page.{faults_in, sectors_seen}
use Rattle.vx_pages.specs.Writes.{is_open, once_if}
use Rattle.vx_pages.proofs.Loops.{Went}
use Rattle.vx_pages.proofs.sectors.tidy_all.Given as goal

abbrev pub invariant-loop-map : goal.invariant-loop-map
invariant-loop-map g l = record {
  went : Went (λ map. IsTidied {T = Unit {0}} (Ok tt)) l.map (sectors_seen g.P.LocalPiece.seen l.fn.sectors.items) (sectors_seen g.P.LocalPiece.seen l.sectors.items);
  size : length l.sectors.items ≡ length l.fn.sectors.items;
  quiet : (copy device : ℕ) → faults_in (sectors_seen g.P.LocalPiece.seen l.sectors.items) copy device ≡ faults_in (sectors_seen g.P.LocalPiece.seen l.fn.sectors.items) copy device;
  counted : Went (λ map a b. SectorHands {T = Unit {0}} (once_if (is_open a)) (Ok tt) a.copies b.copies) l.map (sectors_seen g.P.LocalPiece.seen l.fn.sectors.items) (sectors_seen g.P.LocalPiece.seen l.sectors.items);
}

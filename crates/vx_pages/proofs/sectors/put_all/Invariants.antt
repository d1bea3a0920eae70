use Rattle.std.proofs.Common.{◌≡◌, ℕ, length, Ok}
use Rattle.vx_pages.specs.Sector.{IsBitPut, SectorHands}
use Rattle.vx_pages.specs.Page.{asked, faults_in, sectors_seen}
use Rattle.vx_mask.specs.Mask.{has}
use Rattle.vx_pages.specs.Writes.{once_if}
use Rattle.vx_pages.proofs.Loops.{Went}
use Rattle.vx_pages.proofs.sectors.put_all.Given as goal

abbrev pub invariant-loop-map : goal.invariant-loop-map
invariant-loop-map g l = record {
  went : Went (λ map. IsBitPut {T = Unit {0}} (asked l.bits l.region map) l.on (Ok tt)) l.map (sectors_seen g.P.LocalPiece.seen l.fn.sectors.items) (sectors_seen g.P.LocalPiece.seen l.sectors.items);
  size : length l.sectors.items ≡ 32;
  quiet : (copy device : ℕ) → faults_in (sectors_seen g.P.LocalPiece.seen l.sectors.items) copy device ≡ faults_in (sectors_seen g.P.LocalPiece.seen l.fn.sectors.items) copy device;
  counted : Went (λ map a b. SectorHands {T = Unit {0}} (once_if (has l.bits map)) (Ok tt) a.copies b.copies) l.map (sectors_seen g.P.LocalPiece.seen l.fn.sectors.items) (sectors_seen g.P.LocalPiece.seen l.sectors.items);
  same : Went (λ map old new. new.loose ≡ old.loose) l.map (sectors_seen g.P.LocalPiece.seen l.fn.sectors.items) (sectors_seen g.P.LocalPiece.seen l.sectors.items);
}

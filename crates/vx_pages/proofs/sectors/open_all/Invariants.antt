use Rattle.std.proofs.Common.{◌≡◌, length}
use Rattle.vx_pages.specs.Sector.{BitOpened, Turns}
use Rattle.vx_pages.specs.Page.{asked, sectors_seen}
use Rattle.vx_pages.proofs.Loops.{Went}
use Rattle.vx_pages.proofs.sectors.open_all.Given as goal

abbrev pub invariant-loop-map : goal.invariant-loop-map
invariant-loop-map g l = record {
  went : Went (λ map. Turns (BitOpened (asked l.bits l.region map))) l.map (sectors_seen g.P.LocalPiece.seen l.fn.sectors.items) (sectors_seen g.P.LocalPiece.seen l.sectors.items);
  size : length l.sectors.items ≡ 32;
}

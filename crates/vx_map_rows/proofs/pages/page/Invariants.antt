use Rattle.std.proofs.Common.{◌≡◌, length, true}
use Rattle.vx_piece.specs.MemPiece.{mem_seen}
use Rattle.vx_pages.specs.Page.{sectors_seen}
use Rattle.vx_pages.specs.Page.{ArePaired}
use Rattle.vx_map_rows.proofs.pages.page.Given as goal

abbrev pub invariant-loop-map : goal.invariant-loop-map
invariant-loop-map l = record {
  count : length l.sectors.items ≡ l.map;
  pair : ArePaired true (sectors_seen mem_seen l.sectors.items);
}

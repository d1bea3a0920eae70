use Rattle.std.proofs.Common.{◌≡◌, ◌≤◌, List, [], ◌∷◌, ◌++◌, length, vec_capacity, is_some}
use Rattle.vx_pages.specs.Sector.{SectorSeen}
use Rattle.vx_pages.specs.Page.{sectors_seen}
use Rattle.vx_maps.specs.Sheets.{sheets_seen}
use Rattle.vx_pages.specs.Page.{AreAll, ArePaired}
use Rattle.vx_pages.specs.Sector.{IsOpen}
use Rattle.vx_maps.specs.Slots.{HasCuts, HasHoles, HasPieces, Wholes}
use Rattle.vx_maps.proofs.paging.fill_page.Given as goal

abbrev pub invariant-loop-map : goal.invariant-loop-map
invariant-loop-map g l = record {
  count : length l.sectors.items ≡ l.map;
  room : 32 ≤ vec_capacity l.sectors;
  pieces : HasPieces l.size l.page l.map (sheets_seen g.P.LocalPiece.seen l.sheets);
  holes : HasHoles l.size l.page l.map (sheets_seen g.P.LocalPiece.seen l.sheets);
  second : is_some (sheets_seen g.P.LocalPiece.seen l.sheets).second ≡ is_some (sheets_seen g.P.LocalPiece.seen l.fn.sheets).second;
  pair : ArePaired (is_some (sheets_seen g.P.LocalPiece.seen l.fn.sheets).second) (sectors_seen g.P.LocalPiece.seen l.sectors.items);
  is_open : AreAll IsOpen (sectors_seen g.P.LocalPiece.seen l.sectors.items);
  cut : (pages : List (List SectorSeen)) (wholes : Wholes) → length pages ≡ l.page → HasCuts l.size pages wholes (sheets_seen g.P.LocalPiece.seen l.fn.sheets) →
      HasCuts l.size (pages ++ sectors_seen g.P.LocalPiece.seen l.sectors.items ∷ []) wholes (sheets_seen g.P.LocalPiece.seen l.sheets);
}

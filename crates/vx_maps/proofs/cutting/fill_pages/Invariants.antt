use Rattle.std.proofs.Common.{◌≡◌, ◌≤◌, ◌/◌, [], length, vec_capacity, is_some}
use Rattle.vx_mapfmt.specs.Sizes.{page_count}
use Rattle.vx_pages.specs.Pages.{grid_seen}
use Rattle.vx_maps.specs.Sheets.{sheets_seen}
use Rattle.vx_maps.specs.Store.{AreLogsOf, pages_seen}
use Rattle.vx_pages.specs.Sector.{IsOpen}
use Rattle.vx_maps.specs.Slots.{HasCuts, Wholes}
use Rattle.vx_maps.proofs.cutting.fill_pages.Given as goal

abbrev pub invariant-loop-index : goal.invariant-loop-index
invariant-loop-index g l = record {
  count : length l.pages.items ≡ l.index;
  room : page_count l.shape.regions ≤ vec_capacity l.pages;
  second : is_some (sheets_seen g.P.LocalPiece.seen l.sheets).second ≡ is_some (sheets_seen g.P.LocalPiece.seen l.fn.sheets).second;
  logs : AreLogsOf l.shape.regions (is_some (sheets_seen g.P.LocalPiece.seen l.sheets).second) IsOpen (grid_seen g.P.LocalPiece.seen l.pages.items) (pages_seen g.P.LocalPiece.seen l.pages.items);
  cut : (wholes : Wholes) → HasCuts (l.shape.map_bytes / 512) [] wholes (sheets_seen g.P.LocalPiece.seen l.fn.sheets) → HasCuts (l.shape.map_bytes / 512) (grid_seen g.P.LocalPiece.seen l.pages.items) wholes (sheets_seen g.P.LocalPiece.seen l.sheets);
}

use Rattle.std.proofs.Common.{◌≤◌, ◌/◌, length, vec_len, is_some}
use Rattle.vx_mapfmt.specs.Sizes.{page_count}
use Rattle.vx_pages.specs.Pages.{grid_seen}
use Rattle.vx_maps.specs.Sheets.{sheets_seen}
use Rattle.vx_maps.specs.Slots.{AreHoled, ArePairedRows, HasCuts, Wholes}
use Rattle.vx_maps.proofs.cutting.drain_pages.Given as goal

abbrev pub invariant-draining : goal.invariant-draining
invariant-draining g l = record {
  few : length l.left.items ≤ page_count l.shape.regions;
  holed : AreHoled (l.shape.map_bytes / 512) (grid_seen g.P.LocalPiece.seen l.left.items) (sheets_seen g.P.LocalPiece.seen l.sheets);
  pairs : ArePairedRows (is_some (sheets_seen g.P.LocalPiece.seen l.sheets).second) (grid_seen g.P.LocalPiece.seen l.left.items);
  cut : (wholes : Wholes) → HasCuts (l.shape.map_bytes / 512) (grid_seen g.P.LocalPiece.seen l.fn.pages.items) wholes (sheets_seen g.P.LocalPiece.seen l.fn.sheets) → HasCuts (l.shape.map_bytes / 512) (grid_seen g.P.LocalPiece.seen l.left.items) wholes (sheets_seen g.P.LocalPiece.seen l.sheets);
}

abbrev pub decreases-draining : goal.decreases-draining
decreases-draining g l = vec_len l.left

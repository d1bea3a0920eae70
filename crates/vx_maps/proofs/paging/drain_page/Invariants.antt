use Rattle.std.proofs.Common.{◌≡◌, ◌≤◌, List, [], ◌∷◌, ◌++◌, length, vec_len, is_some}
use Rattle.vx_pages.specs.Sector.{SectorSeen}
use Rattle.vx_pages.specs.Page.{sectors_seen}
use Rattle.vx_maps.specs.Sheets.{sheets_seen}
use Rattle.vx_pages.specs.Page.{ArePaired}
use Rattle.vx_maps.specs.Slots.{HasCuts, HasHoles, Wholes}
use Rattle.vx_maps.proofs.paging.drain_page.Given as goal

abbrev pub invariant-draining : goal.invariant-draining
invariant-draining g l = record {
  few : length l.left.items ≤ 32;
  holes : HasHoles l.size l.page (length l.left.items) (sheets_seen g.P.LocalPiece.seen l.sheets);
  second : is_some (sheets_seen g.P.LocalPiece.seen l.sheets).second ≡ is_some (sheets_seen g.P.LocalPiece.seen l.fn.sheets).second;
  pair : ArePaired (is_some (sheets_seen g.P.LocalPiece.seen l.fn.sheets).second) (sectors_seen g.P.LocalPiece.seen l.left.items);
  cut : (pages : List (List SectorSeen)) (wholes : Wholes) → length pages ≡ l.page → HasCuts l.size (pages ++ sectors_seen g.P.LocalPiece.seen l.fn.sectors.items ∷ []) wholes (sheets_seen g.P.LocalPiece.seen l.fn.sheets) →
      HasCuts l.size (pages ++ sectors_seen g.P.LocalPiece.seen l.left.items ∷ []) wholes (sheets_seen g.P.LocalPiece.seen l.sheets);
}

abbrev pub decreases-draining : goal.decreases-draining
decreases-draining g l = vec_len l.left

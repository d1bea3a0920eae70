use Rattle.std.proofs.Common.{◌≡◌, ◌≤◌, ◌<◌, ℕ, List, [], ◌∷◌, ◌++◌, length, map, true, vec_len, vec_capacity}
use Rattle.vx_pages.specs.Page.{ArePaired}
use Rattle.vx_pages.specs.Parting.{pieces_on}
use Rattle.vx_pages.specs.Sector.{SectorSeen}
use Rattle.vx_maps.specs.Slots.{HasCut, HasHolesOn, Whole, slots_seen}
use Rattle.vx_maps.proofs.Partings.{StillCut}
use Rattle.vx_maps.proofs.parting.put_pieces.Given as goal

abbrev pub invariant-putting : goal.invariant-putting
invariant-putting g l = record {
  few : length l.pieces.items ≤ 32;
  holes : HasHolesOn l.size l.page (length l.pieces.items) (slots_seen g.P.LocalPiece.seen l.slots.items);
  capacity : vec_capacity l.pieces ≡ vec_capacity l.fn.pieces;
  cut : (copy : ℕ) (pages : List (List SectorSeen)) (row : List SectorSeen) (whole : Whole) → length pages ≡ l.page → copy < 2 → ArePaired true row → map g.P.LocalPiece.seen l.fn.pieces.items ≡ pieces_on copy row →
      HasCut l.size copy (pages ++ row ∷ []) whole (slots_seen g.P.LocalPiece.seen l.fn.slots.items) → StillCut l.size copy pages whole (map g.P.LocalPiece.seen l.pieces.items) (slots_seen g.P.LocalPiece.seen l.slots.items);
}

abbrev pub decreases-putting : goal.decreases-putting
decreases-putting g l = vec_len l.pieces

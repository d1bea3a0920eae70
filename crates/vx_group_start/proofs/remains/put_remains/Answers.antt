-- The regions are put back, and the log stays.
use Rattle.std.proofs.Common.{◌++◌, List, map, subst, sym}
use Rattle.vx_piece.specs.Seen.{Seen}
use Rattle.vx_carve.specs.Together.{SameSectors}
use Rattle.vx_lending.specs.Left.{left_copies}
use Rattle.vx_lending.specs.declared.left.LogLeft.{LogLeft}
use Rattle.vx_volume.specs.Opening.{regions_seen}
use Rattle.vx_lending.specs.RegionPieces.{all_pieces}
use Rattle.vx_maps.specs.Wholes.{store_copies}
use Rattle.vx_lending.specs.Pieces.{copy_pieces}
use Rattle.vx_lending.proofs.Sums.{first_left}
use Rattle.vx_group_start.proofs.remains.put_remains.Goals as goal

pub returns-in-Store-clause-left : goal.returns-in-Store-clause-left
returns-in-Store-clause-left g c =
    let rs : List Seen = all_pieces (regions_seen g.P.Piece.seen c.args.regions.items) in
    let ss : List Seen = all_pieces (regions_seen g.P.Piece.seen c.regions_left.result.items) in
    let cs : List Seen = copy_pieces (store_copies g.P.Piece.seen c.in-Store.store) in
    let ps : List Seen = map g.P.Piece.seen c.args.pool.now.items.items in
    let qs : List Seen = map g.P.Piece.seen c.regions_left.new.pool.items.items in
    subst (λ (log : LogLeft _ _). SameSectors ((rs ++ copy_pieces (left_copies g.P.Piece.seen log)) ++ ps) ((ss ++ cs) ++ qs)) (sym c.in-Store.is) (first_left rs cs ss ps qs c.regions_left.ensures)

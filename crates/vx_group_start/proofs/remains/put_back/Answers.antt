-- What is not put back into the pool stays among what is left.
use Rattle.std.proofs.Common.{map, ◌++◌}
use Rattle.std.specs.List.{flat_map}
use Rattle.vx_volume.specs.Opening.{regions_seen}
use Rattle.vx_lending.specs.RegionPieces.{all_pieces}
use Rattle.vx_lending.specs.Left.{left_copies}
use Rattle.vx_lending.specs.Pieces.{copy_pieces}
use Rattle.vx_lending.specs.Public.{remaining_pieces}
use Rattle.vx_group_start.proofs.Stills.{still_more, still_put}
use Rattle.vx_group_start.proofs.remains.put_back.Goals as goal

pub returns-in-Err-clause-still : goal.returns-in-Err-clause-still
returns-in-Err-clause-still g c =
    still_more (remaining_pieces g.P.Piece.seen) c.args.public.now.left.items c.push_reserved.new.self.items c.in-Err.remains (all_pieces (regions_seen g.P.Piece.seen c.args.regions.items) ++ copy_pieces (left_copies g.P.Piece.seen c.args.log))
    (map g.P.Piece.seen c.args.public.now.pool.items.items) (map g.P.Piece.seen c.put_remains.new.pool.items.items) c.push_reserved.ensures.items c.in-Err.ensures.left

pub returns-in_default-clause-still : goal.returns-in_default-clause-still
returns-in_default-clause-still g c =
    still_put (all_pieces (regions_seen g.P.Piece.seen c.args.regions.items) ++ copy_pieces (left_copies g.P.Piece.seen c.args.log))
    (map g.P.Piece.seen c.args.public.now.pool.items.items) (map g.P.Piece.seen c.put_remains.new.pool.items.items) (flat_map (remaining_pieces g.P.Piece.seen) c.args.public.now.left.items) c.in_default.ensures.put

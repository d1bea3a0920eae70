-- The pieces of the volume are put back into the pool, and the others lie still.
use Rattle.std.proofs.Common.{◌++◌, List, map, subst}
use Rattle.std.specs.List.{flat_map}
use Rattle.vx_piece.specs.Seen.{Seen}
use Rattle.vx_carve.specs.Together.{SameSectors}
use Rattle.vx_lending.specs.Left.{held_pieces}
use Rattle.vx_lending.specs.Public.{remaining_pieces}
use Rattle.vx_group_start.proofs.Closings.{same_held}
use Rattle.vx_group_start.proofs.Stills.{still_put}
use Rattle.vx_group_start.proofs.closing.close_volume.Goals as goal

pub returns-in-Ok-put_reserved-clause-put : goal.returns-in-Ok-put_reserved-clause-put
returns-in-Ok-put_reserved-clause-put g c =
    still_put (held_pieces g.P.Piece.seen c.args.running.volume) (map g.P.Piece.seen c.args.public.now.pool.items.items) (map g.P.Piece.seen c.put_reserved.new.pool.items.items) (flat_map (remaining_pieces g.P.Piece.seen) c.args.public.now.left.items)
    (subst (λ (xs : List Seen). SameSectors (xs ++ map g.P.Piece.seen c.args.public.now.pool.items.items) (map g.P.Piece.seen c.put_reserved.new.pool.items.items)) (same_held c.args.running.volume c.in-Ok.volume c.in-Ok.ensures.same)
    (subst (λ xs. SameSectors (held_pieces g.P.Piece.seen c.in-Ok.volume ++ map g.P.Piece.seen xs) (map g.P.Piece.seen c.put_reserved.new.pool.items.items)) c.in-Ok.ensures.pool c.in-Ok-put_reserved.ensures.put))

-- The log lies behind what was left over.
use Rattle.std.proofs.Common.{map, refl}
use Rattle.vx_group_start.proofs.MadeLogs.{left_still}
use Rattle.vx_group_start.proofs.making.leave_log.Goals as goal

pub returns-clause-still : goal.returns-clause-still
returns-clause-still g c =
    left_still g.P.Piece.seen c.args.public.now.left.items c.push_reserved.new.self.items _ c.args.log refl c.new-regions.ensures.items (map g.P.Piece.seen c.args.public.now.pool.items.items) c.push_reserved.ensures.items

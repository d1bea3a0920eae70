use Rattle.vx_yielded_volumes.proofs.Copies.{each_alone, each_found, each_missed}
use Rattle.vx_yielded_volumes.proofs.each_log_is_found.Goals as goal

pub returns : goal.returns
returns g c = record { found = each_found g.P.Piece.seen c.args.running.now; missed = each_missed g.P.Piece.seen c.args.running.now; alone = each_alone g.P.Piece.seen c.args.running.now }

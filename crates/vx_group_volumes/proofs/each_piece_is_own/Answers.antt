use Rattle.vx_volume.specs.Volume.{log_of, volume_seen}
use Rattle.vx_lending.specs.Logs.{log_copies}
use Rattle.vx_group_volumes.proofs.Held.{kept_sector, of_pieces, own_sector}
use Rattle.vx_group_volumes.proofs.each_piece_is_own.Goals as goal

pub returns-clause-own : goal.returns-clause-own
returns-clause-own g c config good numbers v runs device k any =
    own_sector runs.opening.config runs.opening.good runs.opening.vol numbers device k
    (of_pieces runs.opening.config runs.opening.good runs.opening.vol runs.opening.fresh c.args.running.now.form runs.form numbers device k (volume_seen g.P.Piece.seen c.args.running.now.volume) (log_copies g.P.Piece.seen (log_of c.args.running.now.volume)) runs.lies.lies any)

pub returns-clause-kept : goal.returns-clause-kept
returns-clause-kept g c config good numbers v runs config' vol keeps device k any =
    kept_sector runs.opening.config runs.opening.good runs.opening.vol numbers device k config' vol keeps
    (of_pieces runs.opening.config runs.opening.good runs.opening.vol runs.opening.fresh c.args.running.now.form runs.form numbers device k (volume_seen g.P.Piece.seen c.args.running.now.volume) (log_copies g.P.Piece.seen (log_of c.args.running.now.volume)) runs.lies.lies any)

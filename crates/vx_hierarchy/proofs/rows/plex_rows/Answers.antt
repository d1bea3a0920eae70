use Rattle.std.proofs.Common.{rules}
use Rattle.vx_hierarchy.specs.Rows.{is_started}
use Rattle.vx_hierarchy.proofs.Held.{by_lost}
use Rattle.vx_hierarchy.proofs.rows.plex_rows.Goals as goal

pub returns : goal.returns
returns c = λ d.
    by_lost d.args.config.now d.args.good d.args.lent.now d.in_ok-lost.lost (is_started d.args.started.now) d.in_ok-pieces.pieces d.as_slice.result.now d.in_ok-found.found.items d.in_ok-lost.ensures d.in_ok-found.ensures (search rules) d.as_slice.ensures

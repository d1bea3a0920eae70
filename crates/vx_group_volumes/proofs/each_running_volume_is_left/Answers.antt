use Rattle.vx_group_volumes.proofs.Leavings.{leaving_stands, recorded_runs}
use Rattle.vx_group_volumes.proofs.each_running_volume_is_left.Goals as goal

pub returns-clause-recorded : goal.returns-clause-recorded
returns-clause-recorded g c config good numbers v runs = recorded_runs g.P.Piece.seen c.args.running.now config good numbers v runs

pub returns-clause-left : goal.returns-clause-left
returns-clause-left g c config good numbers v runs was plexes w run sure contents hold bytes sectors named =
    leaving_stands g.P.Piece.seen c.args.running.now config good numbers v runs c.each_left_volume_stands.ensures.leaving was plexes w run sure contents hold bytes sectors named

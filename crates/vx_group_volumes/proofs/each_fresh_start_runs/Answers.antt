use Rattle.vx_image.specs.Bytes.{image_of}
use Rattle.vx_moments.specs.Lives.{volume_first}
use Rattle.vx_volume.specs.Volume.{volume_seen}
use Rattle.vx_group_volumes.proofs.Firsts.{fresh_exact, fresh_runs, fresh_tight}
use Rattle.vx_group_volumes.proofs.each_fresh_start_runs.Goals as goal

pub returns-clause-runs : goal.returns-clause-runs
returns-clause-runs g c config good v numbers of empty form_is started contents hold bytes sectors plexes =
    fresh_runs config good v numbers c.args.old.now c.args.new.now c.args.running.now of empty form_is started contents hold bytes sectors c.each_empty_begins.ensures c.each_opening_runs.ensures plexes

pub returns-clause-forgets : goal.returns-clause-forgets
returns-clause-forgets g c config good v numbers of empty form_is started contents hold bytes sectors plexes owners fit =
    c.each_running_forgets.ensures (image_of config good bytes v).plexes (volume_seen g.P.Piece.seen c.args.running.now.volume) (volume_first plexes (image_of config good bytes v))
    (fresh_runs config good v numbers c.args.old.now c.args.new.now c.args.running.now of empty form_is started contents hold bytes sectors c.each_empty_begins.ensures c.each_opening_runs.ensures plexes) owners fit

pub returns-clause-tight : goal.returns-clause-tight
returns-clause-tight g c config good v numbers of empty form_is started contents hold bytes sectors =
    fresh_tight config good v numbers c.args.old.now c.args.new.now c.args.running.now of empty form_is started contents hold bytes sectors

pub returns-clause-exact : goal.returns-clause-exact
returns-clause-exact g c config good v numbers of empty form_is started contents hold bytes sectors =
    fresh_exact config good v numbers c.args.old.now c.args.new.now c.args.running.now of empty form_is started contents hold bytes sectors

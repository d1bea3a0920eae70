use Rattle.vx_image.specs.Bytes.{image_of}
use Rattle.vx_volume.specs.Volume.{volume_seen}
use Rattle.vx_moments.specs.Volumes.{volume_read}
use Rattle.vx_group_volumes.proofs.Starts.{loaded_exact, loaded_runs}
use Rattle.vx_group_volumes.proofs.each_loaded_start_runs.Goals as goal

pub returns-clause-runs : goal.returns-clause-runs
returns-clause-runs g c config good v numbers of filled form_is started contents hold bytes sectors sound plexes =
    loaded_runs config good v numbers c.args.old.now c.args.new.now c.args.running.now of filled form_is started contents hold bytes sectors c.each_opening_runs.ensures sound plexes

pub returns-clause-forgets : goal.returns-clause-forgets
returns-clause-forgets g c config good v numbers of filled form_is started contents hold bytes sectors sound plexes owners fit =
    c.each_running_forgets.ensures (image_of config good bytes v).plexes (volume_seen g.P.Piece.seen c.args.running.now.volume) (volume_read plexes (image_of config good bytes v))
    (loaded_runs config good v numbers c.args.old.now c.args.new.now c.args.running.now of filled form_is started contents hold bytes sectors c.each_opening_runs.ensures sound plexes) owners fit

pub returns-clause-exact : goal.returns-clause-exact
returns-clause-exact g c config good v numbers of filled form_is started contents hold bytes sectors =
    loaded_exact config good v numbers c.args.old.now c.args.new.now c.args.running.now of filled form_is started contents hold bytes sectors

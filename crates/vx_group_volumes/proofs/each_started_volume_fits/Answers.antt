use Rattle.vx_volume.specs.Log.{log_seen}
use Rattle.vx_volume.specs.Volume.{log_of, volume_seen}
use Rattle.vx_group_volumes.proofs.Owners.{owners_fit}
use Rattle.vx_group_volumes.proofs.each_started_volume_fits.Goals as goal

pub returns : goal.returns
returns g c config good v fresh numbers of form_is started bytes owners each =
    owners_fit config good v of c.args.running.now.form.shape form_is.shape_is (log_seen g.P.Piece.seen (log_of c.args.running.now.volume)) started.regions (volume_seen g.P.Piece.seen c.args.running.now.volume) started.opened bytes owners each

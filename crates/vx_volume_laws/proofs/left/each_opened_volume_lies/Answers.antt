use Rattle.vx_volume_laws.proofs.Lasting.{lies_opened}
use Rattle.vx_volume_laws.proofs.left.each_opened_volume_lies.Goals as goal

pub returns : goal.returns
returns g c numbers form regions taken on = lies_opened numbers form regions taken c.args.volume.now on

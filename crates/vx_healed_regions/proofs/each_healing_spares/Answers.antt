use Rattle.vx_healed_regions.proofs.Spared.{healing_spares}
use Rattle.vx_healed_regions.proofs.each_healing_spares.Goals as goal

pub returns : goal.returns
returns g c config good v numbers result is before behind around =
    healing_spares config good v numbers c.args.old.now c.args.new.now c.args.running.now c.args.after.now result is before behind around

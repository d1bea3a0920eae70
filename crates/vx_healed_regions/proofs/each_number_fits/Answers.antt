use Rattle.vx_healed_regions.proofs.Numbers.{copied_fits, dirty_fits}
use Rattle.vx_healed_regions.proofs.each_number_fits.Goals as goal

pub returns-clause-dirty : goal.returns-clause-dirty
returns-clause-dirty g c config good v numbers healed is before behind around =
    dirty_fits config good v numbers c.args.old.now c.args.new.now c.args.running.now c.args.after.now healed is before behind around

pub returns-clause-copied : goal.returns-clause-copied
returns-clause-copied g c config good v numbers healed is before behind around sound owners failed fit told =
    copied_fits config good v numbers c.args.old.now c.args.new.now c.args.running.now c.args.after.now healed is before behind around sound owners failed fit told

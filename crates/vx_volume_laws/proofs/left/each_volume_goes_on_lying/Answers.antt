use Rattle.vx_volume_laws.proofs.Lasting.{lies_armed, lies_on}
use Rattle.vx_volume_laws.proofs.left.each_volume_goes_on_lying.Goals as goal

pub returns-clause-called : goal.returns-clause-called
returns-clause-called g c numbers form was kept goes = lies_on numbers form c.args.old.now c.args.new.now was kept goes

pub returns-clause-armed : goal.returns-clause-armed
returns-clause-armed g c numbers form stop was armed = lies_armed numbers form c.args.old.now c.args.new.now was stop armed

use Rattle.vx_volume_laws.proofs.Armings.{copies_armed, volume_armed}
use Rattle.vx_volume_laws.proofs.left.each_arming_keeps_places.Goals as goal

pub returns-clause-places : goal.returns-clause-places
returns-clause-places g c stop armed = volume_armed stop c.args.old.now c.args.new.now armed

pub returns-clause-copies : goal.returns-clause-copies
returns-clause-copies g c stop armed = (copies_armed stop c.args.old.now c.args.new.now armed).0

pub returns-clause-shape : goal.returns-clause-shape
returns-clause-shape g c stop armed geometry fits = (copies_armed stop c.args.old.now c.args.new.now armed).1 geometry fits

use Rattle.vx_shelf.proofs.Places.{found_by_position}
use Rattle.vx_shelf.proofs.mem_shelf.find.Goals as goal

pub returns : goal.returns
returns c = found_by_position c.args.name.now c.args.places.now c.position.result c.position.ensures

use Rattle.vx_shelf.proofs.Listings.{names_listed}
use Rattle.vx_shelf.proofs.mem_shelf.names_of.Goals as goal

pub returns-clause-all : goal.returns-clause-all
returns-clause-all c = names_listed c.args.places.now c.in_ok-names.names.items c.in_ok-sorted.sorted.items c.in_ok-names.ensures c.in_ok-sorted.ensures.same

use Rattle.vx_shelf.proofs.Listings.{listed_alike}
use Rattle.vx_shelf.proofs.names.in_order.Goals as goal

pub returns-clause-same : goal.returns-clause-same
returns-clause-same c = listed_alike c.args.names.items c.in_ok-set.set c.in_ok-items_of.field-0.items c.in_ok-set.ensures c.in_ok-items_of.ensures

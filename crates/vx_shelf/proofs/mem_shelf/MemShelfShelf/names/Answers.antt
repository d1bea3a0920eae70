use Rattle.vx_shelf.proofs.Listings.{lists}
use Rattle.vx_shelf.proofs.mem_shelf.MemShelfShelf.names.Goals as goal

pub returns-in-Ok-clause-all : goal.returns-in-Ok-clause-all
returns-in-Ok-clause-all c = let all = rw c.as_slice.ensures.value at c.in-Ok.ensures.all in lists c.args.self.now.places.items c.in-Ok.names.items all

use Rattle.vx_power.proofs.ShelfFacts.{all_returned}
use Rattle.vx_power.proofs.powered.PoweredPowerShelf.restore.Goals as goal

pub returns-clause-back : goal.returns-clause-back
returns-clause-back g c = let self = c.args.self.now in all_returned self.berths.items c.clear.new.berths.items (g.S.Shelf.free self.shelf) (g.S.Shelf.held self.shelf) c.clear.ensures.gone self.unheld

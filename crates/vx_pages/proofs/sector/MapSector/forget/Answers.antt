use Rattle.vx_pages.proofs.Steps.{forgets, forget_formed}
use Rattle.vx_pages.proofs.Hands.{closed}
use Rattle.vx_pages.proofs.sector.MapSector.forget.Goals as goal

pub invariant_of-self : goal.invariant_of-self
invariant_of-self g c = record { formed = forget_formed _ _ _ _ c.put_none.ensures.length c.put_none.ensures.none c.requires c.args.self.now.formed }

pub returns-clause-shut : goal.returns-clause-shut
returns-clause-shut g c = closed _ c.put_none.ensures.none

pub returns-clause-turns : goal.returns-clause-turns
returns-clause-turns g c = forgets _ _ _ _ c.put_none.ensures.none

use Rattle.vx_pages.proofs.Steps.{opens, open_formed}
use Rattle.vx_pages.proofs.sector.MapSector.open_mark.Goals as goal

pub invariant_of-self : goal.invariant_of-self
invariant_of-self g c = record { formed = open_formed _ _ _ _ _ c.args.region c.put_bit.ensures.length c.put_bit-2.ensures.length c.put_bit.ensures.bits c.put_bit-2.ensures.bits c.args.self.now.formed }

pub returns : goal.returns
returns g c = opens _ _ _ _ _ c.args.region c.put_bit.ensures.bits c.put_bit-2.ensures.bits

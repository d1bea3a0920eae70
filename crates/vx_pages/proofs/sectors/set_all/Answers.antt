use Rattle.vx_mapfmt.specs.Bits.{bit_in}
use Rattle.vx_pages.proofs.Sets.{set_after}
use Rattle.vx_pages.proofs.sectors.set_all.Goals as goal

pub returns-clause-each : goal.returns-clause-each
returns-clause-each g c = set_after c.args.map (bit_in c.args.image.now) c.set_one.result _ _ _ c.in_default.ensures.each c.set_one.ensures.each

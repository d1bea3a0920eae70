use Rattle.vx_maps.proofs.Shows.{marks_bits}
use Rattle.vx_maps.proofs.store.MapStore.marks_are_bits.Goals as goal

pub returns : goal.returns
returns g c = marks_bits c.args.self.now

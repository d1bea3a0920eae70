use Rattle.std.proofs.Common.{rules, refl}
use Rattle.vx_power.proofs.Steps.{keeps_count}
use Rattle.vx_power.proofs.board.Wire.drawn.Goals as goal

pub load-requires : goal.load-requires
load-requires c = let me = c.args.self.now.seat.me in (search rules, search rules, keeps_count _ _ me me.0 refl)

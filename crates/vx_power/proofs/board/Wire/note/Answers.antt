use Rattle.std.proofs.Common.{rules, refl}
use Rattle.vx_power.specs.Drawn.{noted}
use Rattle.vx_power.proofs.Steps.{keeps_count}
use Rattle.vx_power.proofs.board.Wire.note.Goals as goal

pub load-requires : goal.load-requires
load-requires g c = let me = c.args.self.now.seat.me in (search rules, search rules, keeps_count _ _ me (noted g.C.Handed.writes g.C.Handed.reads me.0) refl)

use Rattle.std.proofs.Common.{rules, refl}
use Rattle.vx_power.proofs.Steps.{keeps_switch}
use Rattle.vx_power.proofs.board.Wire.set.Goals as goal

pub store-requires : goal.store-requires
store-requires c = let me = c.args.self.now.seat.me in (search rules, search rules, keeps_switch _ _ me me.0 refl (λ n. c.match-limit.word))

use Rattle.std.proofs.Common.{rules}
use Rattle.vx_power.proofs.Steps.{draws}
use Rattle.vx_power.proofs.board.Wire.draw.Goals as goal

pub fetch_add-requires : goal.fetch_add-requires
fetch_add-requires c = (search rules, search rules, draws _ _ c.args.self.now.seat.me)

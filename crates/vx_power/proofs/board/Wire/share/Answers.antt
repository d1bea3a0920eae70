use Rattle.std.proofs.Common.{rules}
use Rattle.vx_power.proofs.Steps.{comes}
use Rattle.vx_power.proofs.board.Wire.share.Goals as goal

pub split_seat-seat-requires : goal.split_seat-seat-requires
split_seat-seat-requires c = (search rules, search rules, comes _ c.args.self.now.seat.me.0)

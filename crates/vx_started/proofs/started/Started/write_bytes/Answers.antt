use Rattle.std.proofs.Common.{◌<◌, rules}
use Rattle.vx_started.proofs.Service.{write_served}
use Rattle.vx_started.proofs.started.Started.write_bytes.Goals as goal

pub returns-clause-served : goal.returns-clause-served
returns-clause-served g c = λ call v is_write shape.
    let valid = c.args.self.now.geometry.valid in
    let sized : 0 < c.args.self.now.geometry.region = search rules in
    let some : 0 < c.args.count = search rules in
    write_served v c.args.self.now.device c.args.self.now.geometry.length c.args.self.now.geometry.region shape.lies shape.length_is shape.region_is sized c.end_of.result (g.P.Piece.seen c.args.self.now.piece) (g.P.Piece.seen c.write_range-outcome.new.piece) c.args.self.now.numbers.items c.write_range-outcome.new.numbers.items c.write_range-outcome.new.parts.items c.part_count-total.result c.args.start c.args.count some c.part_count-total.ensures.end
    call c.args.bytes.now is_write c.new.result.items c.write_range-outcome.result c.write_range-outcome.ensures.done (search rules) c.new.ensures.items c.end_of.ensures.done c.write_range-outcome.ensures.failed (search rules) c.end_of.ensures.failed

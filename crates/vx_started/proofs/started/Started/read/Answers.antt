use Rattle.std.proofs.Common.{◌≡◌, ◌*◌, ◌<◌, length, rules}
use Rattle.vx_started.proofs.Service.{read_served}
use Rattle.vx_started.proofs.started.Started.read.Goals as goal

pub returns-clause-served : goal.returns-clause-served
returns-clause-served g c = λ vol v shape.
    let valid = c.args.self.now.geometry.valid in
    let sized : 0 < c.args.self.now.geometry.region = search rules in
    let some : 0 < c.args.count = search rules in
    let long : length c.read_range-outcome.new.blocks.items ≡ 512 * c.args.count = search rules in
    read_served v c.args.self.now.device c.args.self.now.geometry.length c.args.self.now.geometry.region shape.lies shape.length_is shape.region_is sized c.end_of.result (g.P.Piece.seen c.args.self.now.piece) (g.P.Piece.seen c.read_range-outcome.new.piece) c.args.self.now.numbers.items c.read_range-outcome.new.numbers.items c.read_range-outcome.new.parts.items c.part_count-total.result c.args.start c.args.count some c.part_count-total.ensures.end
    vol c.read_range-outcome.new.blocks.items c.read_range-outcome.result c.read_range-outcome.ensures.done c.read_range-outcome.ensures.holds (search rules) long c.end_of.ensures.done c.read_range-outcome.ensures.failed (search rules) c.end_of.ensures.failed

use Rattle.std.proofs.Common.{ap, ◌∙◌, Err}
use Rattle.vx_import.proofs.Sectors.{bad_reading}
use Rattle.vx_import.proofs.reading.toggle_in.Goals as goal

pub returns-in-Err-BadHeader : goal.returns-in-Err-BadHeader
returns-in-Err-BadHeader c = bad_reading c.read.result c.args.sector.now c.in-Err-BadHeader.byte (c.in-Err-BadHeader.is ∙ ap Err c.in-Err-BadHeader.field-0-is) c.read.ensures.said c.read.ensures.fault c.read.ensures.none

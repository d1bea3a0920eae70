use Rattle.std.proofs.Common.{arith}
use Rattle.vx_import.specs.Looks.{IsReading}
use Rattle.vx_import.proofs.Sectors.{sector_told}
use Rattle.vx_import.proofs.reading.read_toggle.Goals as goal

pub returns-in-Ok-clause-reading : goal.returns-in-Ok-clause-reading
returns-in-Ok-clause-reading g c = sector_told (g.P.Piece.seen c.args.piece.now).told c.read.new.into 1 (omega (arith, c.read.auto.into, c.requires.size)) c.in-Ok.ensures.ok (λ s. IsReading c.toggle_in.result s) c.toggle_in.ensures

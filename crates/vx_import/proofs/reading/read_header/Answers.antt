use Rattle.std.proofs.Common.{◌≡◌, arith}
use Rattle.std.specs.Prelude.{option_map}
use Rattle.vx_header.specs.Named.{header_of, label_of}
use Rattle.vx_import.proofs.Sectors.{sector_told}
use Rattle.vx_import.proofs.reading.read_header.Goals as goal

pub returns-in-Ok-clause-header : goal.returns-in-Ok-clause-header
returns-in-Ok-clause-header g c = sector_told (g.P.Piece.seen c.args.piece.now).told c.read.new.into 0 (omega (arith, c.read.auto.into)) c.in-Ok.ensures.ok (λ s. header_of s ≡ option_map label_of c.header_in.result) c.header_in.ensures

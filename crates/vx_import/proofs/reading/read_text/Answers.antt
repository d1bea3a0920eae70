use Rattle.std.proofs.Common.{length, ◌∙◌}
use Rattle.vx_import.proofs.Sectors.{text_told, text_inside}
use Rattle.vx_import.proofs.reading.read_text.Goals as goal

pub read-requires : goal.read-requires
read-requires g c = text_inside (g.P.Piece.seen c.args.piece.now) c.args.toggle.now.half c.args.toggle.now.length (length c.args.buffer.now) c.args.toggle.now.half_below c.args.toggle.now.text_fits c.requires.sectors c.requires.size

pub returns-clause-text : goal.returns-clause-text
returns-clause-text g c = text_told c.read.result (g.P.Piece.seen c.args.piece.now).told c.args.toggle.now.half c.args.toggle.now.length c.read.new.into (c.read.auto.into ∙ c.requires.size) c.read.ensures.ok

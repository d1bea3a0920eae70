-- What is opened is a volume.
use Rattle.std.proofs.Common.{sym, ◌∙◌}
use Rattle.vx_volume.specs.Log.{log_seen}
use Rattle.vx_volume.specs.Opening.{regions_seen}
use Rattle.vx_volume.specs.Volume.{cells_seen}
use Rattle.vx_volume.proofs.Wholes.{no_claims, not_lent, opened_volume}
use Rattle.vx_volume.proofs.volume.Volume.open.Goals as goal

pub returns-in-None-clause-whole : goal.returns-in-None-clause-whole
returns-in-None-clause-whole g c =
    opened_volume c.args.shape (log_seen g.P.Piece.seen c.args.log) c.requires.masks (no_claims g.P.Piece.seen c.args.log) (regions_seen g.P.Piece.seen c.args.regions.items) (cells_seen g.P.Piece.seen c.cells_of.result.items) _ c.requires
    c.in-None.ensures.none (not_lent g.P.Piece.seen c.args.log) c.cells_of.ensures (sym c.in-Ok-vec.scratch.ok.0 ∙ c.in-Ok-vec.ensures.len)

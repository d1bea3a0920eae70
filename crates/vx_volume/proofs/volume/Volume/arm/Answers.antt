-- A volume whose pieces are armed is one as before.
use Rattle.vx_volume.specs.Volume.{cells_seen, volume_seen}
use Rattle.vx_volume.specs.Log.{log_seen}
use Rattle.vx_volume.proofs.Arms.{armed_volume, log_same_form}
use Rattle.vx_volume.proofs.volume.Volume.arm.Goals as goal

pub returns-clause-whole : goal.returns-clause-whole
returns-clause-whole g c =
    armed_volume c.args.stop (volume_seen g.P.Piece.seen c.args.self.now) (cells_seen g.P.Piece.seen c.arm_cells.new.cells.items) (log_seen g.P.Piece.seen c.arm.new.self) c.arm_cells.ensures
    (log_same_form g.P.Piece.seen c.args.stop c.args.self.now.log c.arm.new.self c.arm.ensures) c.requires

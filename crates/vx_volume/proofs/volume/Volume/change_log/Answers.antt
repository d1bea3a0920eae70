-- A volume that is given another log is one as before.
use Rattle.std.proofs.Common.{Bool, List, ap, subst, sym}
use Rattle.vx_marks.specs.Log.{LogSeen}
use Rattle.vx_cell.specs.Changes.{CellSeen, IsRenewed}
use Rattle.vx_pages.specs.Items.{EachItem}
use Rattle.vx_volume.specs.Log.{log_seen}
use Rattle.vx_volume.specs.Volume.{IsVolume, VolumeSeen, cells_seen, no_cell, volume_seen}
use Rattle.vx_volume.proofs.Loggings.{volume_renewed}
use Rattle.vx_volume.proofs.volume.Volume.change_log.Goals as goal

-- the volume with these cells and this log
abbrev with_parts : VolumeSeen → List CellSeen → LogSeen → VolumeSeen
with_parts v cells log = record v { cells = cells; log = log }

pub returns-clause-changes : goal.returns-clause-changes
returns-clause-changes g c =
    record {
      cells =
          subst (λ (there : Bool). EachItem no_cell (λ r. IsRenewed there) (cells_seen g.P.Piece.seen c.args.self.now.cells.items) (cells_seen g.P.Piece.seen c.renew_cells.new.cells.items)) c.is_there.ensures c.renew_cells.ensures;
      same = ap (with_parts (volume_seen g.P.Piece.seen c.args.self.now) (cells_seen g.P.Piece.seen c.renew_cells.new.cells.items)) (ap (log_seen g.P.Piece.seen) c.replace.ensures.after);
    }

pub returns-clause-whole : goal.returns-clause-whole
returns-clause-whole g c =
    subst (λ (log : LogSeen). IsVolume (with_parts (volume_seen g.P.Piece.seen c.args.self.now) (cells_seen g.P.Piece.seen c.renew_cells.new.cells.items) log)) (sym (ap (log_seen g.P.Piece.seen) c.replace.ensures.after))
    (volume_renewed c.requires.alone.0 (log_seen g.P.Piece.seen c.args.log) (volume_seen g.P.Piece.seen c.args.self.now) (cells_seen g.P.Piece.seen c.renew_cells.new.cells.items) c.requires.alone.1 c.requires.log
    (subst (λ (there : Bool). EachItem no_cell (λ r. IsRenewed there) (cells_seen g.P.Piece.seen c.args.self.now.cells.items) (cells_seen g.P.Piece.seen c.renew_cells.new.cells.items)) c.is_there.ensures c.renew_cells.ensures)
    c.requires.whole)

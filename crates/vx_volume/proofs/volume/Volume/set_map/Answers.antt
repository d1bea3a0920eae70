-- A volume of whose log a map was set is one as before.
use Rattle.std.proofs.Common.{Bool, arith, subst}
use Rattle.std.proofs.lemmas.List.{length-map}
use Rattle.vx_pages.specs.Items.{EachItem}
use Rattle.vx_cell.specs.Changes.{cell_seen}
use Rattle.vx_volume.specs.Changing.{IsRemarked, is_lost}
use Rattle.vx_volume.specs.Log.{log_seen}
use Rattle.vx_volume.specs.Volume.{cells_seen, no_cell, volume_seen}
use Rattle.vx_volume.proofs.Remarks.{known_still, room_at_ok, volume_remarked}
use Rattle.vx_volume.proofs.volume.Volume.set_map.Goals as goal

pub remark_cells-requires-after_bounds : goal.remark_cells-requires-after_bounds
remark_cells-requires-after_bounds g c κs within r lt =
    known_still c.args.map (volume_seen g.P.Piece.seen c.args.self.now) (log_seen g.P.Piece.seen c.set_map-outcome.new.self) c.requires.whole c.requires.free c.set_map-outcome.ensures.kept r
    (let e = length-map c.args.self.now.cells.items (cell_seen g.P.Piece.seen) in omega (arith, e, lt, c.args.self.now.cells.ok.0))

pub returns-clause-whole : goal.returns-clause-whole
returns-clause-whole g c =
    volume_remarked c.args.map (is_lost c.set_map-outcome.result) (volume_seen g.P.Piece.seen c.args.self.now) (cells_seen g.P.Piece.seen c.remark_cells.new.cells.items) (log_seen g.P.Piece.seen c.set_map-outcome.new.self)
    c.requires.free c.set_map-outcome.ensures.kept
    (subst (λ (lost : Bool). EachItem no_cell (λ r. IsRemarked c.args.map lost ((log_seen g.P.Piece.seen c.set_map-outcome.new.self).claims r c.args.map)) (cells_seen g.P.Piece.seen c.args.self.now.cells.items) (cells_seen g.P.Piece.seen c.remark_cells.new.cells.items))
    c.is_lost-lost.ensures c.remark_cells.ensures.marks) c.requires.whole

pub returns-clause-room : goal.returns-clause-room
returns-clause-room g c = room_at_ok c.set_map-outcome.result c.is_lost-lost.result c.is_lost-lost.ensures c.remark_cells.ensures.room

-- Why there is no new log, by all pieces of its copies.
use Rattle.std.proofs.Common.{true, subst, sym}
use Rattle.vx_maps.specs.Spares.{copies_seen}
use Rattle.vx_lending.specs.Left.{left_copies}
use Rattle.vx_lending.specs.Logs.{log_header}
use Rattle.vx_lending.specs.Taken.{slot_of}
use Rattle.vx_lending.proofs.LogShapes.{none_empty}
use Rattle.vx_group_start.specs.Steps.{IsNoLog}
use Rattle.vx_group_start.proofs.NoLogs.{not_fresh}
use Rattle.vx_group_start.proofs.logs.new_log.Goals as goal

pub returns-in-Err-clause-refused : goal.returns-in-Err-clause-refused
returns-in-Err-clause-refused g c =
    subst (IsNoLog true (log_header c.args.form.now.shape.geometry) (copies_seen g.P.Piece.seen c.args.copies.items) (left_copies g.P.Piece.seen c.in-Err.refused.left)) (sym c.left_fault.ensures)
    (not_fresh (log_header c.args.form.now.shape.geometry) c.in-Err.refused.fault (copies_seen g.P.Piece.seen c.args.copies.items) c.in-Err.refused.left (none_empty (slot_of c.args.form.now.shape.geometry) (copies_seen g.P.Piece.seen c.args.copies.items) c.requires) c.in-Err.ensures.cut_back c.in-Err.ensures.refused)

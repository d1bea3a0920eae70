-- Why the log is not loaded, by all pieces of its copies.
use Rattle.vx_maps.specs.Spares.{copies_seen}
use Rattle.vx_lending.specs.Logs.{log_header}
use Rattle.vx_lending.specs.Taken.{slot_of}
use Rattle.vx_lending.proofs.LogShapes.{none_empty}
use Rattle.vx_group_start.proofs.NoLogs.{not_loaded}
use Rattle.vx_group_start.specs.Steps.{IsNoLog}
use Rattle.vx_group_start.proofs.logs.old_log.Goals as goal
use Rattle.std.proofs.Common.{◌<◌, length, false, map, subst, sym, arith}
use Rattle.std.proofs.lemmas.List.{length-map}

pub returns-in-Err-clause-refused : goal.returns-in-Err-clause-refused
returns-in-Err-clause-refused g c =
    let size = length-map c.args.copies.items (λ x. map g.P.Piece.seen x.items) in
    let more : 0 < length c.args.copies.items = c.in-Err.ensures.some in
    let some : 0 < length (copies_seen g.P.Piece.seen c.args.copies.items) = omega (arith, size, more) in
    subst (IsNoLog false (log_header c.args.form.now.shape.geometry) (copies_seen g.P.Piece.seen c.args.copies.items) (copies_seen g.P.Piece.seen c.in-Err.refused.copies.items)) (sym c.start_fault.ensures)
    (not_loaded (log_header c.args.form.now.shape.geometry) (copies_seen g.P.Piece.seen c.args.copies.items) (copies_seen g.P.Piece.seen c.in-Err.refused.copies.items) (none_empty (slot_of c.args.form.now.shape.geometry) (copies_seen g.P.Piece.seen c.args.copies.items) c.requires) c.in-Err.ensures.cut_back
    c.in-Err.refused.fault some c.in-Err.ensures.refused)

pub returns-in-Err-clause-nearer : goal.returns-in-Err-clause-nearer
returns-in-Err-clause-nearer g c old tells = c.in-Err.ensures.narrowed tells

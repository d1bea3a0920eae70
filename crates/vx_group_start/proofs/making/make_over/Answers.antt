-- The log is made, and lies behind what was left over.
use Rattle.std.proofs.Common.{[], List}
use Rattle.vx_piece.specs.Seen.{Seen}
use Rattle.vx_maps.specs.Spares.{copies_seen}
use Rattle.vx_lending.specs.Left.{left_copies}
use Rattle.vx_lending.specs.Logs.{log_header}
use Rattle.vx_lending.specs.Pieces.{copy_pieces}
use Rattle.vx_lending.specs.Public.{still_pieces}
use Rattle.vx_lending.specs.Taken.{slot_of}
use Rattle.vx_lending.proofs.LogShapes.{none_empty}
use Rattle.vx_group_start.proofs.MadeLogs.{new_store, no_regions, not_absent, store_goes, unmade_over}
use Rattle.vx_group_start.proofs.Together.{come_back}
use Rattle.vx_group_start.proofs.making.make_over.Goals as goal

pub unreachable-requires : goal.unreachable-requires
unreachable-requires g c = not_absent c.args.form.now.shape (copies_seen g.P.Piece.seen c.args.copies.items) c.in-Ok-Absent.field-0 c.in-Ok-Absent.field-0-is c.in-Ok-Absent.ensures.log c.requires.some

pub returns-in-Ok-Maps-clause-made : goal.returns-in-Ok-Maps-clause-made
returns-in-Ok-Maps-clause-made g c =
    let copies : List (List Seen) = copies_seen g.P.Piece.seen c.args.copies.items in
    record {
      store = c.in-Ok-Maps.store;
      left = c.leave_log.ensures.left;
      fresh = new_store c.args.form.now.shape copies c.in-Ok-Maps.field-0 c.in-Ok-Maps.store c.in-Ok-Maps.field-0-is c.in-Ok-Maps.ensures.log;
      cut = store_goes c.args.form.now.shape copies c.in-Ok-Maps.field-0 c.in-Ok-Maps.store c.in-Ok-Maps.field-0-is c.in-Ok-Maps.ensures.cut;
      still = c.leave_log.ensures.still;
      pool = c.leave_log.ensures.pool;
    }

pub returns-in-Err-clause-refused : goal.returns-in-Err-clause-refused
returns-in-Err-clause-refused g c =
    let left : List (List Seen) = left_copies g.P.Piece.seen c.in-Err.refused.left in
    unmade_over (log_header c.args.form.now.shape.geometry) (copies_seen g.P.Piece.seen c.args.copies.items) left (still_pieces g.P.Piece.seen c.args.public.now) (still_pieces g.P.Piece.seen c.put_back.new.public) c.in-Err.refused.fault
    (no_regions g.P.Piece.seen c.new.result.items (copy_pieces left) (still_pieces g.P.Piece.seen c.args.public.now) (still_pieces g.P.Piece.seen c.put_back.new.public) c.new.ensures.items c.put_back.ensures.still) c.in-Err.ensures.refused

pub returns-in-Err-clause-back : goal.returns-in-Err-clause-back
returns-in-Err-clause-back g c =
    let copies : List (List Seen) = copies_seen g.P.Piece.seen c.args.copies.items in
    let left : List (List Seen) = left_copies g.P.Piece.seen c.in-Err.refused.left in
    come_back [] copies left (still_pieces g.P.Piece.seen c.args.public.now) (still_pieces g.P.Piece.seen c.put_back.new.public) (none_empty (slot_of c.args.form.now.shape.geometry) copies c.requires.copies) c.in-Err.ensures.cut_back
    (no_regions g.P.Piece.seen c.new.result.items (copy_pieces left) (still_pieces g.P.Piece.seen c.args.public.now) (still_pieces g.P.Piece.seen c.put_back.new.public) c.new.ensures.items c.put_back.ensures.still)

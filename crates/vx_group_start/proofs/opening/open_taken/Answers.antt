-- The log is made, and the volume opened over it.
use Rattle.std.proofs.Common.{Bool, List, subst}
use Rattle.std.proofs.lemmas.Result.{IfErr-weaker, IfOk-weaker, on_err_weaker}
use Rattle.vx_piece.specs.Seen.{Seen}
use Rattle.vx_maps.specs.Spares.{copies_seen}
use Rattle.vx_volume.specs.Log.{log_seen}
use Rattle.vx_volume.specs.Opening.{regions_seen}
use Rattle.vx_lending.specs.RegionPieces.{all_pieces}
use Rattle.vx_lending.specs.Left.{left_copies}
use Rattle.vx_lending.specs.Logs.{log_copies, log_header, log_pieces}
use Rattle.vx_lending.specs.Pieces.{copy_pieces}
use Rattle.vx_lending.specs.Taken.{slot_of}
use Rattle.vx_lending.proofs.LogShapes.{none_empty}
use Rattle.vx_lending.specs.Public.{still_pieces}
use Rattle.vx_group_start.specs.Fresh.{is_fresh}
use Rattle.vx_group_start.specs.Logs.{IsLogOf}
use Rattle.vx_group_start.specs.Steps.{IsNoLog}
use Rattle.vx_group_start.specs.Together.{ComeNearer}
use Rattle.vx_group_start.proofs.Fits.{log_over}
use Rattle.vx_group_start.proofs.Nearer.{log_nearer}
use Rattle.vx_group_start.proofs.Together.{come_back}
use Rattle.vx_group_start.proofs.Unstarted.{gone, no_log, not_opened}
use Rattle.vx_group_start.proofs.opening.open_taken.Goals as goal

pub open_over-requires-clause-openable : goal.open_over-requires-clause-openable
open_over-requires-clause-openable g c κs within =
    c.requires.openable (log_seen g.P.Piece.seen c.in-Ok.log) (log_over c.args.vol.now c.is_fresh.result c.args.form.shape (copies_seen g.P.Piece.seen c.args.pieces.copies.items) c.in-Ok.log c.is_fresh.ensures c.in-Ok.ensures.log c.in-Ok.ensures.cut c.in-Ok.ensures.goes c.requires.length c.requires.region c.requires.logged).fits

pub returns-in-Ok-clause-starts : goal.returns-in-Ok-clause-starts
returns-in-Ok-clause-starts g c =
    let over = log_over c.args.vol.now c.is_fresh.result c.args.form.shape (copies_seen g.P.Piece.seen c.args.pieces.copies.items) c.in-Ok.log c.is_fresh.ensures c.in-Ok.ensures.log c.in-Ok.ensures.cut c.in-Ok.ensures.goes c.requires.length c.requires.region c.requires.logged in
    IfOk-weaker c.open_over.result _ _ (λ running runs. record { log = c.in-Ok.log; over = over; runs = runs }) c.open_over.ensures.runs

pub returns-in-Ok-clause-refused : goal.returns-in-Ok-clause-refused
returns-in-Ok-clause-refused g c =
    let over = log_over c.args.vol.now c.is_fresh.result c.args.form.shape (copies_seen g.P.Piece.seen c.args.pieces.copies.items) c.in-Ok.log c.is_fresh.ensures c.in-Ok.ensures.log c.in-Ok.ensures.cut c.in-Ok.ensures.goes c.requires.length c.requires.region c.requires.logged in
    IfErr-weaker c.open_over.result _ _ (λ fault h. not_opened c.args.vol.now c.args.form (copies_seen g.P.Piece.seen c.args.pieces.copies.items) (all_pieces (regions_seen g.P.Piece.seen c.args.pieces.regions.items)) c.args.public.now c.open_over.new.public c.in-Ok.log fault over h) c.open_over.ensures.refused

pub returns-in-Ok-clause-back : goal.returns-in-Ok-clause-back
returns-in-Ok-clause-back g c =
    on_err_weaker c.open_over.result
    (λ same. gone (all_pieces (regions_seen g.P.Piece.seen c.args.pieces.regions.items)) (copy_pieces (copies_seen g.P.Piece.seen c.args.pieces.copies.items)) (log_pieces g.P.Piece.seen c.in-Ok.log) (still_pieces g.P.Piece.seen c.args.public.now) (still_pieces g.P.Piece.seen c.open_over.new.public)
    c.in-Ok.ensures.goes same)
    c.open_over.ensures.back

pub returns-in-Err-clause-refused : goal.returns-in-Err-clause-refused
returns-in-Err-clause-refused g c =
    no_log c.args.vol.now c.args.form (copies_seen g.P.Piece.seen c.args.pieces.copies.items) (all_pieces (regions_seen g.P.Piece.seen c.args.pieces.regions.items)) c.args.public.now c.put_back.new.public (left_copies g.P.Piece.seen c.in-Err.refused.left) c.in-Err.refused.fault
    c.put_back.ensures.still
    (subst (λ (fresh : Bool). IsNoLog fresh (log_header c.args.form.shape.geometry) (copies_seen g.P.Piece.seen c.args.pieces.copies.items) (left_copies g.P.Piece.seen c.in-Err.refused.left) c.in-Err.refused.fault) c.is_fresh.ensures c.in-Err.ensures.refused)

pub returns-in-Err-clause-back : goal.returns-in-Err-clause-back
returns-in-Err-clause-back g c =
    gone (all_pieces (regions_seen g.P.Piece.seen c.args.pieces.regions.items)) (copy_pieces (copies_seen g.P.Piece.seen c.args.pieces.copies.items)) (copy_pieces (left_copies g.P.Piece.seen c.in-Err.refused.left)) (still_pieces g.P.Piece.seen c.args.public.now) (still_pieces g.P.Piece.seen c.put_back.new.public)
    c.in-Err.ensures.back c.put_back.ensures.still

pub returns-in-Ok-clause-comes_back : goal.returns-in-Ok-clause-comes_back
unfolding come_back
returns-in-Ok-clause-comes_back g c =
    let copies : List (List Seen) = copies_seen g.P.Piece.seen c.args.pieces.copies.items in
    on_err_weaker c.open_over.result
    (λ same. record {
      go = come_back (regions_seen g.P.Piece.seen c.args.pieces.regions.items) copies (log_copies g.P.Piece.seen c.in-Ok.log) (still_pieces g.P.Piece.seen c.args.public.now) (still_pieces g.P.Piece.seen c.open_over.new.public)
          (none_empty (slot_of c.args.form.shape.geometry) copies c.requires.copies) c.in-Ok.ensures.cut same;
      nearer = log_nearer (is_fresh c.args.vol.now.state) c.args.form.shape copies c.in-Ok.log
          (subst (λ (fresh : Bool). IsLogOf g.P.Piece.seen fresh c.args.form.shape copies c.in-Ok.log) c.is_fresh.ensures c.in-Ok.ensures.log);
    })
    c.open_over.ensures.back

pub returns-in-Err-clause-comes_back : goal.returns-in-Err-clause-comes_back
unfolding come_back
returns-in-Err-clause-comes_back g c =
    let copies : List (List Seen) = copies_seen g.P.Piece.seen c.args.pieces.copies.items in
    record {
      go = come_back (regions_seen g.P.Piece.seen c.args.pieces.regions.items) copies (left_copies g.P.Piece.seen c.in-Err.refused.left) (still_pieces g.P.Piece.seen c.args.public.now) (still_pieces g.P.Piece.seen c.put_back.new.public)
          (none_empty (slot_of c.args.form.shape.geometry) copies c.requires.copies) c.in-Err.ensures.cut_back c.put_back.ensures.still;
      nearer = subst (λ (fresh : Bool). ComeNearer fresh c.args.form.shape.geometry copies (left_copies g.P.Piece.seen c.in-Err.refused.left)) c.is_fresh.ensures c.in-Err.ensures.nearer;
    }

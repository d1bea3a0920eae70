-- The copies are taken, and a new log is made on them.
use Rattle.std.proofs.Common.{List, inl, length, map, subst, sym, arith, ap}
use Rattle.std.specs.List.{All}
use Rattle.std.proofs.lemmas.Result.{IfErr-weaker, on_err_weaker, on_ok_weaker}
use Rattle.vx_piece.specs.Seen.{Seen}
use Rattle.vx_layout.specs.declared.layout.Layout.{Layout}
use Rattle.vx_carve.specs.Carved.{StaysBeside}
use Rattle.vx_carve.specs.Strips.{ArePlexes, EachStrip, IsFreeStrip}
use Rattle.vx_maps.specs.Spares.{copies_seen}
use Rattle.vx_lending.specs.Pieces.{copy_pieces}
use Rattle.vx_lending.specs.Public.{still_pieces}
use Rattle.vx_lending.specs.Taken.{AreTakenCopies, log_sectors}
use Rattle.vx_group_start.proofs.MadeLogs.{all_back, log_back, log_made, log_unmade, no_regions}
use Rattle.vx_group_start.proofs.making.make_log.Goals as goal

pub take_copies-requires-clause-plexes : goal.take_copies-requires-clause-plexes
take_copies-requires-clause-plexes g c κs within = subst (ArePlexes c.args.numbers.now) (sym c.deref.ensures.value) c.requires.plexes

pub take_copies-requires-clause-free : goal.take_copies-requires-clause-free
take_copies-requires-clause-free g c κs within =
    subst (All (λ (l : Layout). EachStrip (IsFreeStrip c.args.numbers.now (map g.P.Piece.seen c.args.public.now.pool.items.items)) l.columns)) (sym c.deref.ensures.value) c.requires.free

pub make_over-requires-clause-some : goal.make_over-requires-clause-some
make_over-requires-clause-some g c κs within =
    let long = c.in-Ok.ensures.copies.long in
    let same = ap (λ (ls : List Layout). length ls) c.deref.ensures.value in
    let some = c.requires.some in
    omega (arith, long, same, some)

pub returns-in-Ok-clause-made : goal.returns-in-Ok-clause-made
returns-in-Ok-clause-made g c =
    let copies : List (List Seen) = copies_seen g.P.Piece.seen c.in-Ok.copies.items in
    let sectors = log_sectors c.args.form.now.shape.geometry in
    on_ok_weaker c.make_over.result
    (λ made. log_made c.args.public.now (record c.args.public.now { pool = c.take_copies.new.pool; left = c.reserve.new.self }) c.reserve.ensures.items copies c.in-Ok.ensures.taken c.args.numbers.now c.args.form.now
    (subst (λ ls. AreTakenCopies c.args.numbers.now ls sectors copies) c.deref.ensures.value c.in-Ok.ensures.copies) c.make_over.new.public c.requires.roomy c.requires.apart c.requires.plexes c.in-Ok.ensures.log
    (subst (λ ls. StaysBeside c.args.numbers.now ls 0 sectors (map g.P.Piece.seen c.args.public.now.pool.items.items) (map g.P.Piece.seen c.take_copies.new.pool.items.items)) c.deref.ensures.value c.in-Ok.ensures.beside) c.requires.one made)
    c.make_over.ensures.made

pub returns-in-Ok-clause-refused : goal.returns-in-Ok-clause-refused
returns-in-Ok-clause-refused g c =
    let copies : List (List Seen) = copies_seen g.P.Piece.seen c.in-Ok.copies.items in
    IfErr-weaker c.make_over.result _ _
    (λ fault h. log_unmade c.args.public.now (record c.args.public.now { pool = c.take_copies.new.pool; left = c.reserve.new.self }) c.reserve.ensures.items copies c.in-Ok.ensures.taken c.args.numbers.now c.args.form.now
    (subst (λ ls. AreTakenCopies c.args.numbers.now ls (log_sectors c.args.form.now.shape.geometry) copies) c.deref.ensures.value c.in-Ok.ensures.copies) c.make_over.new.public fault h)
    c.make_over.ensures.refused

pub returns-in-Ok-clause-back : goal.returns-in-Ok-clause-back
returns-in-Ok-clause-back g c =
    let copies : List (List Seen) = copies_seen g.P.Piece.seen c.in-Ok.copies.items in
    on_err_weaker c.make_over.result
    (λ go. log_back c.args.public.now (record c.args.public.now { pool = c.take_copies.new.pool; left = c.reserve.new.self }) c.reserve.ensures.items copies c.in-Ok.ensures.taken c.args.numbers.now c.args.form.now
    (subst (λ ls. AreTakenCopies c.args.numbers.now ls (log_sectors c.args.form.now.shape.geometry) copies) c.deref.ensures.value c.in-Ok.ensures.copies) c.make_over.new.public go)
    c.make_over.ensures.back

pub returns-in-Err-clause-back : goal.returns-in-Err-clause-back
returns-in-Err-clause-back g c =
    let copies : List (List Seen) = copies_seen g.P.Piece.seen c.in-Err.copies.items in
    let mid = record c.args.public.now { pool = c.take_copies.new.pool; left = c.reserve.new.self } in
    inl
    (all_back c.args.public.now mid c.reserve.ensures.items copies c.in-Err.ensures.kept c.put_back.new.public
    (no_regions g.P.Piece.seen c.new.result.items (copy_pieces copies) (still_pieces g.P.Piece.seen mid) (still_pieces g.P.Piece.seen c.put_back.new.public) c.new.ensures.items c.put_back.ensures.still))

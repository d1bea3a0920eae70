-- The plexes of the regions are taken, and then those of the log.
use Rattle.std.proofs.Common.{map, subst, sym}
use Rattle.std.specs.List.{All}
use Rattle.vx_layout.specs.declared.layout.Layout.{Layout}
use Rattle.vx_carve.specs.Carved.{StaysBeside}
use Rattle.vx_carve.specs.Strips.{ArePlexes, EachStrip, IsFreeStrip}
use Rattle.vx_carve.proofs.Same.{same_trans}
use Rattle.vx_cut.proofs.Parts.{all_parts}
use Rattle.vx_maps.specs.Spares.{copies_seen}
use Rattle.vx_volume.specs.Opening.{regions_seen}
use Rattle.vx_lending.specs.RegionPieces.{all_pieces}
use Rattle.vx_lending.specs.Pieces.{copy_pieces}
use Rattle.vx_lending.specs.Taken.{log_sectors}
use Rattle.vx_lending.proofs.LogPlexes.{first_plexes, others_stay, second_free, second_plexes}
use Rattle.vx_lending.proofs.Sums.{both_taken}
use Rattle.vx_lending.proofs.taking.take_pieces.Goals as goal

pub take_regions-requires-clause-plexes : goal.take_regions-requires-clause-plexes
take_regions-requires-clause-plexes g c κs within = subst (ArePlexes c.args.numbers.now) (sym c.deref-2.ensures.value) (first_plexes c.args.numbers.now c.args.form.now.layouts.items c.args.form.now.logs.items c.requires.plexes)

pub take_regions-requires-clause-free : goal.take_regions-requires-clause-free
take_regions-requires-clause-free g c κs within =
    subst (All (λ (l : Layout). EachStrip (IsFreeStrip c.args.numbers.now (map g.P.Piece.seen c.args.pool.now.items.items)) l.columns)) (sym c.deref-2.ensures.value)
    (all_parts (λ (l : Layout). EachStrip (IsFreeStrip c.args.numbers.now (map g.P.Piece.seen c.args.pool.now.items.items)) l.columns) c.args.form.now.layouts.items c.args.form.now.logs.items c.requires.free).0

pub take_copies-requires-clause-plexes : goal.take_copies-requires-clause-plexes
take_copies-requires-clause-plexes g c κs within = subst (ArePlexes c.args.numbers.now) (sym c.deref-in-Ok.ensures.value) (second_plexes c.args.numbers.now c.args.form.now.layouts.items c.args.form.now.logs.items c.requires.plexes)

pub take_copies-requires-clause-free : goal.take_copies-requires-clause-free
take_copies-requires-clause-free g c κs within =
    subst (All (λ (l : Layout). EachStrip (IsFreeStrip c.args.numbers.now (map g.P.Piece.seen c.take_regions.new.pool.items.items)) l.columns)) (sym c.deref-in-Ok.ensures.value)
    (second_free c.args.numbers.now c.args.form.now.layouts.items c.args.form.now.logs.items c.requires.plexes c.requires.apart c.args.form.now.shape.geometry.length (map g.P.Piece.seen c.args.pool.now.items.items) (map g.P.Piece.seen c.take_regions.new.pool.items.items)
    c.requires.inside (subst (λ ls. StaysBeside c.args.numbers.now ls 0 c.args.form.now.shape.geometry.length (map g.P.Piece.seen c.args.pool.now.items.items) (map g.P.Piece.seen c.take_regions.new.pool.items.items)) c.deref-2.ensures.value c.in-Ok.ensures.beside) c.requires.free)

pub returns-in-Ok-take_copies-clause-taken : goal.returns-in-Ok-take_copies-clause-taken
returns-in-Ok-take_copies-clause-taken g c =
    both_taken (all_pieces (regions_seen g.P.Piece.seen c.in-Ok.regions.items)) (copy_pieces (copies_seen g.P.Piece.seen c.in-Ok-take_copies.copies.items)) (map g.P.Piece.seen c.args.pool.now.items.items) (map g.P.Piece.seen c.take_regions.new.pool.items.items) (map g.P.Piece.seen c.take_copies.new.pool.items.items)
    c.in-Ok.ensures.taken c.in-Ok-take_copies.ensures.taken

pub returns-in-Ok-take_copies-clause-others : goal.returns-in-Ok-take_copies-clause-others
returns-in-Ok-take_copies-clause-others g c =
    others_stay c.args.numbers.now c.args.form.now.layouts.items c.args.form.now.logs.items c.requires.plexes c.requires.apart c.args.form.now.shape.geometry.length (log_sectors c.args.form.now.shape.geometry)
    (map g.P.Piece.seen c.args.pool.now.items.items) (map g.P.Piece.seen c.take_regions.new.pool.items.items) (map g.P.Piece.seen c.take_copies.new.pool.items.items) c.requires.inside c.requires.roomy
    (subst (λ ls. StaysBeside c.args.numbers.now ls 0 c.args.form.now.shape.geometry.length (map g.P.Piece.seen c.args.pool.now.items.items) (map g.P.Piece.seen c.take_regions.new.pool.items.items)) c.deref-2.ensures.value c.in-Ok.ensures.beside)
    (subst (λ ls. StaysBeside c.args.numbers.now ls 0 (log_sectors c.args.form.now.shape.geometry) (map g.P.Piece.seen c.take_regions.new.pool.items.items) (map g.P.Piece.seen c.take_copies.new.pool.items.items)) c.deref-in-Ok.ensures.value c.in-Ok-take_copies.ensures.beside)

pub returns-in-Err-take_copies-clause-kept : goal.returns-in-Err-take_copies-clause-kept
returns-in-Err-take_copies-clause-kept g c =
    same_trans _ _ _
    (both_taken (all_pieces (regions_seen g.P.Piece.seen c.in-Ok.regions.items)) (copy_pieces (copies_seen g.P.Piece.seen c.in-Err-take_copies.copies.items)) (map g.P.Piece.seen c.args.pool.now.items.items) (map g.P.Piece.seen c.take_regions.new.pool.items.items) (map g.P.Piece.seen c.take_copies.new.pool.items.items)
    c.in-Ok.ensures.taken c.in-Err-take_copies.ensures.kept)
    c.refused.ensures

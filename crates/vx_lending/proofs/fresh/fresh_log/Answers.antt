-- The copies go on together, as they are cut and called.
use Rattle.std.proofs.Common.{arith, ◌∙◌}
use Rattle.vx_maps.specs.Spares.{copies_seen}
use Rattle.vx_maps.specs.Wholes.{store_copies}
use Rattle.vx_maps.proofs.CopyRuns.{none_cut}
use Rattle.vx_lending.specs.Left.{left_copies}
use Rattle.vx_lending.specs.Taken.{slot_of}
use Rattle.vx_lending.proofs.NewLogs.{all_bits}
use Rattle.vx_lending.proofs.Goings.{cut_go}
use Rattle.vx_lending.proofs.LogShapes.{none_empty}
use Rattle.vx_lending.proofs.fresh.fresh_log.Goals as goal

pub fresh_store-requires-clause-all : goal.fresh_store-requires-clause-all
fresh_store-requires-clause-all g c κs within region lt =
    let n = c.div_ceil.ensures in
    all_bits c.div_ceil.result region c.deref.result.now (c.deref.ensures.value ∙ c.in-Ok.ensures.items_if_clones_equal (λ y h. h)) (omega (arith, n, lt))

pub returns-in-Ok-fresh_store-clause-goes : goal.returns-in-Ok-fresh_store-clause-goes
returns-in-Ok-fresh_store-clause-goes g c =
    cut_go (copies_seen g.P.Piece.seen c.args.copies.items) (store_copies g.P.Piece.seen c.in-Ok-fresh_store.store) (none_empty (slot_of c.args.form.now.shape.geometry) (copies_seen g.P.Piece.seen c.args.copies.items) c.requires) c.in-Ok-fresh_store.ensures.goes

pub returns-clause-back : goal.returns-clause-back
returns-clause-back g c =
    cut_go (copies_seen g.P.Piece.seen c.args.copies.items) (left_copies g.P.Piece.seen c.in-Err.refused.left) (none_empty (slot_of c.args.form.now.shape.geometry) (copies_seen g.P.Piece.seen c.args.copies.items) c.requires) c.in-Err.ensures.back

pub returns-in_default-clause-cut_back : goal.returns-in_default-clause-cut_back
returns-in_default-clause-cut_back g c = none_cut (copies_seen g.P.Piece.seen c.args.copies.items)

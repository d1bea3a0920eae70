-- The copies go on together, as they are cut and called.
use Rattle.vx_maps.specs.Spares.{copies_seen}
use Rattle.vx_maps.specs.Wholes.{store_copies}
use Rattle.vx_lending.specs.Taken.{slot_of}
use Rattle.vx_lending.proofs.Goings.{cut_go}
use Rattle.vx_lending.proofs.LogShapes.{none_empty}
use Rattle.vx_lending.proofs.logs.load_log.Goals as goal

pub returns-in-Ok-clause-goes : goal.returns-in-Ok-clause-goes
returns-in-Ok-clause-goes g c =
    cut_go (copies_seen g.P.Piece.seen c.args.copies.items) (store_copies g.P.Piece.seen c.in-Ok.store) (none_empty (slot_of c.args.form.now.shape.geometry) (copies_seen g.P.Piece.seen c.args.copies.items) c.requires) c.in-Ok.ensures.goes

pub returns-in-Err-clause-back : goal.returns-in-Err-clause-back
returns-in-Err-clause-back g c =
    cut_go (copies_seen g.P.Piece.seen c.args.copies.items) (copies_seen g.P.Piece.seen c.in-Err.refused.copies.items) (none_empty (slot_of c.args.form.now.shape.geometry) (copies_seen g.P.Piece.seen c.args.copies.items) c.requires) c.in-Err.ensures.back

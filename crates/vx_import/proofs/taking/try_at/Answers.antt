use Rattle.std.proofs.Common.{take}
use Rattle.std.specs.Prelude.{IsTrue}
use Rattle.vx_header.specs.Said.{said_of}
use Rattle.vx_import.specs.Looks.{looked, IsPrivate, Reads}
use Rattle.vx_import.specs.Choice.{TriedIs, HoldsText}
use Rattle.vx_import.specs.Tries.{IsSpent}
use Rattle.vx_import.specs.declared.choosing.Tried.TheVariants.{Done, Dropped, Cut}
use Rattle.vx_import.proofs.Looks.{reads_refl, spent_refl, dropped_spent, all_at, top_names, top_readable, one_on, same_toggle, top_set, at_set, any_set, fewer}
use Rattle.vx_import.proofs.taking.try_at.Goals as goal

pub take_one-requires-clause-private : goal.take_one-requires-clause-private
take_one-requires-clause-private g c κs within = all_at g.P.Piece.seen IsPrivate c.args.found.now c.args.best.index c.index-found-index.result c.requires.inside c.requires.private

pub take_one-requires-clause-names : goal.take_one-requires-clause-names
take_one-requires-clause-names g c κs within = top_names g.P.Piece.seen c.args.found.now c.args.best.index c.index-found-index.result (said_of c.args.best.toggle) c.requires.top

pub returns-in-Done-clause-reads : goal.returns-in-Done-clause-reads
returns-in-Done-clause-reads g c = one_on g.P.Piece.seen Reads reads_refl c.args.found.now c.args.best.index c.take_one.new.found c.index-found-index.result c.requires.inside c.take_one.ensures.reads

pub returns-in-Cut-clause-reads : goal.returns-in-Cut-clause-reads
returns-in-Cut-clause-reads g c = one_on g.P.Piece.seen Reads reads_refl c.args.found.now c.args.best.index c.take_one.new.found c.index-found-index.result c.requires.inside c.take_one.ensures.reads

pub returns-in-Dropped-clause-reads : goal.returns-in-Dropped-clause-reads
returns-in-Dropped-clause-reads g c = one_on g.P.Piece.seen Reads reads_refl c.args.found.now c.args.best.index c.take_one.new.found c.index-found-index.result c.requires.inside c.take_one.ensures.reads

pub returns-in-Done-clause-ends : goal.returns-in-Done-clause-ends
returns-in-Done-clause-ends g c =
    let ends : TriedIs Done (said_of c.args.best.toggle) c.take_one.new.buffer (looked g.P.Piece.seen c.take_one.new.found) = rw c.in-Done.is at c.take_one.ensures.ends in (
      top_set g.P.Piece.seen c.args.found.now c.args.best.index c.take_one.new.found c.index-found-index.result (said_of c.args.best.toggle) c.requires.inside c.requires.top (same_toggle _ _ c.take_one.ensures.reads ends.0),
      at_set g.P.Piece.seen (HoldsText (said_of c.args.best.toggle) (take c.args.best.toggle.length c.take_one.new.buffer)) c.args.found.now c.args.best.index c.take_one.new.found c.requires.inside ends.1,
    )

pub returns-in-Cut-clause-ends : goal.returns-in-Cut-clause-ends
returns-in-Cut-clause-ends g c =
    let ends : TriedIs Cut (said_of c.args.best.toggle) c.take_one.new.buffer (looked g.P.Piece.seen c.take_one.new.found) = rw c.in-Cut.is at c.take_one.ensures.ends in
    any_set g.P.Piece.seen (λ f. IsTrue f.seen.cut) c.args.found.now c.args.best.index c.take_one.new.found c.requires.inside ends

pub returns-in-Dropped-clause-ends : goal.returns-in-Dropped-clause-ends
returns-in-Dropped-clause-ends g c =
    let ends : TriedIs Dropped (said_of c.args.best.toggle) c.take_one.new.buffer (looked g.P.Piece.seen c.take_one.new.found) = rw c.in-Dropped.is at c.take_one.ensures.ends in
    let was = top_readable g.P.Piece.seen c.args.found.now c.args.best.index c.index-found-index.result (said_of c.args.best.toggle) c.requires.top in (
      fewer g.P.Piece.seen c.args.found.now c.args.best.index c.take_one.new.found c.index-found-index.result c.requires.inside was ends,
      one_on g.P.Piece.seen IsSpent spent_refl c.args.found.now c.args.best.index c.take_one.new.found c.index-found-index.result c.requires.inside (dropped_spent _ _ c.take_one.ensures.reads ends),
    )

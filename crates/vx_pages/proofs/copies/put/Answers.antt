use Rattle.std.proofs.Common.{subst, sym, Ok, Some, Result, Option}
use Rattle.std.specs.Option.{option_map}
use Rattle.vx_marks.specs.declared.marker.MarkFault.{MarkFault}
use Rattle.vx_pages.specs.Sector.{AreSectors, IsPut}
use Rattle.vx_pages.specs.Pieces.{IsPutOn, copies_of}
use Rattle.vx_pages.proofs.Puts.{put_stops, put_only, put_both}
use Rattle.vx_pages.proofs.copies.put.Goals as goal

pub put_one-requires-clause-sector : goal.put_one-requires-clause-sector
put_one-requires-clause-sector g c = c.requires.sectors 0

pub put_one-requires-in-Some-clause-sector : goal.put_one-requires-in-Some-clause-sector
put_one-requires-in-Some-clause-sector g c =
    let h : AreSectors (copies_of g.P.LocalPiece.seen c.args.first.now (Some c.in-Some.piece)) =
    subst (λ (o : Option g.row.P.Denot). AreSectors (copies_of g.P.LocalPiece.seen c.args.first.now o)) c.in-Some.is c.requires.sectors in h 1

pub returns-in-Err : goal.returns-in-Err
returns-in-Err g c = put_stops c.args.sector.now _ _ (option_map g.P.LocalPiece.seen c.args.second.now) c.in-Err.fault c.in-Err.ensures

pub returns-in-Some : goal.returns-in-Some
returns-in-Some g c =
    subst (λ (o : Option g.row.P.Denot). IsPut c.args.sector.now (copies_of g.P.LocalPiece.seen c.args.first.now o) (copies_of g.P.LocalPiece.seen c.put_one.new.piece (Some c.put_one-in-Some.new.piece)) c.put_one-in-Some.result)
    (sym c.in-Some.is)
    (put_both c.args.sector.now _ _ _ _ c.put_one-in-Some.result
    (subst (λ (r : Result (Unit {0}) MarkFault). IsPutOn {T = Unit {0}} 0 c.args.sector.now (g.P.LocalPiece.seen c.args.first.now) (g.P.LocalPiece.seen c.put_one.new.piece) r) c.in_default.is c.put_one.ensures)
    c.put_one-in-Some.ensures)

pub returns-in-None : goal.returns-in-None
returns-in-None g c =
    subst (λ (o : Option g.row.P.Denot). IsPut {T = Unit {0}} c.args.sector.now (copies_of g.P.LocalPiece.seen c.args.first.now o) (copies_of g.P.LocalPiece.seen c.put_one.new.piece o) (Ok tt))
    (sym c.in-None.is)
    (put_only c.args.sector.now _ _
    (subst (λ (r : Result (Unit {0}) MarkFault). IsPutOn {T = Unit {0}} 0 c.args.sector.now (g.P.LocalPiece.seen c.args.first.now) (g.P.LocalPiece.seen c.put_one.new.piece) r) c.in_default.is c.put_one.ensures))

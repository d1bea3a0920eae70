use Rattle.std.proofs.Common.{subst, sym, ℕ, Ok, Some, Result, Option}
use Rattle.std.specs.Option.{option_map}
use Rattle.vx_marks.specs.declared.marker.MarkFault.{MarkFault}
use Rattle.vx_pages.specs.Sector.{AreSectors}
use Rattle.vx_pages.specs.Pieces.{copies_of}
use Rattle.vx_pages.specs.Reading.{IsKnownOn, IsMended, IsMendedOn}
use Rattle.vx_pages.proofs.Repairs.{mend_stops, mend_only, mend_both}
use Rattle.vx_pages.proofs.copies.mend.Goals as goal

pub mend_one-requires-clause-sector : goal.mend_one-requires-clause-sector
mend_one-requires-clause-sector g c = c.requires.sectors 0

pub mend_one-requires-in-Some-clause-sector : goal.mend_one-requires-in-Some-clause-sector
mend_one-requires-in-Some-clause-sector g c =
    let h : AreSectors (copies_of g.P.LocalPiece.seen c.args.first.now (Some c.in-Some.piece)) =
    subst (λ (o : Option g.row.P.Denot). AreSectors (copies_of g.P.LocalPiece.seen c.args.first.now o)) c.in-Some.is c.requires.sectors in h 1

pub mend_one-requires-clause-known : goal.mend_one-requires-clause-known
mend_one-requires-clause-known g c is =
    let h : IsKnownOn (Some 0) c.args.sector.now (copies_of g.P.LocalPiece.seen c.args.first.now c.args.second.now) =
    subst (λ (known : Option ℕ). IsKnownOn known c.args.sector.now (copies_of g.P.LocalPiece.seen c.args.first.now c.args.second.now)) (c.is_copy.ensures is) c.requires.known in h

pub mend_one-requires-in-Some-clause-known : goal.mend_one-requires-in-Some-clause-known
mend_one-requires-in-Some-clause-known g c is =
    let h : IsKnownOn (Some 1) c.args.sector.now (copies_of g.P.LocalPiece.seen c.args.first.now (Some c.in-Some.piece)) =
    subst (λ (known : Option ℕ). IsKnownOn known c.args.sector.now (copies_of g.P.LocalPiece.seen c.args.first.now (Some c.in-Some.piece))) (c.is_copy-in-Some.ensures is)
    (subst (λ (o : Option g.row.P.Denot). IsKnownOn c.args.known c.args.sector.now (copies_of g.P.LocalPiece.seen c.args.first.now o)) c.in-Some.is c.requires.known) in h

pub returns-in-Err : goal.returns-in-Err
returns-in-Err g c = mend_stops c.args.sector.now _ _ (option_map g.P.LocalPiece.seen c.args.second.now) c.in-Err.fault c.in-Err.ensures

pub returns-in-Some : goal.returns-in-Some
returns-in-Some g c =
    subst (λ (o : Option g.row.P.Denot). IsMended c.args.sector.now (copies_of g.P.LocalPiece.seen c.args.first.now o) (copies_of g.P.LocalPiece.seen c.mend_one.new.piece (Some c.mend_one-in-Some.new.piece)) c.mend_one-in-Some.result)
    (sym c.in-Some.is)
    (mend_both c.args.sector.now _ _ _ _ c.mend_one-in-Some.result
    (subst (λ (r : Result (Unit {0}) MarkFault). IsMendedOn {T = Unit {0}} 0 c.args.sector.now (g.P.LocalPiece.seen c.args.first.now) (g.P.LocalPiece.seen c.mend_one.new.piece) r) c.in_default.is c.mend_one.ensures)
    c.mend_one-in-Some.ensures)

pub returns-in-None : goal.returns-in-None
returns-in-None g c =
    subst (λ (o : Option g.row.P.Denot). IsMended {T = Unit {0}} c.args.sector.now (copies_of g.P.LocalPiece.seen c.args.first.now o) (copies_of g.P.LocalPiece.seen c.mend_one.new.piece o) (Ok tt))
    (sym c.in-None.is)
    (mend_only c.args.sector.now _ _
    (subst (λ (r : Result (Unit {0}) MarkFault). IsMendedOn {T = Unit {0}} 0 c.args.sector.now (g.P.LocalPiece.seen c.args.first.now) (g.P.LocalPiece.seen c.mend_one.new.piece) r) c.in_default.is c.mend_one.ensures))

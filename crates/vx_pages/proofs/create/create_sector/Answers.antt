use Rattle.std.proofs.Common.{sym, subst, List, ℕ, Ok, Result}
use Rattle.vx_marks.specs.declared.marker.MarkFault.{MarkFault}
use Rattle.vx_pages.specs.Pieces.{copies_of}
use Rattle.vx_pages.specs.Sector.{IsPut, IsMade, SectorSeen}
use Rattle.vx_pages.proofs.Steps.{made_formed, made}
use Rattle.vx_pages.proofs.create.create_sector.Goals as goal

pub of-requires : goal.of-requires
of-requires g c =
    let wrote : IsPut {T = Unit {0}} c.deref.result.now (copies_of g.P.LocalPiece.seen c.args.first c.args.second) (copies_of g.P.LocalPiece.seen c.put.new.first c.put.new.second) (Ok tt) =
    subst (λ (r : Result (Unit {0}) MarkFault). IsPut c.deref.result.now (copies_of g.P.LocalPiece.seen c.args.first c.args.second) (copies_of g.P.LocalPiece.seen c.put.new.first c.put.new.second) r) c.in_default.is c.put.ensures in
    made_formed _ _ _ _ c.requires.sectors c.requires.whole c.requires.room c.requires.empty
    (subst (λ (bytes : List ℕ). IsPut {T = Unit {0}} bytes (copies_of g.P.LocalPiece.seen c.args.first c.args.second) (copies_of g.P.LocalPiece.seen c.put.new.first c.put.new.second) (Ok tt)) c.deref.ensures.value wrote)

pub returns-clause-made : goal.returns-clause-made
returns-clause-made g c =
    let wrote : IsPut {T = Unit {0}} c.deref.result.now (copies_of g.P.LocalPiece.seen c.args.first c.args.second) (copies_of g.P.LocalPiece.seen c.put.new.first c.put.new.second) (Ok tt) =
    subst (λ (r : Result (Unit {0}) MarkFault). IsPut c.deref.result.now (copies_of g.P.LocalPiece.seen c.args.first c.args.second) (copies_of g.P.LocalPiece.seen c.put.new.first c.put.new.second) r) c.in_default.is c.put.ensures in
    subst (λ (s : SectorSeen). IsMade c.args.sure.items (copies_of g.P.LocalPiece.seen c.args.first c.args.second) s) (sym c.of.ensures)
    (made _ _ _ _ c.requires.empty
    (subst (λ (bytes : List ℕ). IsPut {T = Unit {0}} bytes (copies_of g.P.LocalPiece.seen c.args.first c.args.second) (copies_of g.P.LocalPiece.seen c.put.new.first c.put.new.second) (Ok tt)) c.deref.ensures.value wrote))

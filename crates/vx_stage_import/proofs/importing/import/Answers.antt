use Rattle.std.proofs.Common.{refl, sym, subst, IfSome}
use Rattle.vx_shelf.specs.Listed.{Lists}
use Rattle.vx_house.specs.Scene.{shelved}
use Rattle.vx_stage_import.proofs.Ends.{stands, fails}
use Rattle.vx_stage_import.proofs.SearchLaws.{unread_asked, names_asked, still_asked}
use Rattle.vx_stage_import.proofs.importing.import.Goals as goal

pub returns-in-Some : goal.returns-in-Some
returns-in-Some g c = rw c.refused.ensures (record { goes = stands g.S.P.Piece.seen c.args.dg.now c.args.disks.now c.args.house.now (shelved g.S.Shelf.free g.S.Shelf.held g.S.Shelf.counted g.S.Shelf.faults c.args.shelf.now) c.in-Some.imported c.in-Some.is c.requires.keeps })

pub returns-in-Ok : goal.returns-in-Ok
returns-in-Ok g c = record {
  goes = c.import_from.ensures.goes c.args.disks.now (shelved g.S.Shelf.free g.S.Shelf.held g.S.Shelf.counted g.S.Shelf.faults c.args.shelf.now)
      (names_asked g.S.P.Piece.seen c.deref.result.now (shelved g.S.Shelf.free g.S.Shelf.held g.S.Shelf.counted g.S.Shelf.faults c.args.shelf.now) (shelved g.S.Shelf.free g.S.Shelf.held g.S.Shelf.counted g.S.Shelf.faults c.names.new.self) c.args.house.now c.requires.keeps (c.requires.ready.empty refl) c.in-None.is
      (subst (λ ns. IfSome (g.S.Shelf.free c.args.shelf.now) (λ d. Lists ns d (g.S.Shelf.held c.args.shelf.now))) (sym c.deref.ensures.value) c.in-Ok.ensures.all)
      c.names.ensures.same c.names.ensures.stays c.names.ensures.counts c.names.ensures.later);
}

pub returns-in-Err-Failed : goal.returns-in-Err-Failed
returns-in-Err-Failed g c = record {
  goes = fails g.S.P.Piece.seen c.args.dg.now c.args.disks.now c.args.house.now (shelved g.S.Shelf.free g.S.Shelf.held g.S.Shelf.counted g.S.Shelf.faults c.args.shelf.now) (shelved g.S.Shelf.free g.S.Shelf.held g.S.Shelf.counted g.S.Shelf.faults c.names.new.self)
      (still_asked g.S.P.Piece.seen (shelved g.S.Shelf.free g.S.Shelf.held g.S.Shelf.counted g.S.Shelf.faults c.args.shelf.now) (shelved g.S.Shelf.free g.S.Shelf.held g.S.Shelf.counted g.S.Shelf.faults c.names.new.self) c.args.house.now c.requires.keeps c.names.ensures.same c.names.ensures.stays c.names.ensures.counts c.names.ensures.later) c.requires.keeps
      (unread_asked g.S.P.Piece.seen (shelved g.S.Shelf.free g.S.Shelf.held g.S.Shelf.counted g.S.Shelf.faults c.args.shelf.now) (shelved g.S.Shelf.free g.S.Shelf.held g.S.Shelf.counted g.S.Shelf.faults c.names.new.self) c.args.house.now c.names.ensures.stays)
      (rw c.in-Err-Failed.field-0-is at c.in-Err-Failed.ensures.cause);
}

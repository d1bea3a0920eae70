use Rattle.std.proofs.Common.{subst, Result}
use Rattle.vx_marks.specs.declared.marker.MarkFault.{MarkFault}
use Rattle.vx_pages.specs.Pieces.{copies_of}
use Rattle.vx_pages.specs.Reading.{IsMended}
use Rattle.vx_pages.proofs.OpenBits.{open_formed}
use Rattle.vx_pages.proofs.Settlement.{settled_formed, settles, settles_part}
use Rattle.vx_pages.proofs.sector.MapSector.settle.Goals as goal

pub invariant_of-self : goal.invariant_of-self
invariant_of-self g c = record { formed = open_formed _ _ _ (c.in-Err.ensures.kept.sectors c.args.self.now.formed.sectors) c.requires.open.0 c.requires.open.1 }

pub invariant_of-self-2 : goal.invariant_of-self-2
invariant_of-self-2 g c = record {
  formed = settled_formed (copies_of g.P.LocalPiece.seen c.args.self.now.first c.args.self.now.second) _ c.args.image.now _ _ c.args.self.now.formed.sectors c.requires.whole c.copy_page.ensures c.put_none.ensures.none
      (subst (λ (r : Result (Unit {0}) MarkFault). IsMended c.args.image.now (copies_of g.P.LocalPiece.seen c.args.self.now.first c.args.self.now.second) (copies_of g.P.LocalPiece.seen c.mend.new.first c.mend.new.second) r) c.in_default.is c.mend.ensures);
}

pub returns-in-Err-clause-settles : goal.returns-in-Err-clause-settles
returns-in-Err-clause-settles g c =
    settles_part (copies_of g.P.LocalPiece.seen c.args.self.now.first c.args.self.now.second) _ c.args.image.now c.args.self.now.sure.items c.args.self.now.loose.items c.in-Err.fault c.in-Err.ensures

pub returns-clause-settles : goal.returns-clause-settles
returns-clause-settles g c =
    settles (copies_of g.P.LocalPiece.seen c.args.self.now.first c.args.self.now.second) _ c.args.image.now c.args.self.now.sure.items c.args.self.now.loose.items _ _ c.copy_page.ensures c.put_none.ensures.none
    (subst (λ (r : Result (Unit {0}) MarkFault). IsMended c.args.image.now (copies_of g.P.LocalPiece.seen c.args.self.now.first c.args.self.now.second) (copies_of g.P.LocalPiece.seen c.mend.new.first c.mend.new.second) r) c.in_default.is c.mend.ensures)

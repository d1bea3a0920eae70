use Rattle.std.proofs.Common.{subst, List, ℕ, Err, Ok, Result}
use Rattle.vx_marks.specs.declared.marker.MarkFault.{MarkFault}
use Rattle.vx_pages.specs.Sector.{IsPut}
use Rattle.vx_pages.specs.Pieces.{copies_of}
use Rattle.vx_pages.proofs.Steps.{bit_failed, failed_formed, put_formed}
use Rattle.vx_pages.proofs.sector.MapSector.put_mark.Goals as goal

pub invariant_of-self : goal.invariant_of-self
invariant_of-self g c =
    record {
      formed =
          failed_formed _ _ c.args.self.now.sure.items c.args.self.now.loose.items _ _ _ c.args.region c.args.on c.in-Err.fault c.args.self.now.formed c.requires c.put_bit.ensures.bits c.put_bit-in-Err.ensures.bits c.put_bit-in-Err-2.ensures.bits
          (subst (λ (bytes : List ℕ). IsPut {T = Unit {0}} bytes (copies_of g.P.LocalPiece.seen c.args.self.now.first c.args.self.now.second) (copies_of g.P.LocalPiece.seen c.put.new.first c.put.new.second) (Err c.in-Err.fault)) c.deref.ensures.value c.in-Err.ensures)
          c.put_bit-in-Err.ensures.length c.put_bit-in-Err-2.ensures.length;
    }

pub returns-in-Err-clause-goes : goal.returns-in-Err-clause-goes
returns-in-Err-clause-goes g c =
    bit_failed _ _ c.args.self.now.sure.items c.args.self.now.loose.items _ _ _ c.args.region c.args.on c.in-Err.fault c.args.self.now.formed c.requires c.put_bit.ensures.bits c.put_bit-in-Err.ensures.bits c.put_bit-in-Err-2.ensures.bits
    (subst (λ (bytes : List ℕ). IsPut {T = Unit {0}} bytes (copies_of g.P.LocalPiece.seen c.args.self.now.first c.args.self.now.second) (copies_of g.P.LocalPiece.seen c.put.new.first c.put.new.second) (Err c.in-Err.fault)) c.deref.ensures.value c.in-Err.ensures)

pub invariant_of-self-in_default : goal.invariant_of-self-in_default
invariant_of-self-in_default g c =
    record {
      formed =
          put_formed (copies_of g.P.LocalPiece.seen c.args.self.now.first c.args.self.now.second) _ c.args.self.now.sure.items c.args.self.now.loose.items _ c.args.self.now.formed c.requires c.put_bit.ensures.length
          (subst (λ (bytes : List ℕ). IsPut {T = Unit {0}} bytes (copies_of g.P.LocalPiece.seen c.args.self.now.first c.args.self.now.second) (copies_of g.P.LocalPiece.seen c.put.new.first c.put.new.second) (Ok tt)) c.deref.ensures.value
          (subst (λ (r : Result (Unit {0}) MarkFault). IsPut c.deref.result.now (copies_of g.P.LocalPiece.seen c.args.self.now.first c.args.self.now.second) (copies_of g.P.LocalPiece.seen c.put.new.first c.put.new.second) r) c.in_default.is c.put.ensures));
    }

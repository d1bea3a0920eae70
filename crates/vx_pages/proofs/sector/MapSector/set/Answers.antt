use Rattle.std.proofs.Common.{◌∙◌, ap, subst, sym, length, List, ℕ, Ok, Result}
use Rattle.vx_marks.specs.declared.marker.MarkFault.{MarkFault}
use Rattle.vx_pages.specs.Pieces.{copies_of}
use Rattle.vx_pages.specs.Sector.{IsPut}
use Rattle.vx_pages.proofs.Sets.{failed_set_formed, set_failed}
use Rattle.vx_pages.proofs.Steps.{put_formed}
use Rattle.vx_pages.proofs.sector.MapSector.set.Goals as goal

pub invariant_of-self : goal.invariant_of-self
invariant_of-self g c =
    record {
      formed =
          failed_set_formed _ c.args.self.now.sure.items c.args.self.now.loose.items _ c.args.self.now.formed c.requires.clean _ _ _ c.in-Err.fault c.in-Err.ensures c.open_differing.ensures.sure c.open_differing.ensures.loose
          c.open_differing.ensures.sure_length c.open_differing.ensures.loose_length;
    }

pub returns-in-Err-clause-goes : goal.returns-in-Err-clause-goes
returns-in-Err-clause-goes g c =
    set_failed _ c.args.self.now.sure.items c.args.self.now.loose.items _ c.args.self.now.formed c.requires.clean _ _ _ c.in-Err.fault c.in-Err.ensures c.open_differing.ensures.sure c.open_differing.ensures.loose

pub invariant_of-self-2 : goal.invariant_of-self-2
invariant_of-self-2 g c =
    record {
      formed =
          put_formed (copies_of g.P.LocalPiece.seen c.args.self.now.first c.args.self.now.second) _ c.args.self.now.sure.items c.args.self.now.loose.items _ c.args.self.now.formed c.requires.clean
          (ap (λ (x : List ℕ). length x) c.copy_page.ensures ∙ c.requires.whole)
          (subst (λ (bytes : List ℕ). IsPut {T = Unit {0}} bytes (copies_of g.P.LocalPiece.seen c.args.self.now.first c.args.self.now.second) (copies_of g.P.LocalPiece.seen c.put.new.first c.put.new.second) (Ok tt)) (sym c.copy_page.ensures)
          (subst (λ (r : Result (Unit {0}) MarkFault). IsPut c.args.image.now (copies_of g.P.LocalPiece.seen c.args.self.now.first c.args.self.now.second) (copies_of g.P.LocalPiece.seen c.put.new.first c.put.new.second) r) c.in_default.is c.put.ensures));
    }

use Rattle.std.proofs.Common.{◌≡◌, ◌∙◌, refl, sym, ap, subst, length, List, ℕ, true}
use Rattle.std.specs.Prelude.{not}
use Rattle.std.specs.Str.{bytes_eq}
use Rattle.vx_sector.specs.Fields.{zeros}
use Rattle.vx_pages.specs.Sector.{IsPut}
use Rattle.vx_pages.specs.Pieces.{copies_of}
use Rattle.vx_pages.proofs.Steps.{tidy_none, tidied, tidy_formed}
use Rattle.vx_pages.proofs.Hands.{closed, none_handed, once_handed, opened}
use Rattle.vx_pages.proofs.sector.MapSector.tidy.Goals as goal

pub returns-then-is_zero-clause-goes : goal.returns-then-is_zero-clause-goes
returns-then-is_zero-clause-goes g c =
    tidy_none _ _ _
    (sym c.deref.ensures.value ∙ c.is_zero.ensures.0 c.if-is_zero.true
    ∙ ap zeros (ap length c.deref.ensures.value ∙ c.args.self.now.formed.loose))

pub invariant_of-self-2 : goal.invariant_of-self-2
invariant_of-self-2 g c =
    record {
      formed =
          tidy_formed _ _ _ _ c.put.result c.args.self.now.formed
          (subst (λ (bytes : List ℕ). IsPut bytes (copies_of g.P.LocalPiece.seen c.args.self.now.first c.args.self.now.second) (copies_of g.P.LocalPiece.seen c.put.new.first c.put.new.second) c.put.result) c.deref-2.ensures.value c.put.ensures);
    }

pub returns-clause-goes : goal.returns-clause-goes
returns-clause-goes g c =
    tidied _ _ _ _ c.put.result c.args.self.now.formed
    (subst (λ (bytes : List ℕ). IsPut bytes (copies_of g.P.LocalPiece.seen c.args.self.now.first c.args.self.now.second) (copies_of g.P.LocalPiece.seen c.put.new.first c.put.new.second) c.put.result) c.deref-2.ensures.value c.put.ensures)

pub returns-then-is_zero-clause-counts : goal.returns-then-is_zero-clause-counts
returns-then-is_zero-clause-counts g c =
    none_handed _ _ _
    (closed _
    (sym c.deref.ensures.value ∙ c.is_zero.ensures.0 c.if-is_zero.true
    ∙ ap zeros (ap length c.deref.ensures.value ∙ c.args.self.now.formed.loose))) refl

pub returns-clause-counts : goal.returns-clause-counts
returns-clause-counts g c =
    once_handed _ _ _ c.put.result (subst (λ (bytes : List ℕ). not (bytes_eq bytes (zeros 512)) ≡ true) c.deref.ensures.value
    (opened c.deref.result.now c.is_zero.result (ap length c.deref.ensures.value ∙ c.args.self.now.formed.loose) c.is_zero.ensures c.if-is_zero.false)) c.put.ensures.counts

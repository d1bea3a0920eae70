use Rattle.std.proofs.Common.{◌≡◌, ◌∙◌, true, sym, subst}
use Rattle.vx_stage_changes.specs.Creating.{are_fit}
use Rattle.vx_stage_changes.proofs.NewConfig.{all_fresh, none_offers, is_unfounded}
use Rattle.vx_stage_changes.proofs.founding.found.Goals as goal

pub create-requires-clause-fresh : goal.create-requires-clause-fresh
create-requires-clause-fresh g c κs within =
    let fit : are_fit c.args.dg.now c.args.disks.items ≡ true = subst (λ l. are_fit c.args.dg.now l ≡ true) c.deref.ensures.value (sym c.are_fit.ensures ∙ c.if-not-are_fit.false) in
    all_fresh g.P.Piece.seen c.args.dg.now c.args.disks.items c.requires.unwritten fit

pub create-requires-clause-none : goal.create-requires-clause-none
create-requires-clause-none g c κs within = none_offers g.P.Piece.seen c.args.dg.now c.args.disks.items c.requires.unwritten

pub returns-in-Err : goal.returns-in-Err
returns-in-Err g c = record {
  ends =
      is_unfounded g.P.Piece.seen c.args.dg.now c.args.disks.items c.in-Err.field-0.disks.items c.in-Ok.field-0.config c.in-Ok.field-0.text.items c.in-Err.field-0.fault c.stop_of-stop.result (rw c.deref-2.ensures.value at c.in-Ok.ensures) c.stop_of-stop.ensures
      (rw c.deref-3.ensures.value at c.in-Err.ensures.gives) (rw c.deref-3.ensures.value at c.in-Err.ensures.writes);
}

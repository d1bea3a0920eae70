use Rattle.std.proofs.Common.{◌≡◌, ◌∙◌, ap, subst, sym, arith}
use Rattle.std.specs.Prelude.{IfErr}
use Rattle.vx_house.specs.Plain.{plain}
use Rattle.vx_recovery.specs.Going.{at_rest}
use Rattle.vx_stage_recovery.specs.Planning.{IsUnfit}
use Rattle.vx_stage_recovery.proofs.Fitting.{fits, unfit}
use Rattle.vx_stage_recovery.proofs.going.fitting.Goals as goal

pub returns-in-Ok-longest-clause-long : goal.returns-in-Ok-longest-clause-long
returns-in-Ok-longest-clause-long g c =
    let h = c.args.house.now in
    let rests : c.as_slice-2.result.now ≡ at_rest (plain g.P.Piece.seen h) c.in-Ok.names.items = c.as_slice-2.ensures.value ∙ c.in-Ok-at_rest.ensures ∙ ap (at_rest (plain g.P.Piece.seen h)) c.as_slice.ensures.value in
    subst (λ r. IfErr r (IsUnfit c.args.vol (plain g.P.Piece.seen h))) (sym c.refused.ensures) (unfit g.P.Piece.seen h c.in-Some.group c.in-Some.is c.args.vol c.in-Ok.names.items c.as_slice-2.result.now c.in-Ok.ensures rests c.in-Ok-longest.bytes c.in-Ok-longest.ensures (omega arith))

pub returns-in-Ok-2-clause-fits : goal.returns-in-Ok-2-clause-fits
returns-in-Ok-2-clause-fits g c =
    let h = c.args.house.now in
    let rests : c.as_slice-2.result.now ≡ at_rest (plain g.P.Piece.seen h) c.in-Ok.names.items = c.as_slice-2.ensures.value ∙ c.in-Ok-at_rest.ensures ∙ ap (at_rest (plain g.P.Piece.seen h)) c.as_slice.ensures.value in
    fits g.P.Piece.seen h c.in-Some.group c.in-Some.is c.args.vol c.in-Ok.names.items c.as_slice-2.result.now c.in-Ok.ensures rests c.in-Ok-longest.bytes c.in-Ok-longest.ensures (omega arith)

use Rattle.std.proofs.Common.{◌∙◌, ◌++◌, ap}
use Rattle.std.proofs.lemmas.Result.{err_from_is_err_and}
use Rattle.vx_stage_recovery.proofs.Goes.{refused_goes, seen_told}
use Rattle.vx_stage_recovery.proofs.going.recover.Goals as goal

pub returns-in_err-names : goal.returns-in_err-names
returns-in_err-names g c =
    let p = err_from_is_err_and c.from_residual.result c.from_residual.ensures.1 in
    record {
      goes = λ shelf held.
          rw (p.1, p.2, c.requires.none)
          (refused_goes g.P.Piece.seen c.args.dg c.args.vol shelf c.args.house.now c.requires.keeps held c.in_err-names.field-0.0 c.in_err-names.ensures.refused);
    }

pub returns : goal.returns
returns g c = record {
  goes = λ shelf held.
      seen_told g.P.Piece.seen c.args.dg c.args.vol shelf c.args.house.now c.requires.keeps held c.in_ok-names.names.items c.in_ok-names.ensures.planned c.as_slice.result.now c.as_slice.ensures.value
      c.see_all.ensures.goes.0 c.see_all.new.views.items (c.see_all.ensures.goes.1 ∙ ap (λ views. views ++ c.see_all.ensures.goes.0) c.requires.none) c.see_all.new.house c.see_all.result (c.see_all.ensures.goes.2 shelf held);
}

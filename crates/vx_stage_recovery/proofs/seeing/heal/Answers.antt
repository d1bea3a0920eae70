use Rattle.std.proofs.Common.{◌∙◌, ◌++◌, [], ◌∷◌, sym, ap}
use Rattle.std.proofs.lemmas.List.{append-nil}
use Rattle.std.proofs.lemmas.Result.{err_from_is_err_and}
use Rattle.vx_answers.specs.declared.answer.View.TheVariants as view
use Rattle.vx_house.specs.View.{at}
use Rattle.vx_stage_recovery.proofs.Seen.{healed_told, not_begun, unhealed}
use Rattle.vx_stage_recovery.proofs.seeing.heal.Goals as goal

pub returns-then-is_err : goal.returns-then-is_err
returns-then-is_err g c = record {
  goes = ([], c.reserve.ensures.items ∙ sym (append-nil c.args.views.now.items), λ shelf held. not_begun g.P.Piece.seen c.args.name.now (at shelf c.args.house.now) (record { devices = held; house = c.requires.keeps }));
}

pub returns-in_err-healed : goal.returns-in_err-healed
returns-in_err-healed g c =
    let p = err_from_is_err_and c.from_residual.result c.from_residual.ensures.1 in
    record {
      goes = (
        [],
        c.reserve.ensures.items ∙ sym (append-nil c.args.views.now.items),
        λ shelf held. rw (p.1, p.2) (unhealed g.P.Piece.seen c.args.name.now (at shelf c.args.house.now) (at shelf c.recover_volume.new.house) c.in_err-healed.field-0.0 (c.in_err-healed.ensures.goes shelf held)),
      );
    }

pub returns : goal.returns
returns g c = record {
  goes = (
    view.Recovered c.args.name.now c.in_ok-healed.healed.dirty c.in_ok-healed.healed.copied ∷ [],
    c.push_reserved.ensures.items ∙ ap (λ told. told ++ view.Recovered c.args.name.now c.in_ok-healed.healed.dirty c.in_ok-healed.healed.copied ∷ []) c.reserve.ensures.items,
    λ shelf held. healed_told g.P.Piece.seen c.args.name.now (at shelf c.args.house.now) (at shelf c.recover_volume.new.house) c.in_ok-healed.healed (c.in_ok-healed.ensures.goes shelf held),
  );
}

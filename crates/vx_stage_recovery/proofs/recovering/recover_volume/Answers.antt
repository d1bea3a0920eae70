use Rattle.std.proofs.lemmas.Result.{err_from_is_err_and}
use Rattle.vx_house.specs.View.{at}
use Rattle.vx_stage_recovery.proofs.Recovers.{all_goes, begin_ends}
use Rattle.vx_stage_recovery.proofs.recovering.recover_volume.Goals as goal

pub returns-in_err-begin : goal.returns-in_err-begin
returns-in_err-begin g c =
    let p = err_from_is_err_and c.from_residual.result c.from_residual.ensures.1 in
    record {
      goes = λ shelf held. rw (p.1, p.2) (begin_ends g.P.Piece.seen c.args.name.now (at shelf c.args.house.now) c.in_err-begin.field-0.0 (at shelf c.begin.new.house) (c.in_err-begin.ensures.goes shelf held));
    }

pub heal_volume-requires-clause-keeps : goal.heal_volume-requires-clause-keeps
heal_volume-requires-clause-keeps g c κs within = (c.in_ok-begin.ensures.goes c.requires.held.0 c.requires.held.1).keeps.house

pub returns : goal.returns
returns g c = record {
  goes = λ shelf held.
      let begun = c.in_ok-begin.ensures.goes shelf held in
      all_goes g.P.Piece.seen c.args.name.now (at shelf c.args.house.now) (at shelf c.begin.new.house) begun c.heal_volume.result (at shelf c.heal_volume.new.house) (c.heal_volume.ensures.goes shelf begun.keeps.devices);
}

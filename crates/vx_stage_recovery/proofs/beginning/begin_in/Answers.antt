use Rattle.std.proofs.Common.{rules, ◌≡◌, ◌∙◌, sym, subst, true, Some}
use Rattle.vx_stage_changes.specs.Changing.{ChangeEnds}
use Rattle.vx_stages.specs.Tests.{volume_in}
use Rattle.vx_recovery.specs.Recovering.{is_recovered}
use Rattle.vx_stage_recovery.specs.Beginning.{BeginEnds}
use Rattle.vx_stage_recovery.proofs.Begins.{begins_in}
use Rattle.vx_stage_recovery.proofs.beginning.begin_in.Goals as goal

pub returns : goal.returns
returns g c =
    let found : volume_in c.args.name.now c.args.group.now.config.volumes ≡ Some c.in-Some.vol = search rules in
    let state : is_recovered c.in-Some.vol.state ≡ true = search rules in
    record {
      ends = subst (λ r. BeginEnds g.P.Piece.seen c.args.name.now r c.args.group.now c.commit_edits.new.group) (sym c.unrefused.ensures)
          (begins_in g.P.Piece.seen c.args.name.now c.args.group.now c.in-Some.vol found state c.commit_edits.result c.commit_edits.new.group
          (subst (λ es. ChangeEnds g.P.Piece.seen es c.commit_edits.result c.args.group.now c.commit_edits.new.group) (c.deref.ensures.value ∙ c.in-Ok.ensures) c.commit_edits.ensures.ends));
    }

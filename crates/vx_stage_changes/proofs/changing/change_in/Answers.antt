use Rattle.std.proofs.Common.{◌∙◌, subst}
use Rattle.vx_stage_changes.specs.Changing.{ChangeEnds}
use Rattle.vx_stage_changes.proofs.changing.change_in.Goals as goal

pub returns : goal.returns
returns g c = record {
  ends = subst (λ es. ChangeEnds g.P.Piece.seen es c.commit_edits.result c.args.group.now c.commit_edits.new.group) (c.deref.ensures.value ∙ c.in-Ok.ensures) c.commit_edits.ensures.ends;
}

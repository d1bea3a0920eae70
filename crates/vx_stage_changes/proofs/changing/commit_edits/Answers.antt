use Rattle.vx_stage_changes.specs.Planning.{IsUnplanned, IsUnplannedBy}
use Rattle.vx_stage_changes.proofs.EditStage.{ends_weaker}
use Rattle.vx_stage_changes.proofs.Texts.{plain_unplanned}
use Rattle.vx_stage_changes.proofs.changing.commit_edits.Goals as goal

pub returns : goal.returns
returns g c = record {
  ends = ends_weaker g.P.Piece.seen (IsUnplannedBy 0 c.args.edits.now c.args.group.now.config) c.args.edits.now (IsUnplanned c.args.edits.now c.args.group.now.config) (plain_unplanned c.args.edits.now c.args.group.now.config)
      c.args.group.now c.commit_growing.new.group c.commit_growing.result c.commit_growing.ensures.ends;
}

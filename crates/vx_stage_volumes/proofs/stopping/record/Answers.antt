use Rattle.std.proofs.Common.{◌∙◌, refl, subst}
use Rattle.vx_stage_changes.specs.Changing.{ChangeEnds}
use Rattle.vx_stage_volumes.proofs.StopFine.{record_ends}
use Rattle.vx_stage_volumes.proofs.Named.{recorded_of}
use Rattle.vx_stage_volumes.proofs.stopping.record.Goals as goal

pub returns : goal.returns
returns g c = record {
  ends = record_ends c.each_change_is_fine.ensures.stop c.args.group.now.config c.args.vol.now (recorded_of c.args.group.now.config c.args.vol.now c.requires.recorded)
      c.each_stop_is_no_longer.ensures c.each_mask_is_within_all.ensures c.args.marks c.ranges.marks.fits c.requires.fits
      g.P.Piece.seen c.args.group.now c.commit_edits.new.group refl c.commit_edits.result
      (subst (λ es. ChangeEnds g.P.Piece.seen es c.commit_edits.result c.args.group.now c.commit_edits.new.group) (c.deref.ensures.value ∙ c.in-Ok.ensures) c.commit_edits.ensures.ends);
}

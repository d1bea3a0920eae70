-- The mark of one region more is taken away.
use Rattle.std.proofs.Common.{◌∙◌}
use Rattle.vx_volume.specs.Log.{log_kept_on}
use Rattle.vx_volume.specs.Passes.{Clears}
use Rattle.vx_volume.proofs.Loops.{done_more}
use Rattle.vx_volume.proofs.volume.Volume.clear_each.Goals as goal

pub returns-in_err-clear_one-clause-follows : goal.returns-in_err-clear_one-clause-follows
returns-in_err-clear_one-clause-follows g c = log_kept_on _ _ _ c.loop-region.invariant.follows c.clear_one.ensures.follows

pub returns-in_err-clear_one-clause-shape : goal.returns-in_err-clear_one-clause-shape
returns-in_err-clear_one-clause-shape g c = c.clear_one.ensures.shape ∙ c.loop-region.invariant.shape

pub loop-region-preserved : goal.loop-region-preserved
loop-region-preserved g c =
    record {
      done = done_more Clears c.loop-region.region _ _ _ c.loop-region.invariant.done (rw c.in_ok-clear_one.was at c.clear_one.ensures.clears);
      whole = c.clear_one.ensures.whole;
      shape = c.clear_one.ensures.shape ∙ c.loop-region.invariant.shape;
      count = c.clear_one.ensures.count ∙ c.loop-region.invariant.count;
      follows = log_kept_on _ _ _ c.loop-region.invariant.follows c.clear_one.ensures.follows;
    }

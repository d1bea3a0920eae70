-- One region more is settled.
use Rattle.std.proofs.Common.{◌∙◌}
use Rattle.vx_volume.specs.Log.{log_kept_on}
use Rattle.vx_volume.specs.Passes.{Settles}
use Rattle.vx_volume.proofs.Loops.{done_more}
use Rattle.vx_volume.proofs.volume.Volume.settle_each.Goals as goal

pub returns-in_err-settle_one-clause-follows : goal.returns-in_err-settle_one-clause-follows
returns-in_err-settle_one-clause-follows g c = log_kept_on _ _ _ c.loop-region.invariant.follows c.settle_one.ensures.follows

pub returns-in_err-settle_one-clause-shape : goal.returns-in_err-settle_one-clause-shape
returns-in_err-settle_one-clause-shape g c = c.settle_one.ensures.shape ∙ c.loop-region.invariant.shape

pub loop-region-preserved : goal.loop-region-preserved
loop-region-preserved g c =
    record {
      done = done_more Settles c.loop-region.region _ _ _ c.loop-region.invariant.done (rw c.in_ok-settle_one.was at c.settle_one.ensures.settles);
      whole = c.settle_one.ensures.whole;
      shape = c.settle_one.ensures.shape ∙ c.loop-region.invariant.shape;
      count = c.settle_one.ensures.count ∙ c.loop-region.invariant.count;
      follows = log_kept_on _ _ _ c.loop-region.invariant.follows c.settle_one.ensures.follows;
    }

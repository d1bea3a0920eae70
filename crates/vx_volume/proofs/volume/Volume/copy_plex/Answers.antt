-- One region more is copied where it is to be, and counted.
use Rattle.std.proofs.Common.{◌∙◌, ◌<◌, length, Err, ℕ, arith}
use Rattle.vx_volume.specs.Log.{log_kept_on}
use Rattle.vx_volume.specs.Loop.{IsPlainEnd}
use Rattle.vx_volume.specs.Passes.{CopiesTo}
use Rattle.vx_volume.specs.Volume.{cells_seen}
use Rattle.vx_volume.proofs.Loops.{at_most_one, copied_one, copies_stopped, done_more, no_range}
use Rattle.vx_volume.proofs.Steps.{size_seen}
use Rattle.vx_volume.proofs.volume.Volume.copy_plex.Goals as goal

pub returns-in-Err-clause-ends : goal.returns-in-Err-clause-ends
returns-in-Err-clause-ends g c =
    let plain : IsPlainEnd {T = ℕ} (Err c.in-Err.fault) = rw c.in-Err.is at c.copy_one.ensures.end in
    let inside : c.loop-region.region < length (cells_seen g.P.Piece.seen c.args.self.now.cells.items) = omega (arith, size_seen g.P.Piece.seen c.args.self.now.cells.items, c.loop-region-test.true) in
    rw c.io_fault.ensures
    (c.loop-region.copied, copies_stopped c.args.map _ c.loop-region.region c.loop-region.copied _ _ _ c.in-Err.fault c.copy_one.result inside c.loop-region.invariant.done c.in-Err.is plain c.copy_one.ensures.copies, no_range {T = ℕ} (Err c.in-Err.fault))

pub returns-in-Err-clause-follows : goal.returns-in-Err-clause-follows
returns-in-Err-clause-follows g c = log_kept_on _ _ _ c.loop-region.invariant.follows c.copy_one.ensures.follows

pub returns-in-Err-clause-shape : goal.returns-in-Err-clause-shape
returns-in-Err-clause-shape g c = c.copy_one.ensures.shape ∙ c.loop-region.invariant.shape

pub loop-region-preserved : goal.loop-region-preserved
loop-region-preserved g c =
    record {
      done = done_more (CopiesTo c.args.map) c.loop-region.region _ _ _ c.loop-region.invariant.done (copied_one c.args.map c.loop-region.region c.loop-region.copied _ _ c.copy_one.result c.in-Ok.done c.from-copied.result c.in-Ok.is c.from-copied.ensures c.copy_one.ensures.copies);
      few = omega (arith, c.from-copied.ensures, at_most_one c.in-Ok.done, c.loop-region.invariant.few);
      whole = c.copy_one.ensures.whole;
      shape = c.copy_one.ensures.shape ∙ c.loop-region.invariant.shape;
      count = c.copy_one.ensures.count ∙ c.loop-region.invariant.count;
      follows = log_kept_on _ _ _ c.loop-region.invariant.follows c.copy_one.ensures.follows;
    }

-- A region is the first whose plexes that are on are all marked.
use Rattle.std.proofs.Common.{ℕ, ◌<◌, sym, subst, ◌∙◌, below_more}
use Rattle.vx_volume.specs.Log.{log_seen}
use Rattle.vx_volume.specs.Opening.{HasCurrent}
use Rattle.vx_volume.proofs.Masks.{current_there, current_none}
use Rattle.vx_volume.proofs.opening.first_unread.Goals as goal

pub returns-then-less-eq0-clause-some : goal.returns-then-less-eq0-clause-some
returns-then-less-eq0-clause-some g c =
    record {
      inside = subst (λ (n : ℕ). c.loop-region.region < n) c.regions-region-end.ensures c.loop-region-test.true;
      none = current_none c.args.shape.now.on c.marked.result ((log_seen g.P.LocalPiece.seen c.args.log.now).claims c.loop-region.region) c.marked.ensures (sym c.less.ensures ∙ c.if-less-eq0.true);
      before = c.loop-region.invariant;
    }

pub loop-region-preserved : goal.loop-region-preserved
loop-region-preserved g c =
    below_more (HasCurrent c.args.shape.now (log_seen g.P.LocalPiece.seen c.args.log.now)) c.loop-region.region c.loop-region.invariant
    (current_there c.args.shape.now.on c.marked.result ((log_seen g.P.LocalPiece.seen c.args.log.now).claims c.loop-region.region) c.marked.ensures c.requires.on_fits (λ e. c.if-less-eq0.false (c.less.ensures ∙ e)))

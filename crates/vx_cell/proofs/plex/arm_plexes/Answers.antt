use Rattle.std.proofs.Common.{refl, arith, rules}
use Rattle.vx_cell.specs.Plexes.{plexes_seen}
use Rattle.vx_cell.proofs.Arms.{arm_next, arm_all}
use Rattle.vx_cell.proofs.plex.arm_plexes.Goals as goal

pub loop-index-preserved : goal.loop-index-preserved
loop-index-preserved g c =
    record {
      size = search rules;
      done =
          arm_next g.P.Piece.seen c.args.stop c.loop-index.index (plexes_seen g.P.Piece.seen c.args.plexes.now.items) c.loop-index.plexes.items _ c.index_mut-plex.result.now
          (omega (arith, c.len-index-end.ensures, c.args.plexes.now.ok.0, c.loop-index.invariant.size, c.loop-index-test.true)) c.loop-index.invariant.done c.index_mut-plex.ensures.value refl c.arm_run.ensures;
    }

pub returns : goal.returns
returns g c =
    arm_all g.P.Piece.seen c.args.stop c.loop-index.index c.args.plexes.now.items (plexes_seen g.P.Piece.seen c.loop-index.plexes.items)
    (omega (arith, c.len-index-end.ensures, c.args.plexes.now.ok.0, c.loop-index-test.false)) c.loop-index.invariant.done

use Rattle.std.proofs.Common.{refl, arith, map, rules}
use Rattle.vx_runs.specs.Run.{IsArmed}
use Rattle.vx_runs.proofs.Progress.{sectors_before, step_next, step_end, each_part}
use Rattle.vx_runs.proofs.run.arm_run.Goals as goal

pub loop-index-preserved : goal.loop-index-preserved
loop-index-preserved g c =
    record {
      size = search rules;
      done =
          step_next g.P.Piece.seen _ c.args.pieces.now.items c.loop-index.pieces.items c.loop-index.index c.len-index-end.result (sectors_before c.loop-index.index (map g.P.Piece.seen c.args.pieces.now.items)) c.index_mut-piece.result.now
          (omega (arith, c.len-index-end.ensures, c.args.pieces.now.ok.0)) c.loop-index.invariant.size c.loop-index-test.true refl c.loop-index.invariant.done c.index_mut-piece.ensures.value
          c.arm.new.self c.arm.ensures;
    }

pub returns : goal.returns
returns g c =
    each_part (λ start p q. IsArmed c.args.stop p q) (IsArmed c.args.stop) (λ start p q h. h) 0 (map g.P.Piece.seen c.args.pieces.now.items) (map g.P.Piece.seen c.loop-index.pieces.items)
    (step_end g.P.Piece.seen _ c.args.pieces.now.items c.loop-index.pieces.items c.loop-index.index c.len-index-end.result (omega (arith, c.len-index-end.ensures, c.args.pieces.now.ok.0)) c.loop-index-test.false c.loop-index.invariant.done)

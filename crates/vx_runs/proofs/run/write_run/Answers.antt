use Rattle.std.proofs.Common.{sym, subst, arith, length, map, set, Err, Result, rules}
use Rattle.vx_piece.specs.declared.piece.PieceFault.{PieceFault}
use Rattle.vx_runs.specs.Part.{IsPartWritten}
use Rattle.vx_runs.specs.Run.{IsRunWritten}
use Rattle.vx_runs.specs.declared.run.RunFault.{RunFault}
use Rattle.vx_runs.proofs.Progress.{step_range, step_fits, step_start, step_next, step_stop, step_device, step_end}
use Rattle.vx_runs.proofs.WriteSteps.{wrote_all, wrote_some}
use Rattle.vx_runs.proofs.run.write_run.Goals as goal

pub write_part-requires-after_bounds : goal.write_part-requires-after_bounds
write_part-requires-after_bounds g c κs within =
    step_range g.P.Piece.seen _ c.args.pieces.now.items c.loop-index.pieces.items c.loop-index.index c.len-index-end.result c.loop-index.start c.index_mut-piece.result.now
    (omega (arith, c.len-index-end.ensures, c.args.pieces.now.ok.0)) c.loop-index.invariant.size c.loop-index-test.true c.loop-index.invariant.start c.loop-index.invariant.done c.index_mut-piece.ensures.value
    c.args.at (length c.args.from.now) c.requires

pub returns-in-Err : goal.returns-in-Err
returns-in-Err g c =
    subst (λ (f : RunFault). IsRunWritten {T = Unit {0}} c.args.at c.args.from.now (map g.P.Piece.seen c.args.pieces.now.items) (map g.P.Piece.seen (set c.loop-index.pieces.items c.loop-index.index c.write_part.new.piece)) (Err f))
    (sym c.at_piece.ensures)
    (wrote_some c.args.at c.args.from.now (map g.P.Piece.seen c.args.pieces.now.items) (map g.P.Piece.seen (set c.loop-index.pieces.items c.loop-index.index c.write_part.new.piece))
    c.in-Err.fault c.loop-index.index c.device-device.result (g.P.Piece.seen c.index.result.now) c.requires.inside
    (step_device g.P.Piece.seen _ c.args.pieces.now.items c.loop-index.pieces.items c.loop-index.index c.len-index-end.result c.loop-index.start c.index_mut-piece.result.now
    (omega (arith, c.len-index-end.ensures, c.args.pieces.now.ok.0)) c.loop-index.invariant.size c.loop-index-test.true c.loop-index.invariant.start c.loop-index.invariant.done c.index_mut-piece.ensures.value
    c.write_part.new.piece c.index.result.now c.device-device.result c.index.ensures c.device-device.ensures)
    (step_stop g.P.Piece.seen _ c.args.pieces.now.items c.loop-index.pieces.items c.loop-index.index c.len-index-end.result c.loop-index.start c.index_mut-piece.result.now
    (omega (arith, c.len-index-end.ensures, c.args.pieces.now.ok.0)) c.loop-index.invariant.size c.loop-index-test.true c.loop-index.invariant.start c.loop-index.invariant.done c.index_mut-piece.ensures.value
    (λ start p q. IsPartWritten {T = Unit {0}} start c.args.at c.args.from.now p q (Err c.in-Err.fault)) c.write_part.new.piece
    (subst (λ (r : Result (Unit {0}) PieceFault). IsPartWritten {T = Unit {0}} c.loop-index.start c.args.at c.args.from.now (g.P.Piece.seen c.index_mut-piece.result.now) (g.P.Piece.seen c.write_part.new.piece) r) c.in-Err.is c.write_part.ensures)))

pub overflow_add-start : goal.overflow_add-start
overflow_add-start g c =
    let fits = step_fits g.P.Piece.seen _ c.args.pieces.now.items c.loop-index.pieces.items c.loop-index.index c.len-index-end.result c.loop-index.start c.index_mut-piece.result.now
    (omega (arith, c.len-index-end.ensures, c.args.pieces.now.ok.0)) c.loop-index.invariant.size c.loop-index-test.true c.loop-index.invariant.start c.loop-index.invariant.done c.index_mut-piece.ensures.value
    c.args.at (length c.args.from.now) c.sectors-sectors.result c.requires c.sectors-sectors.ensures in
    omega (arith, fits)

pub loop-index-preserved : goal.loop-index-preserved
loop-index-preserved g c =
    record {
      start =
          step_start g.P.Piece.seen _ c.args.pieces.now.items c.loop-index.pieces.items c.loop-index.index c.len-index-end.result c.loop-index.start c.index_mut-piece.result.now
          (omega (arith, c.len-index-end.ensures, c.args.pieces.now.ok.0)) c.loop-index.invariant.size c.loop-index-test.true c.loop-index.invariant.start c.loop-index.invariant.done c.index_mut-piece.ensures.value
          c.sectors-sectors.result c.sectors-sectors.ensures;
      size = search rules;
      done =
          step_next g.P.Piece.seen _ c.args.pieces.now.items c.loop-index.pieces.items c.loop-index.index c.len-index-end.result c.loop-index.start c.index_mut-piece.result.now
          (omega (arith, c.len-index-end.ensures, c.args.pieces.now.ok.0)) c.loop-index.invariant.size c.loop-index-test.true c.loop-index.invariant.start c.loop-index.invariant.done c.index_mut-piece.ensures.value
          c.write_part.new.piece
          (subst (λ (r : Result (Unit {0}) PieceFault). IsPartWritten {T = Unit {0}} c.loop-index.start c.args.at c.args.from.now (g.P.Piece.seen c.index_mut-piece.result.now) (g.P.Piece.seen c.write_part.new.piece) r) c.in_default.is c.write_part.ensures);
    }

pub returns : goal.returns
returns g c =
    wrote_all c.args.at c.args.from.now _ _ c.requires.inside
    (step_end g.P.Piece.seen _ c.args.pieces.now.items c.loop-index.pieces.items c.loop-index.index c.len-index-end.result (omega (arith, c.len-index-end.ensures, c.args.pieces.now.ok.0)) c.loop-index-test.false c.loop-index.invariant.done)

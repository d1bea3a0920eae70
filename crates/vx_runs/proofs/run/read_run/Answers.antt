use Rattle.std.proofs.Common.{◌∙◌, ℕ, sym, subst, arith, length, map, set, Ok, Err, Result, rules, ◌≤◌, ◌+◌}
use Rattle.std.proofs.lemmas.List.{length-map}
use Rattle.vx_base.specs.Blocks.{blocks_in}
use Rattle.vx_piece.specs.declared.piece.PieceFault.{PieceFault}
use Rattle.vx_runs.specs.Part.{IsPartRange, IsPartRead}
use Rattle.vx_runs.specs.Run.{IsRunRead, run_sectors}
use Rattle.vx_runs.specs.declared.run.RunFault.{RunFault}
use Rattle.vx_runs.proofs.Progress.{step_range, step_fits, step_start, step_next, step_stop, step_device, step_end, step_same, all_sectors}
use Rattle.vx_runs.proofs.ReadRuns.{WasNotRead, was_read, was_not_read, gives_next, read_all, read_some}
use Rattle.vx_runs.proofs.run.read_run.Goals as goal

pub read_part-requires-after_bounds : goal.read_part-requires-after_bounds
read_part-requires-after_bounds g c κs within =
    subst (λ (n : ℕ). IsPartRange c.loop-index.start c.args.at n (g.P.Piece.seen c.index_mut-piece.result.now)) (sym c.loop-index.invariant.long)
    (step_range g.P.Piece.seen _ c.args.pieces.now.items c.loop-index.pieces.items c.loop-index.index c.len-index-end.result c.loop-index.start c.index_mut-piece.result.now
    (omega (arith, c.len-index-end.ensures, c.args.pieces.now.ok.0)) c.loop-index.invariant.size c.loop-index-test.true c.loop-index.invariant.start c.loop-index.invariant.done c.index_mut-piece.ensures.value
    c.args.at (length c.args.into.now) c.requires)

pub returns-in-Err-clause-read : goal.returns-in-Err-clause-read
returns-in-Err-clause-read g c =
    subst (λ (f : RunFault). IsRunRead {T = Unit {0}} c.args.at c.read_part.new.into (map g.P.Piece.seen c.args.pieces.now.items) (map g.P.Piece.seen (set c.loop-index.pieces.items c.loop-index.index c.read_part.new.piece)) (Err f))
    (sym c.at_piece.ensures)
    (read_some c.args.at c.read_part.new.into (map g.P.Piece.seen c.args.pieces.now.items) (map g.P.Piece.seen (set c.loop-index.pieces.items c.loop-index.index c.read_part.new.piece))
    c.in-Err.fault c.loop-index.index c.device-device.result (g.P.Piece.seen c.index.result.now)
    (step_device g.P.Piece.seen _ c.args.pieces.now.items c.loop-index.pieces.items c.loop-index.index c.len-index-end.result c.loop-index.start c.index_mut-piece.result.now
    (omega (arith, c.len-index-end.ensures, c.args.pieces.now.ok.0)) c.loop-index.invariant.size c.loop-index-test.true c.loop-index.invariant.start c.loop-index.invariant.done c.index_mut-piece.ensures.value
    c.read_part.new.piece c.index.result.now c.device-device.result c.index.ensures c.device-device.ensures)
    (step_stop g.P.Piece.seen _ c.args.pieces.now.items c.loop-index.pieces.items c.loop-index.index c.len-index-end.result c.loop-index.start c.index_mut-piece.result.now
    (omega (arith, c.len-index-end.ensures, c.args.pieces.now.ok.0)) c.loop-index.invariant.size c.loop-index-test.true c.loop-index.invariant.start c.loop-index.invariant.done c.index_mut-piece.ensures.value
    (WasNotRead (Err c.in-Err.fault)) c.read_part.new.piece
    (was_not_read c.loop-index.start c.args.at c.loop-index.into c.read_part.new.into (g.P.Piece.seen c.index_mut-piece.result.now) (g.P.Piece.seen c.read_part.new.piece) c.in-Err.fault
    (subst (λ (r : Result (Unit {0}) PieceFault). IsPartRead {T = Unit {0}} c.loop-index.start c.args.at c.loop-index.into c.read_part.new.into (g.P.Piece.seen c.index_mut-piece.result.now) (g.P.Piece.seen c.read_part.new.piece) r) c.in-Err.is c.read_part.ensures.read))))

pub overflow_add-start : goal.overflow_add-start
overflow_add-start g c =
    let fits = step_fits g.P.Piece.seen _ c.args.pieces.now.items c.loop-index.pieces.items c.loop-index.index c.len-index-end.result c.loop-index.start c.index_mut-piece.result.now
    (omega (arith, c.len-index-end.ensures, c.args.pieces.now.ok.0)) c.loop-index.invariant.size c.loop-index-test.true c.loop-index.invariant.start c.loop-index.invariant.done c.index_mut-piece.ensures.value
    c.args.at (length c.args.into.now) c.sectors-sectors.result c.requires c.sectors-sectors.ensures in
    omega (arith, fits)

pub loop-index-preserved : goal.loop-index-preserved
loop-index-preserved g c =
    let read : IsPartRead {T = Unit {0}} c.loop-index.start c.args.at c.loop-index.into c.read_part.new.into (g.P.Piece.seen c.index_mut-piece.result.now) (g.P.Piece.seen c.read_part.new.piece) (Ok tt) =
    subst (λ (r : Result (Unit {0}) PieceFault). IsPartRead {T = Unit {0}} c.loop-index.start c.args.at c.loop-index.into c.read_part.new.into (g.P.Piece.seen c.index_mut-piece.result.now) (g.P.Piece.seen c.read_part.new.piece) r) c.in_default.is c.read_part.ensures.read in
    let same = step_same g.P.Piece.seen _ c.args.pieces.now.items c.loop-index.pieces.items c.loop-index.index c.len-index-end.result c.loop-index.start c.index_mut-piece.result.now
    (omega (arith, c.len-index-end.ensures, c.args.pieces.now.ok.0)) c.loop-index.invariant.size c.loop-index-test.true c.loop-index.invariant.start c.loop-index.invariant.done c.index_mut-piece.ensures.value in
    record {
      start =
          step_start g.P.Piece.seen _ c.args.pieces.now.items c.loop-index.pieces.items c.loop-index.index c.len-index-end.result c.loop-index.start c.index_mut-piece.result.now
          (omega (arith, c.len-index-end.ensures, c.args.pieces.now.ok.0)) c.loop-index.invariant.size c.loop-index-test.true c.loop-index.invariant.start c.loop-index.invariant.done c.index_mut-piece.ensures.value
          c.sectors-sectors.result c.sectors-sectors.ensures;
      size = search rules;
      done =
          step_next g.P.Piece.seen _ c.args.pieces.now.items c.loop-index.pieces.items c.loop-index.index c.len-index-end.result c.loop-index.start c.index_mut-piece.result.now
          (omega (arith, c.len-index-end.ensures, c.args.pieces.now.ok.0)) c.loop-index.invariant.size c.loop-index-test.true c.loop-index.invariant.start c.loop-index.invariant.done c.index_mut-piece.ensures.value
          c.read_part.new.piece
          (was_read c.loop-index.start c.args.at c.loop-index.into c.read_part.new.into (g.P.Piece.seen c.index_mut-piece.result.now) (g.P.Piece.seen c.read_part.new.piece) read);
      long = c.read_part.ensures.length ∙ c.loop-index.invariant.long;
      gives =
          gives_next c.loop-index.index c.loop-index.start c.args.at c.sectors-sectors.result c.loop-index.into c.read_part.new.into (map g.P.Piece.seen c.args.pieces.now.items)
          (g.P.Piece.seen c.index_mut-piece.result.now) (g.P.Piece.seen c.index_mut-piece.result.now) c.read_part.ensures.length same.0 same.1 c.loop-index.invariant.start c.sectors-sectors.ensures
          read.gives c.loop-index.invariant.gives;
    }

pub returns-clause-read : goal.returns-clause-read
returns-clause-read g c =
    let ends : run_sectors (map g.P.Piece.seen c.args.pieces.now.items) ≤ c.loop-index.start =
    let e = all_sectors c.loop-index.index (map g.P.Piece.seen c.args.pieces.now.items) (let f = length-map c.args.pieces.now.items g.P.Piece.seen in let h = c.loop-index-test.false in omega (arith, f, h, c.len-index-end.ensures, c.args.pieces.now.ok.0)) in
    let f = c.loop-index.invariant.start in omega (arith, e, f) in
    let inside : c.args.at + blocks_in c.loop-index.into ≤ run_sectors (map g.P.Piece.seen c.args.pieces.now.items) = let e = c.requires.inside in let f = c.loop-index.invariant.long in omega (arith, e, f) in
    read_all c.args.at c.loop-index.into _ _ c.loop-index.start inside ends
    (step_end g.P.Piece.seen _ c.args.pieces.now.items c.loop-index.pieces.items c.loop-index.index c.len-index-end.result (omega (arith, c.len-index-end.ensures, c.args.pieces.now.ok.0)) c.loop-index-test.false c.loop-index.invariant.done)
    c.loop-index.invariant.gives

use Rattle.std.proofs.Common.{◌≡◌, ◌∙◌, ◌+◌, ◌++◌, ◌∷◌, [], ℕ, sym, ap, subst, take, drop}
use Rattle.std.proofs.lemmas.List.{take_more}
use Rattle.std.specs.Prelude.{Err}
use Rattle.vx_run.specs.Runs.{StagesGo}
use Rattle.vx_house.specs.Scene.{shelved}
use Rattle.vx_house.specs.View.{at}
use Rattle.vx_run.proofs.StageChains.{none_run, run_then, run_stops, stage_ready, fed_behind, split_stages}
use Rattle.vx_run.proofs.running.run_stages.Goals as goal

pub loop-stage-init : goal.loop-stage-init
loop-stage-init g c = record { run = none_run g.S.P.Piece.seen c.args.disks.now _ c.requires.keeps c.requires.empty }

pub run_stage-requires-clause-keeps : goal.run_stage-requires-clause-keeps
run_stage-requires-clause-keeps g c κs within = c.loop-stage.invariant.run.keeps

pub run_stage-requires-clause-ready : goal.run_stage-requires-clause-ready
run_stage-requires-clause-ready g c κs within =
    let i : ℕ = c.loop-stage.stage-index in
    let split = split_stages c.args.stages.now i c.stage-item.result (take_more c.args.stages.now i c.stage-item.result c.loop-stage-test.true ∙ ap (λ x. take i c.args.stages.now ++ x ∷ []) (sym c.stage-item.is)) in
    stage_ready g.S.P.Piece.seen c.args.disks.now (take i c.args.stages.now) c.stage-item.result _ _ c.loop-stage.invariant.run
    (fed_behind c.args.stages.now i c.stage-item.result split c.requires.fed)

pub returns-in-Err : goal.returns-in-Err
returns-in-Err g c =
    let i : ℕ = c.loop-stage.stage-index in
    let split = split_stages c.args.stages.now i c.stage-item.result (take_more c.args.stages.now i c.stage-item.result c.loop-stage-test.true ∙ ap (λ x. take i c.args.stages.now ++ x ∷ []) (sym c.stage-item.is)) in
    record {
      go = subst (λ ss. StagesGo g.S.P.Piece.seen c.args.disks.now ss (Err c.in-Err.stop) (at (shelved g.S.Shelf.free g.S.Shelf.held g.S.Shelf.counted g.S.Shelf.faults c.args.shelf.now) c.args.house.now) (at (shelved g.S.Shelf.free g.S.Shelf.held g.S.Shelf.counted g.S.Shelf.faults c.run_stage.new.shelf) c.run_stage.new.house)) (sym split)
          (run_stops g.S.P.Piece.seen c.args.disks.now (take i c.args.stages.now) c.stage-item.result (drop (i + 1) c.args.stages.now) c.in-Err.stop _ _ _ c.loop-stage.invariant.run c.in-Err.ensures.goes);
    }

pub loop-stage-preserved : goal.loop-stage-preserved
loop-stage-preserved g c =
    let i : ℕ = c.loop-stage.stage-index in
    let more : take (i + 1) c.args.stages.now ≡ take i c.args.stages.now ++ c.stage-item.result ∷ [] = take_more c.args.stages.now i c.stage-item.result c.loop-stage-test.true ∙ ap (λ x. take i c.args.stages.now ++ x ∷ []) (sym c.stage-item.is) in
    record {
      run = rw more (run_then g.S.P.Piece.seen c.args.disks.now (take i c.args.stages.now) c.stage-item.result _ _ _ c.loop-stage.invariant.run (fed_behind c.args.stages.now i c.stage-item.result (split_stages c.args.stages.now i c.stage-item.result more) c.requires.fed).0 c.in_default.ensures.goes);
    }

use Rattle.std.proofs.Common.{◌≡◌, ◌+◌, Bool, Err, [], ◌∷◌, ◌++◌, take, drop, length, List, ℕ, true, subst, sym, ap, ◌∙◌, rules}
use Rattle.std.proofs.lemmas.List.{take_more, take_all, take-append-drop}
use Rattle.std.proofs.lemmas.Result.{err_from_is_err_and}
use Rattle.vx_shelf.proofs.Places.{list_all-get_or}
use Rattle.vx_script.specs.Kept.{is_command}
use Rattle.vx_script.specs.declared.command.Command.{Command}
use Rattle.vx_house.specs.Scene.{shelved}
use Rattle.vx_house.specs.View.{at}
use Rattle.vx_run.specs.Run.{HasRunPartly}
use Rattle.vx_run.proofs.Runs.{none_run, run_then, run_then_partly, partly_more, short_weaker}
use Rattle.vx_run.proofs.lines.all_lines.Goals as goal

pub loop-command-init : goal.loop-command-init
loop-command-init g c = record {
  keeps = c.requires.keeps;
  empty = c.requires.empty;
  run = none_run g.S.P.Piece.seen 0 _ (g.B.Sink.taken c.args.sink.now);
  later = search rules;
  quiet = search rules;
}

pub one_line-requires-clause-kept : goal.one_line-requires-clause-kept
one_line-requires-clause-kept g c κs within = subst (λ x. is_command x ≡ true) (sym c.command-item.is) (list_all-get_or is_command c.args.commands.now c.loop-command.command-index _ c.requires.kept c.loop-command-test.true)

pub returns-in_err-this-clause-partly : goal.returns-in_err-this-clause-partly
returns-in_err-this-clause-partly g c =
    let cs : List Command = c.args.commands.now in
    let i : ℕ = c.loop-command.command-index in
    let more : take (i + 1) cs ≡ take i cs ++ c.command-item.result ∷ [] = take_more cs i c.command-item.result c.loop-command-test.true ∙ ap (λ x. take i cs ++ x ∷ []) (sym c.command-item.is) in
    let split : (take i cs ++ c.command-item.result ∷ []) ++ drop (i + 1) cs ≡ cs = ap (λ l. l ++ drop (i + 1) cs) (sym more) ∙ take-append-drop (i + 1) cs in
    let p = err_from_is_err_and c.from_residual.result c.from_residual.ensures.1 in
    rw (p.1, p.2) (short_weaker {T = Bool} (Err c.in_err-this.field-0.0)
    (λ partly. subst (λ l. HasRunPartly g.S.P.Piece.seen 0 l (at (shelved g.S.Shelf.free g.S.Shelf.held g.S.Shelf.counted g.S.Shelf.faults c.args.shelf.now) c.args.house.now) (g.B.Sink.taken c.args.sink.now) (at (shelved g.S.Shelf.free g.S.Shelf.held g.S.Shelf.counted g.S.Shelf.faults c.one_line.new.shelf) c.one_line.new.house) (g.B.Sink.taken c.one_line.new.sink)) split
    (partly_more g.S.P.Piece.seen 0 (take i cs ++ c.command-item.result ∷ []) (drop (i + 1) cs) _ _ _ _
    (run_then_partly g.S.P.Piece.seen 0 (take i cs) (c.command-item.result ∷ []) _ _ _ _ _ _ c.loop-command.fine c.loop-command.invariant.run (partly (0 + length (take i cs))))))
    c.in_err-this.ensures.partly)

pub loop-command-preserved : goal.loop-command-preserved
loop-command-preserved g c =
    let cs : List Command = c.args.commands.now in
    let i : ℕ = c.loop-command.command-index in
    let more : take (i + 1) cs ≡ take i cs ++ c.command-item.result ∷ [] = take_more cs i c.command-item.result c.loop-command-test.true ∙ ap (λ x. take i cs ++ x ∷ []) (sym c.command-item.is) in
    record {
      keeps = c.in_ok-this.ensures.keeps.keeps;
      empty = c.in_ok-this.ensures.keeps.empty;
      run = rw (more, c.both-fine.ensures) (run_then g.S.P.Piece.seen 0 (take i cs) (c.command-item.result ∷ []) _ _ _ _ _ _ c.loop-command.fine c.in_ok-this.this c.loop-command.invariant.run (c.in_ok-this.ensures.run (0 + length (take i cs))));
      later = search rules;
      quiet = search rules;
    }

pub returns-clause-run : goal.returns-clause-run
returns-clause-run g c = rw (← take_all c.loop-command.command-index c.args.commands.now c.loop-command-test.false) c.loop-command.invariant.run

pub returns-in_err-this-clause-keeps : goal.returns-in_err-this-clause-keeps
returns-in_err-this-clause-keeps g c = let p = err_from_is_err_and c.from_residual.result c.from_residual.ensures.1 in rw (p.1, p.2) c.in_err-this.ensures.keeps

pub returns-clause-keeps : goal.returns-clause-keeps
returns-clause-keeps g c = record { keeps = c.loop-command.invariant.keeps; empty = c.loop-command.invariant.empty }

use Rattle.std.proofs.Common.{◌≡◌, map, take, subst, sym, arith}
use Rattle.std.specs.Prelude.{Some, None}
use Rattle.std.proofs.lemmas.List.{length-take-le}
use Rattle.vx_header.specs.Said.{said_of}
use Rattle.vx_confdb.specs.Texts.{text_of}
use Rattle.vx_import.specs.Looks.{looked}
use Rattle.vx_import.specs.Answers.{IsChosen, RefusedIs}
use Rattle.vx_import.proofs.Verdicts.{chosen_is, refused_is}
use Rattle.vx_import.proofs.judging.judge_text.Goals as goal

pub returns-in-Some : goal.returns-in-Some
returns-in-Some g c =
    let long = length-take-le c.args.best.toggle.length c.args.buffer.now (omega (arith, c.args.best.toggle.text_fits, c.requires.room)) in
    let why : RefusedIs (Some c.in-Some.damage) c.args.best.index (said_of c.args.best.toggle) (map (looked g.P.Piece.seen) c.args.found.now) = rw c.in-Some.is at c.refused.ensures in
    record { answers = λ group of. rw c.damaged.ensures (refused_is group (map (looked g.P.Piece.seen) c.args.found.now) c.args.best.index (said_of c.args.best.toggle) (take c.args.best.toggle.length c.args.buffer.now) long c.args.best.toggle.text_fits c.args.best.toggle.good_fits c.requires.top c.requires.holds c.requires.read of c.in-Some.damage why) }

pub returns-in-Some-first_missing : goal.returns-in-Some-first_missing
returns-in-Some-first_missing g c =
    let long = length-take-le c.args.best.toggle.length c.args.buffer.now (omega (arith, c.args.best.toggle.text_fits, c.requires.room)) in
    let text : text_of c.in-Ok.text ≡ take c.args.best.toggle.length c.args.buffer.now = c.in-Ok.ensures in
    let whole : RefusedIs None c.args.best.index (said_of c.args.best.toggle) (map (looked g.P.Piece.seen) c.args.found.now) = rw c.in-None.is at c.refused.ensures in
    record {
      answers = λ group of. record {
        sequence = c.args.best.toggle.sequence;
        good = c.args.best.toggle.good;
        chosen = subst (λ x. IsChosen group c.args.best.toggle.sequence c.args.best.toggle.good x (map (looked g.P.Piece.seen) c.args.found.now)) (sym text) (chosen_is group (map (looked g.P.Piece.seen) c.args.found.now) c.args.best.index (said_of c.args.best.toggle) (take c.args.best.toggle.length c.args.buffer.now) long c.args.best.toggle.text_fits c.args.best.toggle.good_fits c.requires.top c.requires.holds c.requires.read of);
        low = whole.0;
        whole = whole.1;
        gone = c.in-Some-first_missing.ensures;
      };
    }

pub returns-in-None-first_missing : goal.returns-in-None-first_missing
returns-in-None-first_missing g c =
    let long = length-take-le c.args.best.toggle.length c.args.buffer.now (omega (arith, c.args.best.toggle.text_fits, c.requires.room)) in
    let text : text_of c.in-Ok.text ≡ take c.args.best.toggle.length c.args.buffer.now = c.in-Ok.ensures in
    let whole : RefusedIs None c.args.best.index (said_of c.args.best.toggle) (map (looked g.P.Piece.seen) c.args.found.now) = rw c.in-None.is at c.refused.ensures in
    record {
      answers = λ group of. record {
        chosen = subst (λ x. IsChosen group c.args.best.toggle.sequence c.args.best.toggle.good x (map (looked g.P.Piece.seen) c.args.found.now)) (sym text) (chosen_is group (map (looked g.P.Piece.seen) c.args.found.now) c.args.best.index (said_of c.args.best.toggle) (take c.args.best.toggle.length c.args.buffer.now) long c.args.best.toggle.text_fits c.args.best.toggle.good_fits c.requires.top c.requires.holds c.requires.read of);
        low = whole.0;
        whole = whole.1;
        there = c.in-None-first_missing.ensures;
      };
    }

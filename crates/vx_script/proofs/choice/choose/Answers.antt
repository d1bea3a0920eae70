use Rattle.std.proofs.Common.{◌≡◌, ◌∙◌, ap, sym, subst, ℕ, arith, Result, Ok, MatchResult}
use Rattle.vx_script.specs.Choice.{Choice}
use Rattle.vx_script_words.specs.Key.{text_of}
use Rattle.vx_script_words.specs.Words.{from_word, first_word}
use Rattle.vx_script_words.specs.Gives.{Fails}
use Rattle.vx_script.proofs.Heads.{stops_here, goes_on}
use Rattle.vx_script.proofs.choice.choose.Goals as goal

pub returns-then-eq : goal.returns-then-eq
returns-then-eq c =
    let word : c.first_word-word.result.now ≡ first_word (from_word c.args.text.now) = c.first_word-word.ensures ∙ ap first_word c.from_word-from.ensures in
    let key = c.key_text.ensures ∙ ap text_of c.head_key.ensures in
    let same = stops_here c.args.may_be_cut c.args.heads.now c.loop-head.head-index _ c.args.text.now c.first_word-word.result.now c.key_text.result.now c.kinds_of.result.now _ (omega arith) c.loop-head.invariant.same c.loop-head.invariant.apart word key (sym c.eq.ensures ∙ c.if-eq.true) c.kinds_of.ensures in
    subst (λ (r : Result Choice ℕ). MatchResult c.among.result (λ chosen. r ≡ Ok (record { kind = chosen.kind; values = c.among.new.values.items; cut = chosen.cut })) (λ stop. Fails stop r)) same c.among.ensures

pub loop-head-preserved : goal.loop-head-preserved
loop-head-preserved c =
    let word : c.first_word-word.result.now ≡ first_word (from_word c.args.text.now) = c.first_word-word.ensures ∙ ap first_word c.from_word-from.ensures in
    let key = c.key_text.ensures ∙ ap text_of c.head_key.ensures in
    let next = goes_on c.args.may_be_cut c.args.heads.now c.loop-head.head-index _ c.args.text.now c.first_word-word.result.now c.key_text.result.now _ (omega arith) c.loop-head.invariant.same c.loop-head.invariant.apart word key (sym c.eq.ensures ∙ c.if-eq.false) in
    record { same = next.0; apart = next.1 }

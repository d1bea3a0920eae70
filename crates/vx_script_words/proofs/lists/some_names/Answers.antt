use Rattle.std.proofs.Common.{rules, arith, ap₂, ◌≡◌, ◌∙◌, ◌+◌, ◌-◌, length}
use Rattle.vx_script_words.specs.Parts.{name_of}
use Rattle.vx_script_words.specs.Row.{gather, pushed}
use Rattle.vx_script_words.specs.Words.{from_word, past_word}
use Rattle.vx_script_words.proofs.Lines.{gather_stop, gather_more, gather_end}
use Rattle.vx_script_words.proofs.lists.some_names.Goals as goal

pub returns-in_default : goal.returns-in_default
returns-in_default c = gather_stop name_of pushed _ c.loop-n.n c.loop-n.names c.loop-n.rest.now _ (omega arith) (search rules) c.loop-n.invariant

pub loop-n-preserved : goal.loop-n-preserved
loop-n-preserved c =
    let more = gather_more name_of pushed (length c.args.text.now) c.loop-n.n c.loop-n.names c.loop-n.rest.now c.in-Some.name _ (omega arith) (search rules) c.loop-n.invariant in
    let behind : c.past_word-rest.result.now ≡ past_word (from_word c.loop-n.rest.now) = search rules in
    ap₂ (gather name_of pushed ((length c.args.text.now) - (c.loop-n.n + 1))) c.in_ok-names.ensures behind ∙ more

pub returns : goal.returns
returns c = gather_end name_of pushed (length c.args.text.now) c.loop-n.n c.loop-n.names c.loop-n.rest.now _ (omega arith) c.loop-n.invariant

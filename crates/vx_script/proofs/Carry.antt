-- What holds of an answer holds of its equals.
use Rattle.std.proofs.Common.{◌≡◌, ◌∙◌, sym, ap, subst, refl, ℕ, ◌+◌, ◌≤◌, Bool, true, false, cond, List, [], ◌∷◌, length, Result, Ok, MatchResult, arith}
use Rattle.vx_script.specs.Lines.{lines_of}
use Rattle.vx_script.specs.Script.{Place, commands_from, stepped}
use Rattle.vx_script.specs.Steps.{step, open_step}
use Rattle.vx_script.specs.declared.command.Command.{Command}
use Rattle.vx_script.specs.declared.reader.Open.{Open}
use Rattle.vx_script.specs.declared.reader.Reader.{Reader}
use Rattle.vx_script_words.specs.Gives.{Fails}
use Rattle.vx_script_words.specs.declared.fault.LineFault.{LineFault}

pub carried : (r : Result Reader LineFault) (x y : Result Reader ℕ) → x ≡ y → MatchResult r (λ next. x ≡ Ok next) (λ stop. Fails stop x) → MatchResult r (λ next. y ≡ Ok next) (λ stop. Fails stop y)
carried r x y e h =
    let P : Result Reader ℕ → Type 0 = λ z. MatchResult r (λ next. z ≡ Ok next) (λ stop. Fails stop z) in
    subst P e h

pub at_true : (b : Bool) (x y : Result Reader ℕ) → b ≡ true → x ≡ cond b x y
at_true true x y e = refl
at_true false x y e = cc

pub at_false : (b : Bool) (x y : Result Reader ℕ) → b ≡ false → y ≡ cond b x y
at_false true x y e = cc
at_false false x y e = refl

pub step_is : (reader : Reader) (o : Open) (line : List ℕ) → reader.begun ≡ o → open_step o reader.done line ≡ step reader line
unfolding step
step_is reader o line e = ap (λ b. open_step b reader.done line) (sym e)

pub goes_on : (reader more : Reader) (n : ℕ) (line : List ℕ) (lines all : List (List ℕ)) (whole : Result (List Command) Place) → all ≡ line ∷ lines → step reader line ≡ Ok more → commands_from reader n all ≡ whole → commands_from more (n + 1) lines ≡ whole
goes_on reader more n line lines all whole e f so =
    sym (ap (commands_from reader n) e ∙ ap (λ r. stepped r (λ next. commands_from next (n + 1) lines) n line) f) ∙ so

no_line : (text : List ℕ) → length text ≤ 0 → lines_of text ≡ []
unfolding lines_of
no_line [] h = refl
no_line (b ∷ bs) h = absurd (omega arith)

pub at_end : (reader : Reader) (n : ℕ) (text : List ℕ) (whole : Result (List Command) Place) → length text ≤ 0 → commands_from reader n (lines_of text) ≡ whole → commands_from reader n [] ≡ whole
at_end reader n text whole h so = sym (ap (commands_from reader n) (no_line text h)) ∙ so

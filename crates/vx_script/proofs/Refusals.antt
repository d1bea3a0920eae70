-- Where a script has a fault.
use Rattle.std.proofs.Common.{true, ◌≡◌, ◌∙◌, sym, ap, subst, refl, ℕ, ◌+◌, ◌⊎◌, inl, inr, cond, leb, Option, Some, None, Result, Ok, Err, List, [], ◌∷◌, length, codes, arith, not}
use Rattle.std.specs.Prelude.{◌&&◌}
use Rattle.std.specs.Str.{bytes_eq}
use Rattle.vx_script.specs.Fault.{is_too_much, IsNoLine, IsRefusedCall, IsRefusedInside, IsRefusedBy, IsRefused, IsRefusal, IsUnfinished, IsFault}
use Rattle.vx_script.specs.Lines.{bad_word, is_passed_over, lines_of}
use Rattle.vx_script.specs.Script.{Place, Faults, commands_from, finished, script_of, stepped}
use Rattle.vx_script.specs.Steps.{or_bad, closed_step, making_step, line_of_session, session_line, line_calls, line_sectors, added, ended, inside_step, open_step, step}
use Rattle.vx_script.specs.declared.command.Command.{Command}
use Rattle.vx_script.specs.declared.fault.ScriptFault.{ScriptFault}
use Rattle.vx_script.specs.declared.fault.ScriptFault.TheVariants as fault
use Rattle.vx_script.specs.declared.reader.Open.{Open}
use Rattle.vx_script.specs.declared.reader.Open.TheVariants.{Closed, Making, Inside}
use Rattle.vx_script.specs.declared.reader.Reader.{Reader}
use Rattle.vx_script.proofs.Faults.{command_place, session_place}
use Rattle.vx_script_forms.specs.declared.block.Line.{Line}
use Rattle.vx_script_words.specs.Number.{number_of, within}
use Rattle.vx_script_words.specs.Row.{and_then, nothing_left}
use Rattle.vx_script_words.specs.Words.{from_word, first_word, past_word}
use Rattle.vx_script_words.proofs.Sorts.{chosen}

bad_there : (o : Option ℕ) (reader : Reader) (left : ℕ) → or_bad o reader ≡ Err left → o ≡ Some left
bad_there None reader left e = absurd cc
bad_there (Some n) reader left e = cc

closed_refusal : (done : List Command) (line : List ℕ) (left : ℕ) → closed_step done line ≡ Err left → IsRefused Closed line left
closed_refusal done line left e = elim (chosen (is_passed_over line) _ _ _ e) [
  | inl c ↦ inl (c.0, bad_there (bad_word line) _ left c.1)
  | inr c ↦ inr (c.0, command_place done line left c.1)
]

making_refusal : (done : List Command) (group : Option (List ℕ)) (cut : Option ℕ) (text line : List ℕ) (left : ℕ) → making_step done group cut text line ≡ Err left → bad_word line ≡ Some left
making_refusal done group cut text line left e = elim (chosen (bytes_eq line (codes "end")) _ _ _ e) [
  | inl c ↦ absurd cc
  | inr c ↦ bad_there (bad_word line) _ left c.1
]

left_over : {A : Type 0} (x : A) (text : List ℕ) (left : ℕ) → nothing_left x text ≡ Err left → left ≡ length text
left_over x [] left e = absurd cc
left_over x (b ∷ bs) left e = cc

added_refusal : (done : List Command) (cut : Option ℕ) (sessions : ℕ) (lines : List Line) (so_many so_long whole : ℕ) (l : Line) (left : ℕ) → added done cut sessions lines so_many so_long whole l ≡ Err left → (is_too_much so_many so_long l ≡ true) × (left ≡ whole)
added_refusal done cut sessions lines so_many so_long whole l left e = elim (chosen (leb (so_many + line_calls l) 65536 && leb (so_long + line_sectors l) 262144) _ _ _ e) [
  | inl c ↦ absurd cc
  | inr c ↦ let there = c.1 in (ap not c.0, cc)
]

session_refusal : (sessions : ℕ) (text : List ℕ) (left : ℕ) → session_line sessions text ≡ Err left → ((within 0 sessions (number_of (first_word text)) ≡ None) × (left ≡ length text)) ⊎ IsNoLine sessions text left
unfolding session_line
session_refusal sessions text left e = by_session (within 0 sessions (number_of (first_word text))) refl e
  where
    by_session : (o : Option ℕ) → within 0 sessions (number_of (first_word text)) ≡ o → line_of_session o text ≡ Err left → ((within 0 sessions (number_of (first_word text)) ≡ None) × (left ≡ length text)) ⊎ IsNoLine sessions text left
    by_session None same e = inl (same, cc)
    by_session (Some session) same e = inr (session, same, session_place session (past_word text) left e)

inside_refusal : (done : List Command) (cut : Option ℕ) (sessions : ℕ) (lines : List Line) (so_many so_long : ℕ) (line : List ℕ) (left : ℕ) → inside_step done cut sessions lines so_many so_long line ≡ Err left → IsRefusedBy line left (IsRefusedInside sessions so_many so_long line left)
inside_refusal done cut sessions lines so_many so_long line left e = elim (chosen (is_passed_over line) _ _ _ e) [
  | inl c ↦ inl (c.0, bad_there (bad_word line) _ left c.1)
  | inr c ↦ inr (c.0, by_end c.1)
]
  where
    by_line : (r : Result Line ℕ) → session_line sessions (from_word line) ≡ r → and_then r (added done cut sessions lines so_many so_long (length line)) ≡ Err left → IsRefusedCall sessions so_many so_long line left
    by_line (Ok l) same e =
        let a = added_refusal done cut sessions lines so_many so_long (length line) l left e in
        inr (inr (l, same, a.0, a.1))
    by_line (Err n) same e =
        let at : n ≡ left = cc in
        elim (session_refusal sessions (from_word line) left (same ∙ ap (λ (m : ℕ). Err m) at)) [ inl k ↦ inl k | inr k ↦ inr (inl k) ]

    by_end : cond (bytes_eq (first_word (from_word line)) (codes "end")) (ended done cut sessions lines (past_word (from_word line))) (and_then (session_line sessions (from_word line)) (added done cut sessions lines so_many so_long (length line))) ≡ Err left → IsRefusedInside sessions so_many so_long line left
    by_end e = elim (chosen (bytes_eq (first_word (from_word line)) (codes "end")) _ _ _ e) [
      | inl d ↦ inl (d.0, left_over _ (from_word (past_word (from_word line))) left d.1)
      | inr d ↦ inr (d.0, by_line (session_line sessions (from_word line)) refl d.1)
    ]

open_refusal : (o : Open) (done : List Command) (line : List ℕ) (left : ℕ) → open_step o done line ≡ Err left → IsRefused o line left
open_refusal Closed done line left e = closed_refusal done line left e
open_refusal (Making group cut text) done line left e = making_refusal done group cut text line left e
open_refusal (Inside cut sessions lines calls sectors) done line left e = inside_refusal done cut sessions lines calls sectors line left e

step_refusal : (reader : Reader) (line : List ℕ) (left : ℕ) → step reader line ≡ Err left → IsRefused reader.begun line left
unfolding step
step_refusal reader line left e = open_refusal reader.begun reader.done line left e

-- ---- whole texts

-- what is refused behind lines that were read, or not finished there
abbrev IsFaultFrom : Reader → ℕ → List (List ℕ) → Place → Type 0
IsFaultFrom start read lines place =
    ((number : ℕ) × (place.line ≡ read + number) × (IsRefusal start lines number place.column ⊎ IsUnfinished start lines number place.column))

same_place : (x y : Place) → ◌≡◌ {A = Result (List Command) Place} (Err x) (Err y) → x ≡ y
same_place x y e = cc

unfinished : (o : Open) (start : Reader) (n : ℕ) (place : Place) → start.begun ≡ o → finished o start.done n ≡ Err place → (place.line ≡ n) × IsUnfinished start [] 1 place.column
unfinished Closed start n place same e = absurd cc
unfinished (Making group cut text) start n place same e =
    let at = same_place _ _ e in
    (sym (ap (λ (p : Place). p.line) at), record { reader = start; leads = refl; begun = λ closed. let both = sym same ∙ closed in cc; number_is = refl; column_is = sym (ap (λ (p : Place). p.column) at) })
unfinished (Inside cut sessions lines calls sectors) start n place same e =
    let at = same_place _ _ e in
    (sym (ap (λ (p : Place). p.line) at), record { reader = start; leads = refl; begun = λ closed. let both = sym same ∙ closed in cc; number_is = refl; column_is = sym (ap (λ (p : Place). p.column) at) })

fault_from : (lines : List (List ℕ)) (start : Reader) (n : ℕ) (place : Place) → commands_from start (n + 1) lines ≡ Err place → IsFaultFrom start n lines place
fault_from [] start n place e =
    let u = unfinished start.begun start (n + 1) place refl e in
    (1, u.0, inr u.1)
fault_from (line ∷ lines) start n place e = by_step (step start line) refl (λ next. fault_from lines next (n + 1) place) e
  where
    by_step : (r : Result Reader ℕ) → step start line ≡ r → ((next : Reader) → commands_from next (n + 1 + 1) lines ≡ Err place → IsFaultFrom next (n + 1) lines place) → stepped r (λ next. commands_from next (n + 1 + 1) lines) (n + 1) line ≡ Err place → IsFaultFrom start n (line ∷ lines) place
    by_step (Err left) same more e =
        let at = same_place _ _ e in
        (1, sym (ap (λ (p : Place). p.line) at), inl (record { before = []; line = line; after = lines; parts = refl; reader = start; leads = refl; left = left; refused = step_refusal start line left same; number_is = refl; column_is = sym (ap (λ (p : Place). p.column) at) }))
    by_step (Ok next) same more e =
        let f = more next e in
        elim f.2 [
          | inl r ↦ (f.0 + 1, omega (arith, f.1), inl (record { before = line ∷ r.before; line = r.line; after = r.after; parts = ap (λ (x : List (List ℕ)). line ∷ x) r.parts; reader = r.reader; leads = (next, same, r.leads); left = r.left; refused = r.refused; number_is = omega (arith, r.number_is); column_is = r.column_is }))
          | inr u ↦ (f.0 + 1, omega (arith, f.1), inr (record { reader = u.reader; leads = (next, same, u.leads); begun = u.begun; number_is = omega (arith, u.number_is); column_is = u.column_is }))
        ]

-- a fault of a text names its first refused line, or the one behind its last
pub fault_is : (text : List ℕ) (f : ScriptFault) → Faults f (script_of text) → IsFault text f
unfolding script_of
fault_is text fault.OutOfMemory e = tt
fault_is text (fault.Script line column) e =
    let start : Reader = record { done = []; begun = Closed } in
    let one : 1 ≡ 0 + 1 = refl in
    let f = fault_from (lines_of text) start 0 (record { line = line; column = column }) (ap (λ (n : ℕ). commands_from start n (lines_of text)) (sym one) ∙ e) in
    let number : f.0 ≡ line = omega (arith, f.1) in
    elim f.2 [
      | inl r ↦ inl (subst (λ (n : ℕ). IsRefusal start (lines_of text) n column) number r)
      | inr u ↦ inr (subst (λ (n : ℕ). IsUnfinished start (lines_of text) n column) number u)
    ]

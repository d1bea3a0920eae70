-- What a line does to a script keeps the ranges and the limits.
use Rattle.std.proofs.Common.{◌≡◌, ◌∙◌, sym, ap, ap₂, subst, refl, ℕ, ◌+◌, ◌≤◌, Bool, true, false, eqb, leb, inl, inr, leb-true, le-leb, lt-ltb, not, Option, Some, None, is_none, Result, Ok, Err, List, [], ◌∷◌, ◌++◌, map, sum, length, codes, arith}
use Rattle.std.specs.Prelude.{◌&&◌}
use Rattle.std.specs.List.{list_all}
use Rattle.std.specs.Str.{bytes_eq}
use Rattle.std.proofs.lemmas.Bool.{and_from, and_parts, eqb-false, true≢false}
use Rattle.std.proofs.lemmas.List.Sums.{sum-map, sum_by_push}
use Rattle.std.proofs.lemmas.Option.{same_Some}
use Rattle.vx_script.specs.Choice.{Choice, choice, choose, or_others}
use Rattle.vx_script.specs.Kept.{is_said, is_line, is_block, is_made, is_record_line, is_body, maybe_cut, is_command, is_kept}
use Rattle.vx_script.specs.Lines.{bad_word, is_passed_over, lines_of}
use Rattle.vx_script.specs.Script.{commands_from, finished, script_of, stepped}
use Rattle.vx_script.specs.Steps.{opened, opened_by, command_step, or_bad, closed_step, making_step, administered, called, line_behind, line_of_session, session_line, line_calls, line_sectors, added, ended, inside_step, open_step, step}
use Rattle.vx_script.specs.declared.command.Command.{Command}
use Rattle.vx_script.specs.declared.reader.Open.{Open}
use Rattle.vx_script.specs.declared.reader.Open.TheVariants.{Closed, Making, Inside}
use Rattle.vx_script.specs.declared.reader.Reader.{Reader}
use Rattle.vx_script.proofs.WholeLines.{made_more}
use Rattle.vx_script_forms.specs.FormOf.{form_of}
use Rattle.vx_script_forms.specs.Table.{items_of, commands, calls, acts}
use Rattle.vx_script_forms.specs.Values.{group_of}
use Rattle.vx_script_forms.specs.declared.block.Line.{Line}
use Rattle.vx_script_forms.specs.declared.form.Form.{Form}
use Rattle.vx_script_forms.specs.declared.form.Form.TheVariants as form
use Rattle.vx_script_forms.specs.declared.kind.Kind.{Kind}
use Rattle.vx_script_forms.proofs.Forms.{form_ok}
use Rattle.vx_script_words.specs.Fits.{is_between, are_of}
use Rattle.vx_script_words.specs.declared.value.Value.{Value}
use Rattle.vx_script_forms.specs.declared.call.Call.{Call}
use Rattle.vx_script_forms.specs.declared.call.Call.TheVariants as call
use Rattle.vx_script_words.specs.Number.{number_of, within}
use Rattle.vx_script_words.specs.Row.{row, Read, and_then}
use Rattle.vx_script_words.specs.Words.{from_word, first_word, past_word}
use Rattle.vx_script_words.proofs.Fits.{IsCut, IsRead, row_is, ends_same}
use Rattle.vx_script_words.proofs.Sorts.{all_pushed, chosen, within_ok}

same_ok : {A B : Type 0} (x y : A) → ◌≡◌ {A = Result A B} (Ok x) (Ok y) → x ≡ y
same_ok x y e = cc

-- the values of a choice are those of its kind
abbrev pub IsChoice : Choice → Type 0
IsChoice c = IsRead (items_of c.kind) (record { values = c.values; cut = c.cut })

pub choice_is : (may_be_cut : Bool) (kinds : List Kind) (text : List ℕ) (left : ℕ) (c : Choice) → choice may_be_cut kinds text left ≡ Ok c → IsChoice c
choice_is may_be_cut [] text left c e = absurd cc
choice_is may_be_cut (k ∷ ks) text left c e = by_row (row may_be_cut (items_of k) text) (row_is may_be_cut (items_of k) text) (choice_is may_be_cut ks text) e
  where
    by_row : (r : Result Read ℕ) → ((read : Read) → r ≡ Ok read → IsRead (items_of k) read) → ((n : ℕ) (d : Choice) → choice may_be_cut ks text n ≡ Ok d → IsChoice d) → or_others r k (choice may_be_cut ks text) left ≡ Ok c → IsChoice c
    by_row (Ok read) ok others e = subst IsChoice (same_ok _ _ e) (ok read refl)
    by_row (Err less) ok others e = others _ c e

cut_is : (cut : Option ℕ) → IsCut cut → maybe_cut cut ≡ true
cut_is None h = refl
cut_is (Some n) h = lt-ltb n _ h

-- a record text that is begun
pub record KeepsText (group : Option (List ℕ)) (cut : Option ℕ) (text : List ℕ) : Type 0 where
  pub said : is_said group (form.VxMake []) ≡ true
  pub short : maybe_cut cut ≡ true
  pub made : is_made text ≡ true

-- a block that is begun, and what is counted of it
pub record KeepsBlock (cut : Option ℕ) (sessions : ℕ) (lines : List Line) (calls sectors : ℕ) : Type 0 where
  pub short : maybe_cut cut ≡ true
  pub said : is_said None (form.Sessions (record { sessions = sessions; lines = [] })) ≡ true
  pub each : list_all (is_line sessions) lines ≡ true
  pub counted : sum (map line_calls lines) ≡ calls
  pub measured : sum (map line_sectors lines) ≡ sectors
  pub few : calls ≤ 65536
  pub small : sectors ≤ 262144

abbrev pub KeepsOpen : Open → Type 0
KeepsOpen Closed = Unit {0}
KeepsOpen (Making group cut text) = KeepsText group cut text
KeepsOpen (Inside cut sessions lines calls sectors) = KeepsBlock cut sessions lines calls sectors

pub record Keeps (reader : Reader) : Type 0 where
  pub done : list_all is_command reader.done ≡ true
  pub begun : KeepsOpen reader.begun

-- ---- a command line

closed_more : (done : List Command) (c : Command) → list_all is_command done ≡ true → is_command c ≡ true → Keeps (record { done = done ++ c ∷ []; begun = Closed })
closed_more done c h k = record { done = all_pushed is_command done c h k; begun = tt }

command_is : (group : Option (List ℕ)) (f : Form) (cut : Option ℕ) → is_said group f ≡ true → is_body f ≡ true → maybe_cut cut ≡ true → is_command (record { group = group; form = f; cut = cut }) ≡ true
command_is group f cut a b c = and_from _ _ (and_from _ _ a b) c

-- a block has no group, and a call neither
block_alone : (group : Option (List ℕ)) (sessions : ℕ) (lines : List Line) → is_said group (form.Sessions (record { sessions = sessions; lines = lines })) ≡ true → is_said None (form.Sessions (record { sessions = sessions; lines = [] })) ≡ true
block_alone None sessions lines h = h
block_alone (Some name) sessions lines h = absurd (true≢false (sym h))

call_alone : (group : Option (List ℕ)) (call : Call) → is_said group (form.Calling call) ≡ true → is_said None (form.Calling call) ≡ true
call_alone None call h = h
call_alone (Some name) (call.Read vol start count) h = absurd (true≢false (sym h))
call_alone (Some name) (call.Fill vol start count byte) h = absurd (true≢false (sym h))
call_alone (Some name) (call.Data vol start blocks) h = absurd (true≢false (sym h))

opened_keeps : (done : List Command) (group : Option (List ℕ)) (f : Form) (cut : Option ℕ) → list_all is_command done ≡ true → is_said group f ≡ true → maybe_cut cut ≡ true → Keeps (opened done group f cut)
unfolding lines_of
opened_keeps done group (form.VxMake text) cut h a c = record { done = h; begun = record { said = a; short = c; made = refl } }
opened_keeps done group (form.Sessions block) cut h a c = record { done = h; begun = record { short = c; said = block_alone group block.sessions block.lines a; each = refl; counted = refl; measured = refl; few = omega arith; small = omega arith } }
opened_keeps done group f cut h a c = closed_more done (record { group = group; form = f; cut = cut }) h (command_is group f cut a refl c)

-- what the values say is in its ranges
abbrev Says : Option (Option (List ℕ)) → Option Form → Type 0
Says group f = (g : Form) (name : Option (List ℕ)) → f ≡ Some g → group ≡ Some name → is_said name g ≡ true

opened_is : (done : List Command) (group : Option (Option (List ℕ))) (f : Option Form) (cut : Option ℕ) (next : Reader) → list_all is_command done ≡ true → maybe_cut cut ≡ true → Says group f → opened_by done group f cut ≡ Ok next → Keeps next
opened_is done None f cut next h c a e = absurd cc
opened_is done (Some group) None cut next h c a e = absurd cc
opened_is done (Some group) (Some f) cut next h c a e = subst Keeps (same_ok _ _ e) (opened_keeps done group f cut h (a f group refl refl) c)

-- what a choice comes to, where it is there
chosen_then : {A : Type 0} (may_be_cut : Bool) (kinds : List Kind) (text : List ℕ) (f : Choice → Result A ℕ) (x : A) (P : Type 0) → and_then (choose may_be_cut kinds text) f ≡ Ok x → ((c : Choice) → IsChoice c → f c ≡ Ok x → P) → P
chosen_then may_be_cut kinds text f x P e k = by_choice (choose may_be_cut kinds text) (choice_is may_be_cut kinds text (length (from_word text))) e
  where
    by_choice : (r : Result Choice ℕ) → ((c : Choice) → r ≡ Ok c → IsChoice c) → and_then r f ≡ Ok x → P
    by_choice (Ok c) is e = k c (is c refl) e
    by_choice (Err left) is e = absurd cc

said_there : (c : Choice) → IsChoice c → Says (group_of c.values) (form_of c.kind c.values)
said_there c h f group e g =
    let k = form_ok c.kind c.values h.0 in
    let whole : is_said k.group k.form ≡ true = ap₂ (λ (kind : Kind) (vs : List Value). are_of (items_of kind) vs) k.kind k.values ∙ h.0 in
    subst (λ (x : Form). is_said group x ≡ true) (same_Some _ _ (sym k.is ∙ e)) (subst (λ (x : Option (List ℕ)). is_said x k.form ≡ true) (same_Some _ _ (sym k.group_is ∙ g)) whole)

-- there is a group, or none
grouped_there : (c : Choice) → IsChoice c → (group : Option (List ℕ)) × (group_of c.values ≡ Some group)
grouped_there c h = let k = form_ok c.kind c.values h.0 in (k.group, k.group_is)

command_keeps : (done : List Command) (line : List ℕ) (next : Reader) → list_all is_command done ≡ true → command_step done line ≡ Ok next → Keeps next
unfolding command_step
command_keeps done line next h e =
    chosen_then true commands line (λ c. opened_by done (group_of c.values) (form_of c.kind c.values) c.cut) next (Keeps next) e (λ c k f. opened_is done (group_of c.values) (form_of c.kind c.values) c.cut next h (cut_is c.cut k.1) (said_there c k) f)

clean : (o : Option ℕ) (reader next : Reader) → or_bad o reader ≡ Ok next → (o ≡ None) × (reader ≡ next)
clean None reader next e = (refl, same_ok _ _ e)
clean (Some left) reader next e = absurd cc

closed_keeps : (done : List Command) (line : List ℕ) (next : Reader) → list_all is_command done ≡ true → closed_step done line ≡ Ok next → Keeps next
closed_keeps done line next h e = elim (chosen (is_passed_over line) _ _ _ e) [
  | inl c ↦ subst Keeps (clean (bad_word line) _ next c.1).1 (record { done = h; begun = tt })
  | inr c ↦ command_keeps done line next h c.1
]

-- ---- a line of a record text

making_keeps : (done : List Command) (group : Option (List ℕ)) (cut : Option ℕ) (text line : List ℕ) (next : Reader) → list_all is_command done ≡ true → KeepsText group cut text → making_step done group cut text line ≡ Ok next → Keeps next
making_keeps done group cut text line next h k e = elim (chosen (bytes_eq line (codes "end")) _ _ _ e) [
  | inl c ↦ subst Keeps (same_ok _ _ c.1) (closed_more done (record { group = group; form = form.VxMake text; cut = cut }) h (command_is group (form.VxMake text) cut k.said k.made k.short))
  | inr c ↦
      let d = clean (bad_word line) _ next c.1 in
      let fits : is_record_line line ≡ true = and_from _ _ (ap is_none d.0) (ap not c.0) in
      subst Keeps d.1 (record { done = h; begun = record { said = k.said; short = k.short; made = made_more text line k.made fits } })
]

-- ---- a line of a block

administered_is : (sessions : ℕ) (group : Option (Option (List ℕ))) (f : Option Form) (line : Line) → Says group f → administered group f ≡ Ok line → is_line sessions line ≡ true
administered_is sessions None f line a e = absurd cc
administered_is sessions (Some group) None line a e = absurd cc
administered_is sessions (Some group) (Some (form.Acting act)) line a e = subst (λ (x : Line). is_line sessions x ≡ true) (same_ok _ _ e) (a (form.Acting act) group refl refl)
administered_is sessions (Some group) (Some f) line a e = absurd cc

called_is : (sessions session : ℕ) (group : Option (List ℕ)) (f : Option Form) (line : Line) → is_between 1 sessions session ≡ true → Says (Some group) f → called session f ≡ Ok line → is_line sessions line ≡ true
called_is sessions session group None line h a e = absurd cc
called_is sessions session group (Some (form.Calling call)) line h a e =
    subst (λ (x : Line). is_line sessions x ≡ true) (same_ok _ _ e) (and_from _ _ h (call_alone group call (a (form.Calling call) group refl refl)))
called_is sessions session group (Some f) line h a e = absurd cc

line_behind_is : (sessions session : ℕ) (text : List ℕ) (line : Line) → session ≤ sessions → line_behind session text ≡ Ok line → is_line sessions line ≡ true
unfolding line_behind
line_behind_is sessions session text line h e = elim (chosen (eqb session 0) _ _ _ e) [
  | inl c ↦ chosen_then false acts text (λ c. administered (group_of c.values) (form_of c.kind c.values)) line (is_line sessions line ≡ true) c.1 (λ c k f. administered_is sessions (group_of c.values) (form_of c.kind c.values) line (said_there c k) f)
  | inr c ↦
      let other = eqb-false session 0 c.0 in
      let some : 1 ≤ session = omega arith in
      chosen_then false calls text (λ c. called session (form_of c.kind c.values)) line (is_line sessions line ≡ true) c.1 (λ c k f.
      let g = grouped_there c k in
      called_is sessions session g.0 (form_of c.kind c.values) line (and_from _ _ (le-leb 1 session some) (le-leb session sessions h)) (λ x name e is. said_there c k x name e (g.1 ∙ is)) f)
]

session_line_is : (sessions : ℕ) (text : List ℕ) (line : Line) → session_line sessions text ≡ Ok line → is_line sessions line ≡ true
unfolding session_line
session_line_is sessions text line e = by_session (within 0 sessions (number_of (first_word text))) (λ n h. (within_ok 0 sessions n (number_of (first_word text)) h).1) e
  where
    by_session : (o : Option ℕ) → ((n : ℕ) → o ≡ Some n → n ≤ sessions) → line_of_session o text ≡ Ok line → is_line sessions line ≡ true
    by_session None below e = absurd cc
    by_session (Some session) below e = line_behind_is sessions session (past_word text) line (below session refl) e

sum_more : (f : Line → ℕ) (lines : List Line) (line : Line) → sum (map f (lines ++ line ∷ [])) ≡ sum (map f lines) + f line
sum_more f lines line = sum-map f (lines ++ line ∷ []) ∙ sum_by_push f lines line ∙ ap (λ (n : ℕ). n + f line) (sym (sum-map f lines))

added_keeps : (done : List Command) (cut : Option ℕ) (sessions : ℕ) (lines : List Line) (calls sectors whole : ℕ) (line : Line) (next : Reader) → list_all is_command done ≡ true → KeepsBlock cut sessions lines calls sectors → is_line sessions line ≡ true → added done cut sessions lines calls sectors whole line ≡ Ok next → Keeps next
added_keeps done cut sessions lines calls sectors whole line next h k l e = elim (chosen (leb (calls + line_calls line) 65536 && leb (sectors + line_sectors line) 262144) _ _ _ e) [
  | inl c ↦
      let p = and_parts (leb (calls + line_calls line) 65536) _ c.0 in
      subst Keeps (same_ok _ _ c.1) (record {
        done = h;
        begun = record {
          short = k.short;
          said = k.said;
          each = all_pushed (is_line sessions) lines line k.each l;
          counted = sum_more line_calls lines line ∙ ap (λ (n : ℕ). n + line_calls line) k.counted;
          measured = sum_more line_sectors lines line ∙ ap (λ (n : ℕ). n + line_sectors line) k.measured;
          few = leb-true _ 65536 p.0;
          small = leb-true _ 262144 p.1;
        };
      })
  | inr c ↦ absurd cc
]

block_is : (cut : Option ℕ) (sessions : ℕ) (lines : List Line) (calls sectors : ℕ) → KeepsBlock cut sessions lines calls sectors → is_block (record { sessions = sessions; lines = lines }) ≡ true
block_is cut sessions lines calls sectors k =
    let few : sum (map line_calls lines) ≤ 65536 = omega (arith, k.counted, k.few) in
    let small : sum (map line_sectors lines) ≤ 262144 = omega (arith, k.measured, k.small) in
    and_from _ _ (and_from _ _ k.each (le-leb _ 65536 few)) (le-leb _ 262144 small)

ended_keeps : (done : List Command) (cut : Option ℕ) (sessions : ℕ) (lines : List Line) (calls sectors : ℕ) (rest : List ℕ) (next : Reader) → list_all is_command done ≡ true → KeepsBlock cut sessions lines calls sectors → ended done cut sessions lines rest ≡ Ok next → Keeps next
ended_keeps done cut sessions lines calls sectors rest next h k e =
    let block = form.Sessions (record { sessions = sessions; lines = lines }) in
    subst Keeps (ends_same _ next (from_word rest) e) (closed_more done (record { group = None; form = block; cut = cut }) h (command_is None block cut k.said (block_is cut sessions lines calls sectors k) k.short))

inside_keeps : (done : List Command) (cut : Option ℕ) (sessions : ℕ) (lines : List Line) (calls sectors : ℕ) (line : List ℕ) (next : Reader) → list_all is_command done ≡ true → KeepsBlock cut sessions lines calls sectors → inside_step done cut sessions lines calls sectors line ≡ Ok next → Keeps next
inside_keeps done cut sessions lines calls sectors line next h k e = elim (chosen (is_passed_over line) _ _ _ e) [
  | inl c ↦ subst Keeps (clean (bad_word line) _ next c.1).1 (record { done = h; begun = k })
  | inr c ↦ elim (chosen (bytes_eq (first_word (from_word line)) (codes "end")) _ _ _ c.1) [
    | inl d ↦ ended_keeps done cut sessions lines calls sectors (past_word (from_word line)) next h k d.1
    | inr d ↦ by_line (session_line sessions (from_word line)) (session_line_is sessions (from_word line)) d.1
  ]
]
  where
    by_line : (r : Result Line ℕ) → ((l : Line) → r ≡ Ok l → is_line sessions l ≡ true) → and_then r (added done cut sessions lines calls sectors (length line)) ≡ Ok next → Keeps next
    by_line (Ok l) is e = added_keeps done cut sessions lines calls sectors (length line) l next h k (is l refl) e
    by_line (Err left) is e = absurd cc

-- ---- whole texts

open_keeps : (o : Open) (done : List Command) (line : List ℕ) (next : Reader) → list_all is_command done ≡ true → KeepsOpen o → open_step o done line ≡ Ok next → Keeps next
open_keeps Closed done line next h k e = closed_keeps done line next h e
open_keeps (Making group cut text) done line next h k e = making_keeps done group cut text line next h k e
open_keeps (Inside cut sessions lines calls sectors) done line next h k e = inside_keeps done cut sessions lines calls sectors line next h k e

step_keeps : (reader : Reader) (line : List ℕ) (next : Reader) → Keeps reader → step reader line ≡ Ok next → Keeps next
unfolding step
step_keeps reader line next k e = open_keeps reader.begun reader.done line next k.done k.begun e

finished_kept : (o : Open) (done commands : List Command) (n : ℕ) → list_all is_command done ≡ true → finished o done n ≡ Ok commands → list_all is_command commands ≡ true
finished_kept Closed done commands n h e = subst (λ (x : List Command). list_all is_command x ≡ true) (same_ok _ _ e) h
finished_kept (Making group cut text) done commands n h e = absurd cc
finished_kept (Inside cut sessions lines calls sectors) done commands n h e = absurd cc

commands_kept : (lines : List (List ℕ)) (reader : Reader) (n : ℕ) (commands : List Command) → Keeps reader → commands_from reader n lines ≡ Ok commands → list_all is_command commands ≡ true
commands_kept [] reader n commands k e = finished_kept reader.begun reader.done commands n k.done e
commands_kept (line ∷ lines) reader n commands k e = by_step (step reader line) (λ next. step_keeps reader line next k) (λ next. commands_kept lines next (n + 1) commands) e
  where
    by_step : (r : Result Reader ℕ) → ((next : Reader) → r ≡ Ok next → Keeps next) → ((next : Reader) → Keeps next → commands_from next (n + 1) lines ≡ Ok commands → list_all is_command commands ≡ true) → stepped r (λ next. commands_from next (n + 1) lines) n line ≡ Ok commands → list_all is_command commands ≡ true
    by_step (Ok next) keeps more e = more next (keeps next refl) e
    by_step (Err left) keeps more e = absurd cc

-- what is read keeps the ranges of its words and the limits of its blocks
pub read_kept : (text : List ℕ) (commands : List Command) → script_of text ≡ Ok commands → is_kept commands ≡ true
unfolding script_of
read_kept text commands e = commands_kept (lines_of text) (record { done = []; begun = Closed }) 1 commands (record { done = refl; begun = tt }) e

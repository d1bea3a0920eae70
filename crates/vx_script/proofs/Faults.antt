-- A line of a kind has its values: so a step refuses a line only where no kind fits it.
use Rattle.std.proofs.Common.{◌≡◌, ◌∙◌, sym, ap, ap₂, subst, refl, ℕ, ◌⊎◌, inl, inr, Bool, true, false, eqb, Option, Some, None, Result, Ok, Err, List, [], ◌∷◌, length, arith}
use Rattle.std.specs.Prelude.{if◌then◌else◌, ◌==◌}
use Rattle.std.proofs.lemmas.Bool.{cond-true, cond-false}
use Rattle.vx_script.specs.Choice.{Choice, choice, choose, or_others}
use Rattle.vx_script.specs.Place.{IsPlace}
use Rattle.vx_script.specs.Steps.{opened_by, command_step, administered, called, line_behind}
use Rattle.vx_script.specs.declared.command.Command.{Command}
use Rattle.vx_script.proofs.Continuations.{IsChoice, choice_is}
use Rattle.vx_script.proofs.FormTables.{In, in_all, place_is, sound_acts, sound_calls, sound_commands}
use Rattle.vx_script_forms.specs.FormOf.{form_of}
use Rattle.vx_script_forms.specs.Table.{items_of, commands, calls, acts}
use Rattle.vx_script_forms.specs.Values.{group_of}
use Rattle.vx_script_forms.specs.ValuesOf.{kind_of, make_kind}
use Rattle.vx_script_forms.specs.declared.act.Act.TheVariants as act
use Rattle.vx_script_forms.specs.declared.call.Call.TheVariants as call
use Rattle.vx_script_forms.specs.declared.form.Form.{Form}
use Rattle.vx_script_forms.specs.declared.form.Form.TheVariants as form
use Rattle.vx_script_forms.specs.declared.form.WordLayout.{WordLayout}
use Rattle.vx_script_forms.specs.declared.form.WordLayout.TheVariants as layout
use Rattle.vx_script_forms.specs.declared.form.WordPolicy.TheVariants as policy
use Rattle.vx_script_forms.specs.declared.kind.Kind.{Kind}
use Rattle.vx_script_forms.specs.declared.kind.Kind.TheVariants as kind
use Rattle.vx_script_forms.proofs.Forms.{form_ok}
use Rattle.vx_script_words.specs.Row.{row, Read, and_then}
use Rattle.vx_script_words.specs.Words.{from_word}
use Rattle.vx_script_words.proofs.Sorts.{chosen}

-- ---- acts and calls

abbrev is_acting : Form → Bool
is_acting (form.Acting act) = true
is_acting f = false

abbrev is_calling : Form → Bool
is_calling (form.Calling call) = true
is_calling f = false

abbrev is_act : Kind → Bool
is_act kind.SnapMake = true
is_act kind.Reattach = true
is_act kind.Restore = true
is_act kind.Snapback = true
is_act kind.SnapbackFromReplica = true
is_act kind.PlexDet = true
is_act kind.PlexAtt = true
is_act k = false

abbrev is_call : Kind → Bool
is_call kind.Read = true
is_call kind.Fill = true
is_call kind.Data = true
is_call k = false

no_act : (words : Option WordLayout) (ncol unit : Option ℕ) → (is_act (make_kind words ncol unit) ≡ false) × (is_call (make_kind words ncol unit) ≡ false)
no_act (Some layout.Stripe) ncol unit = (refl, refl)
no_act words None None = (refl, refl)
no_act words ncol unit = (refl, refl)

-- its kind tells whether a form is an act, and whether it is a call
told : (f : Form) → (is_act (kind_of f) ≡ is_acting f) × (is_call (kind_of f) ≡ is_calling f)
told (form.AssistMake vol length a disks) = no_act a.layout a.ncol a.unit
told (form.Rdpol vol policy.Round) = (refl, refl)
told (form.Rdpol vol p) = (refl, refl)
told (form.PlexDis plex true) = (refl, refl)
told (form.Acting (act.Snapback snap true)) = (refl, refl)
told (form.Acting a) = (refl, refl)
told (form.Calling (call.Read vol start count)) = (refl, refl)
told (form.Calling c) = (refl, refl)
told f = (refl, refl)

-- ---- no kind fits

kind_in : (may_be_cut : Bool) (kinds : List Kind) (text : List ℕ) (n : ℕ) (c : Choice) → choice may_be_cut kinds text n ≡ Ok c → In c.kind kinds
kind_in may_be_cut [] text n c e = absurd cc
kind_in may_be_cut (k ∷ ks) text n c e = by_row (row may_be_cut (items_of k) text) (λ m. kind_in may_be_cut ks text m c) e
  where
    by_row : (r : Result Read ℕ) → ((m : ℕ) → choice may_be_cut ks text m ≡ Ok c → In c.kind ks) → or_others r k (choice may_be_cut ks text) n ≡ Ok c → (c.kind ≡ k) ⊎ In c.kind ks
    by_row (Ok read) others e = let same : record { kind = k; values = read.values; cut = read.cut } ≡ c = cc in inl (sym (ap (λ (x : Choice). x.kind) same))
    by_row (Err less) others e = inr (others _ e)

-- where what is chosen is never refused, a refusal is the choice's
refused : {A : Type 0} (may_be_cut : Bool) (kinds : List Kind) (text : List ℕ) (f : Choice → Result A ℕ) (left : ℕ) → ((c : Choice) → In c.kind kinds → IsChoice c → f c ≡ Err left → ⊥) → and_then (choose may_be_cut kinds text) f ≡ Err left → choose may_be_cut kinds text ≡ Err left
refused may_be_cut kinds text f left taken e = by_choice (choose may_be_cut kinds text) (λ c. kind_in may_be_cut kinds text (length (from_word text)) c) (λ c. choice_is may_be_cut kinds text (length (from_word text)) c) e
  where
    by_choice : (r : Result Choice ℕ) → ((c : Choice) → r ≡ Ok c → In c.kind kinds) → ((c : Choice) → r ≡ Ok c → IsChoice c) → and_then r f ≡ Err left → r ≡ Err left
    by_choice (Ok c) among is e = absurd (taken c (among c refl) (is c refl) e)
    by_choice (Err l) among is e = cc

opened_there : (done : List Command) (c : Choice) (left : ℕ) → IsChoice c → opened_by done (group_of c.values) (form_of c.kind c.values) c.cut ≡ Err left → ⊥
opened_there done c left h e =
    let k = form_ok c.kind c.values h.0 in
    let there = sym (ap₂ (λ (g : Option (Option (List ℕ))) (f : Option Form). opened_by done g f c.cut) k.group_is k.is) ∙ e in
    cc

administered_there : (c : Choice) (left : ℕ) → In c.kind acts → IsChoice c → administered (group_of c.values) (form_of c.kind c.values) ≡ Err left → ⊥
administered_there c left i h e =
    let k = form_ok c.kind c.values h.0 in
    by_form k.form k.group (sym (told k.form).0 ∙ ap is_act k.kind ∙ in_all is_act c.kind acts i refl) (sym (ap₂ administered k.group_is k.is) ∙ e)
  where
    by_form : (f : Form) (group : Option (List ℕ)) → is_acting f ≡ true → administered (Some group) (Some f) ≡ Err left → ⊥
    by_form (form.Acting act) group a e = cc
    by_form f group a e = cc

called_there : (session : ℕ) (c : Choice) (left : ℕ) → In c.kind calls → IsChoice c → called session (form_of c.kind c.values) ≡ Err left → ⊥
called_there session c left i h e =
    let k = form_ok c.kind c.values h.0 in
    by_form k.form (sym (told k.form).1 ∙ ap is_call k.kind ∙ in_all is_call c.kind calls i refl) (sym (ap (called session) k.is) ∙ e)
  where
    by_form : (f : Form) → is_calling f ≡ true → called session (Some f) ≡ Err left → ⊥
    by_form (form.Calling call) a e = cc
    by_form f a e = cc

-- a command line is refused at its place
pub command_place : (done : List Command) (line : List ℕ) (left : ℕ) → command_step done line ≡ Err left → IsPlace true commands line left
unfolding command_step
command_place done line left e =
    place_is true commands line left sound_commands (omega arith) (refused true commands line (λ c. opened_by done (group_of c.values) (form_of c.kind c.values) c.cut) left (λ c i h. opened_there done c left h) e)

-- what follows the session of a block's line is refused at its place
pub session_place : (session : ℕ) (text : List ℕ) (left : ℕ) → line_behind session text ≡ Err left → IsPlace false (if session == 0 then acts else calls) text left
unfolding line_behind
session_place session text left e = elim (chosen (eqb session 0) _ _ _ e) [
  | inl c ↦
      let place = place_is false acts text left sound_acts (omega arith) (refused false acts text (λ d. administered (group_of d.values) (form_of d.kind d.values)) left (λ d i h. administered_there d left i h) c.1) in
      subst (λ (ks : List Kind). IsPlace false ks text left) (sym (cond-true _ _ _ c.0)) place
  | inr c ↦
      let place = place_is false calls text left sound_calls (omega arith) (refused false calls text (λ d. called session (form_of d.kind d.values)) left (λ d i h. called_there session d left i h) c.1) in
      subst (λ (ks : List Kind). IsPlace false ks text left) (sym (cond-false _ _ _ c.0)) place
]

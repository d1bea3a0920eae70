use Rattle.std.specs.Prelude.{Ok}
use Rattle.std.proofs.Common.{◌≡◌, ◌∷◌, ◌++◌, List, ℕ, true, refl, sym, ap, subst, ◌∙◌, take, drop}
use Rattle.std.proofs.lemmas.Bool.{false≢true}
use Rattle.vx_names.specs.Attribute.{value_word, IsValueWord}
use Rattle.vx_names.specs.Place.{IsPlace}
use Rattle.vx_names.specs.Form.{begins_with, is_name}
use Rattle.vx_names.proofs.Attributes.{attr_same, value_place_front, value_of_attr, attr_parts, attr_place, not_attr, stops_unnamed, stops_unequal}
use Rattle.vx_names.proofs.attr.Attr.read.Goals as goal

pub returns-in_default-clause-only : goal.returns-in_default-clause-only
returns-in_default-clause-only c = λ a h e.
    absurd (not_attr c.args.word.now (stops_unnamed c.args.word.now c.name_front-front.result c.name_front-front.ensures.bytes (λ n. false≢true (c.in_default.ensures.form.1 n))) (a, h, e))

pub returns-in_default-clause-place : goal.returns-in_default-clause-place
returns-in_default-clause-place c =
    let stops = stops_unnamed c.args.word.now c.name_front-front.result c.name_front-front.ensures.bytes (λ n. false≢true (c.in_default.ensures.form.1 n)) in
    rw c.name_front-front.ensures.bytes (attr_place c.args.word.now stops)

pub returns-then-not-begins_with-clause-only : goal.returns-then-not-begins_with-clause-only
returns-then-not-begins_with-clause-only c = λ a h e.
    absurd (not_attr c.args.word.now (stops_unequal c.args.word.now c.name_front-front.result c.name_front-front.ensures.bytes (cc)) (a, h, e))

pub returns-then-not-begins_with-clause-place : goal.returns-then-not-begins_with-clause-place
returns-then-not-begins_with-clause-place c =
    let stops = stops_unequal c.args.word.now c.name_front-front.result c.name_front-front.ensures.bytes (cc) in
    rw c.name_front-front.ensures.bytes (attr_place c.args.word.now stops)

pub returns-in-Ok-read_value-clause-only : goal.returns-in-Ok-read_value-clause-only
returns-in-Ok-read_value-clause-only c = λ a h e.
    let named : is_name c.in-Ok.name ≡ true = ap is_name c.in-Ok.ensures.bytes ∙ c.in-Ok.ensures.form.0 refl in
    let equals : begins_with 61 (drop c.name_front-front.result c.args.word.now) ≡ true = cc in
    let parts : c.args.word.now ≡ take c.name_front-front.result c.args.word.now ++ 61 ∷ drop 1 (drop c.name_front-front.result c.args.word.now) = attr_parts c.args.word.now c.name_front-front.result equals in
    let name : c.in-Ok.name ≡ take c.name_front-front.result c.args.word.now = c.in-Ok.ensures.bytes in
    let value : value_word c.in-Ok-read_value.value ≡ drop 1 (drop c.name_front-front.result c.args.word.now) = sym c.in-Ok-read_value.ensures.spelled ∙ c.after.ensures ∙ ap (drop 1) c.after-rest.ensures in
    let word : c.args.word.now ≡ c.in-Ok.name ++ 61 ∷ value_word c.in-Ok-read_value.value = parts ∙ ap (λ (n : List ℕ). n ++ 61 ∷ drop 1 (drop c.name_front-front.result c.args.word.now)) (sym name) ∙ ap (λ (v : List ℕ). c.in-Ok.name ++ 61 ∷ v) (sym value) in
    ap Ok (attr_same c.args.word.now c.in-Ok.name c.in-Ok-read_value.value a named c.in-Ok-read_value.ensures.form h word e)

pub returns-in-Err-clause-only : goal.returns-in-Err-clause-only
returns-in-Err-clause-only c = λ a h e.
    let named : is_name (take c.name_front-front.result c.args.word.now) ≡ true = c.in-Ok.ensures.form.0 refl in
    let equals : begins_with 61 (drop c.name_front-front.result c.args.word.now) ≡ true = cc in
    let value : c.after.result.now ≡ drop 1 (drop c.name_front-front.result c.args.word.now) = c.after.ensures ∙ ap (drop 1) c.after-rest.ensures in
    let no : IsValueWord (drop 1 (drop c.name_front-front.result c.args.word.now)) → ⊥ = λ v. c.in-Err.ensures.not (subst IsValueWord (sym value) v) in
    absurd (no (value_of_attr c.args.word.now (take c.name_front-front.result c.args.word.now) (drop 1 (drop c.name_front-front.result c.args.word.now)) a named h (attr_parts c.args.word.now c.name_front-front.result equals) e))

pub returns-in-Err-clause-place : goal.returns-in-Err-clause-place
returns-in-Err-clause-place c =
    let named : is_name (take c.name_front-front.result c.args.word.now) ≡ true = c.in-Ok.ensures.form.0 refl in
    let equals : begins_with 61 (drop c.name_front-front.result c.args.word.now) ≡ true = cc in
    let value : c.after.result.now ≡ drop 1 (drop c.name_front-front.result c.args.word.now) = c.after.ensures ∙ ap (drop 1) c.after-rest.ensures in
    value_place_front c.args.word.now c.name_front-front.result c.in-Err.place c.name_front-front.ensures.bytes named equals
    (subst (λ (v : List ℕ). IsPlace IsValueWord v c.in-Err.place) value c.in-Err.ensures.place)

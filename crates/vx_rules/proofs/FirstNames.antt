-- The walk that gathers records by their names.
use Rattle.std.proofs.Common.{◌≡◌, ℕ, ◌+◌, ◌<◌, Bool, true, false, cond, ◌||◌, not, Option, Some, None, is_some, List, [], ◌∷◌, ◌++◌, length, take, drop, get_or, refl, sym, suc, ◌∙◌, ap, subst, inl, inr, add-one, if◌then◌else◌, Bor}
use Rattle.std.proofs.Math.Seq.{take-suc, drop-cons}
use Rattle.std.proofs.lemmas.Map.Text.{is_eq-slice_cmp}
use Rattle.std.specs.Cmp.Lexicographic.{slice_cmp}
use Rattle.std.specs.Option.{option_copied}
use Rattle.std.specs.Ordering.{nat_cmp, is_eq}
use Rattle.std.specs.Str.{bytes_eq}
use Rattle.vx_base.specs.Named.{Word}
use Rattle.vx_base.proofs.NamedLemmas.{bytes_eq_self, name_cases}
use Rattle.vx_config_parts.specs.declared.object.Object.{Object}
use Rattle.vx_config_parts.specs.declared.fault.ObjectFault.TheVariants.{Exists}
use Rattle.vx_config_parts.specs.Objects.{name_of}
use Rattle.vx_rules.specs.Faults.{first_some, unless}
use Rattle.vx_rules.specs.Named.{first_named}
use Rattle.vx_rules.specs.References.{has_name, repeated_after}

some_cons : {A : Type 0} (b : Bool) (x : A) (f g h : Option A) → f ≡ first_some g h → (if b then Some x else f) ≡ first_some (if b then Some x else g) h
some_cons true x f g h e = refl
some_cons false x f g h e = e

-- a record more is found where it has the name and no earlier one has
pub first_push : (name : Word) (xs : List Object) (o : Object) → first_named name (xs ++ o ∷ []) ≡ first_some (first_named name xs) (if bytes_eq (name_of o) name then Some o else None)
first_push name [] o = refl
first_push name (x ∷ xs) o = some_cons (bytes_eq (name_of x) name) x _ _ _ (first_push name xs o)

has_cons : (b : Bool) (x : Object) (t : Bool) (f : Option Object) → t ≡ is_some f → (b || t) ≡ is_some (if b then Some x else f)
has_cons true x t f e = refl
has_cons false x t f e = e

-- a name stands where a record is found by it
pub has_first : (name : Word) (xs : List Object) → has_name name xs ≡ is_some (first_named name xs)
has_first name [] = refl
has_first name (x ∷ xs) = has_cons (bytes_eq (name_of x) name) x _ _ (has_first name xs)

some_or_none : {A : Type 0} (f : Option A) → f ≡ first_some f None
some_or_none None = refl
some_or_none (Some x) = refl

found_push : (before : List Object) (o : Object) (name : Word) → first_named (name_of o) before ≡ None → cond (bytes_eq (name_of o) name) (Some o) (first_named name before) ≡ first_named name (before ++ o ∷ [])
found_push before o name absent =
    elim (name_cases (name_of o) name) [
      | inl same ↦
          let here : bytes_eq (name_of o) name ≡ true = subst (λ n. bytes_eq (name_of o) n ≡ true) same (bytes_eq_self (name_of o)) in
          let none : first_named name before ≡ None = subst (λ n. first_named n before ≡ None) same absent in
          rw (first_push name before o, none, here) refl
      | inr other ↦ rw (first_push name before o, other) (some_or_none (first_named name before))
    ]

copied_cond : {A : Type 0} (b : Bool) (r : Bor A) (old : Option (Bor A)) → option_copied (cond b (Some r) old) ≡ cond b (Some r.now) (option_copied old)
copied_cond true r old = refl
copied_cond false r old = refl

-- what the map finds once the record at the place is put
pub finds_more : (all : List Object) (i : ℕ) (r : Bor Object) (k name : Word) (new old : Option (Bor Object)) → i < length all → r.now ≡ get_or all i r.now → k ≡ name_of r.now → new ≡ cond (is_eq (slice_cmp nat_cmp k name)) (Some r) old → option_copied old ≡ first_named name (take i all) → first_named k (take i all) ≡ None → option_copied new ≡ first_named name (take (i + 1) all)
finds_more all i r k name new old lt item key is found absent =
    let none : first_named (name_of r.now) (take i all) ≡ None = subst (λ n. first_named n (take i all) ≡ None) key absent in
    let step : cond (bytes_eq (name_of r.now) name) (Some r.now) (first_named name (take i all)) ≡ first_named name (take i all ++ r.now ∷ []) = found_push (take i all) r.now name none in
    let more : take (i + 1) all ≡ take i all ++ r.now ∷ [] = rw add-one (take-suc all i r.now lt ∙ ap (λ o. take i all ++ o ∷ []) (sym item)) in
    let test : is_eq (slice_cmp nat_cmp k name) ≡ bytes_eq (name_of r.now) name = is_eq-slice_cmp k name ∙ ap (λ n. bytes_eq n name) key in
    ap option_copied is ∙ copied_cond (is_eq (slice_cmp nat_cmp k name)) r old ∙ rw (test, found, more) step

copied_is_some : {A : Type 0} (r : Option (Bor A)) → is_some (option_copied r) ≡ is_some r
copied_is_some None = refl
copied_is_some (Some x) = refl

-- an earlier record has the name where the map has found one
pub has_from_map : (name : Word) (before : List Object) (r : Option (Bor Object)) (b : Bool) → option_copied r ≡ first_named name before → is_some r ≡ b → has_name name before ≡ b
has_from_map name before r b found is = has_first name before ∙ ap is_some (sym found) ∙ copied_is_some r ∙ is

none_from_has : (f : Option Object) → is_some f ≡ false → f ≡ None
none_from_has None e = refl
none_from_has (Some x) e = cc

pub none_named : (name : Word) (before : List Object) → has_name name before ≡ false → first_named name before ≡ None
none_named name before e = none_from_has (first_named name before) (sym (has_first name before) ∙ e)

turn : (all : List Object) (i : ℕ) (o : Object) → i < length all → o ≡ get_or all i o → repeated_after (take i all) (drop i all) ≡ first_some (unless (not (has_name (name_of o) (take i all))) (Exists (name_of o))) (repeated_after (take (i + 1) all) (drop (i + 1) all))
turn all i o lt item =
    let rest : drop i all ≡ o ∷ drop (i + 1) all = drop-cons all i o lt ∙ rw add-one (ap (λ x. x ∷ drop (suc i) all) (sym item)) in
    let more : take (i + 1) all ≡ take i all ++ o ∷ [] = rw add-one (take-suc all i o lt ∙ ap (λ x. take i all ++ x ∷ []) (sym item)) in
    rw (rest, more) refl

pub repeats_here : (all : List Object) (i : ℕ) (o : Object) → i < length all → o ≡ get_or all i o → has_name (name_of o) (take i all) ≡ true → repeated_after (take i all) (drop i all) ≡ Some (Exists (name_of o))
repeats_here all i o lt item has = turn all i o lt item ∙ rw has refl

pub repeats_later : (all : List Object) (i : ℕ) (o : Object) → i < length all → o ≡ get_or all i o → has_name (name_of o) (take i all) ≡ false → repeated_after (take (i + 1) all) (drop (i + 1) all) ≡ repeated_after (take i all) (drop i all)
repeats_later all i o lt item has = sym (turn all i o lt item ∙ rw has refl)

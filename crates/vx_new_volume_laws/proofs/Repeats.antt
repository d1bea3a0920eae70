-- Records whose names are new, behind others.
use Rattle.std.proofs.Common.{◌≡◌, Bool, true, false, not, Option, Some, None, List, [], ◌∷◌, ◌++◌, map, refl, sym, ap, ◌∙◌, subst, inl, inr, append_assoc, append-nil}
use Rattle.std.specs.Str.{bytes_eq}
use Rattle.std.proofs.lemmas.Bool.{false≢true, false_from_ne_true, not_from_false, not-true}
use Rattle.std.proofs.lemmas.List.{map-append}
use Rattle.vx_base.specs.Named.{Word}
use Rattle.vx_base.proofs.NamedLemmas.{bytes_eq_self, bytes_eq_same}
use Rattle.vx_config_parts.specs.declared.object.Object.{Object}
use Rattle.vx_config_parts.specs.declared.fault.ObjectFault.{ObjectFault}
use Rattle.vx_config_parts.specs.declared.fault.ObjectFault.TheVariants.{Exists}
use Rattle.vx_config_parts.specs.Objects.{name_of}
use Rattle.vx_rules.specs.Adding.{firsts, firsts_after}
use Rattle.vx_rules.specs.Faults.{first_of, first_some, unless}
use Rattle.vx_rules.specs.References.{has_name, repeated_after}
use Rattle.vx_objects.proofs.OneGroup.{first_none, second_none, unless_none}
use Rattle.vx_image.proofs.PlexMembers.{IsIn, any_in, in_any, in_map, from_map, in_either}
use Rattle.vx_new_volumes.specs.Naming.{is_known}
use Rattle.vx_new_volume_laws.proofs.Behind.{AreOnce}

pub both_none : {A : Type 0} (a b : Option A) → a ≡ None → b ≡ None → first_some a b ≡ None
both_none None b e f = f
both_none (Some x) b e f = cc

pub unless_true : {A : Type 0} (holds : Bool) (x : A) → holds ≡ true → unless holds x ≡ None
unless_true true x e = refl
unless_true false x e = cc

-- where no record breaks a rule, none is found that does
pub none_found : (rule : Object → Option ObjectFault) (os : List Object) → ((o : Object) → IsIn os o → rule o ≡ None) → first_of rule os ≡ None
none_found rule [] each = refl
none_found rule (o ∷ os) each = both_none (rule o) (first_of rule os) (each o (inl refl)) (none_found rule os (λ p there. each p (inr there)))

pub not_known : (known : List Word) (w : Word) → is_known known w ≡ false → IsIn known w → ⊥
not_known known w e there = false≢true (sym e ∙ in_any (λ n. bytes_eq n w) known w there (bytes_eq_self w))

pub name_had : (os : List Object) (w : Word) → has_name w os ≡ true → IsIn (map name_of os) w
name_had os w h =
    let r = any_in (λ o. bytes_eq (name_of o) w) os h in
    subst (λ (v : Word). IsIn (map name_of os) v) (bytes_eq_same (name_of r.0) w r.2) (in_map name_of os r.0 r.1)

pub no_name : (os : List Object) (w : Word) → (IsIn (map name_of os) w → ⊥) → has_name w os ≡ false
no_name os w out = false_from_ne_true _ (λ h. out (name_had os w h))

pub not_had : (os : List Object) (w : Word) → has_name w os ≡ false → IsIn (map name_of os) w → ⊥
not_had os w e there =
    let r = from_map name_of os w there in
    false≢true (sym e ∙ in_any (λ o. bytes_eq (name_of o) w) os r.0 r.1 (subst (λ (v : Word). bytes_eq (name_of r.0) v ≡ true) (sym r.2) (bytes_eq_self (name_of r.0))))

pub repeated_append : (before xs ys : List Object) → repeated_after before xs ≡ None → repeated_after (before ++ xs) ys ≡ None → repeated_after before (xs ++ ys) ≡ None
repeated_append before [] ys e f = subst (λ (l : List Object). repeated_after l ys ≡ None) (append-nil before) f
repeated_append before (x ∷ xs) ys e f =
    let here : Option ObjectFault = unless (not (has_name (name_of x) before)) (Exists (name_of x)) in
    both_none here (repeated_after (before ++ x ∷ []) (xs ++ ys)) (first_none here (repeated_after (before ++ x ∷ []) xs) e)
    (repeated_append (before ++ x ∷ []) xs ys (second_none here (repeated_after (before ++ x ∷ []) xs) e) (subst (λ (l : List Object). repeated_after l ys ≡ None) (sym (append_assoc before (x ∷ []) xs)) f))

-- no name of theirs stands before them, or twice
pub repeated_new : (before os : List Object) → ((w : Word) → IsIn (map name_of os) w → IsIn (map name_of before) w → ⊥) → AreOnce (map name_of os) → repeated_after before os ≡ None
repeated_new before [] new once = refl
repeated_new before (o ∷ os) new once =
    both_none (unless (not (has_name (name_of o) before)) (Exists (name_of o))) (repeated_after (before ++ o ∷ []) os)
    (unless_true (not (has_name (name_of o) before)) (Exists (name_of o)) (not_from_false (has_name (name_of o) before) (no_name before (name_of o) (new (name_of o) (inl refl)))))
    (repeated_new (before ++ o ∷ []) os later once.1)
  where
    later : (w : Word) → IsIn (map name_of os) w → IsIn (map name_of (before ++ o ∷ [])) w → ⊥
    later w there had = elim (in_either (map name_of before) (name_of o ∷ []) w (subst (λ (l : List Word). IsIn l w) (map-append name_of before (o ∷ [])) had)) [
      | inl old ↦ new w (inr there) old
      | inr own ↦ by own
    ]
      where
        by : IsIn (name_of o ∷ []) w → ⊥
        by (inl same) = once.0 w there (sym same)
        by (inr none) = none

-- ---- names that differ

keep_all : (b : Bool) (before os : List Object) (o : Object) → b ≡ false → firsts_after (before ++ o ∷ []) os ≡ os → has_name (name_of o) before ≡ b → firsts_after before (o ∷ os) ≡ o ∷ os
keep_all b before os o e rest is = rw (is ∙ e) (ap (λ (l : List Object). o ∷ l) rest)

firsts_from : (before os : List Object) → repeated_after before os ≡ None → firsts_after before os ≡ os
firsts_from before [] e = refl
firsts_from before (o ∷ os) e =
    let here : Option ObjectFault = unless (not (has_name (name_of o) before)) (Exists (name_of o)) in
    let free = not-true (has_name (name_of o) before) (unless_none (not (has_name (name_of o) before)) (Exists (name_of o)) (first_none here (repeated_after (before ++ o ∷ []) os) e)) in
    keep_all false before os o refl (firsts_from (before ++ o ∷ []) os (second_none here (repeated_after (before ++ o ∷ []) os) e)) free

-- where names differ, each record is the first of its name
pub all_firsts : (all : List Object) → repeated_after [] all ≡ None → firsts all ≡ all
unfolding firsts
all_firsts all e = firsts_from [] all e

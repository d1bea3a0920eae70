-- Names differ exactly where no name is had twice.
use Rattle.std.proofs.Common.{◌≡◌, ℕ, ◌+◌, ◌<◌, ◌≤◌, Bool, true, false, not, cond, nat_lt, Some, None, List, [], ◌∷◌, ◌++◌, refl, sym, ◌∙◌, ap, subst, arith, add-zero, append-nil, append_assoc}
use Rattle.std.specs.List.{count_by}
use Rattle.std.specs.Str.{bytes_eq}
use Rattle.std.proofs.lemmas.Bool.Decides.{nat_tests}
use Rattle.vx_base.specs.Named.{Word}
use Rattle.vx_base.proofs.NamedLemmas.{bytes_eq_self, bytes_eq_same}
use Rattle.vx_config_parts.specs.declared.object.Object.{Object}
use Rattle.vx_config_parts.specs.declared.fault.ObjectFault.{ObjectFault}
use Rattle.vx_config_parts.specs.declared.fault.ObjectFault.TheVariants.{Exists}
use Rattle.vx_config_parts.specs.Objects.{name_of}
use Rattle.vx_rules.specs.Faults.{unless, first_some}
use Rattle.vx_rules.specs.References.{has_name, repeated_after}
use Rattle.vx_objects.proofs.OneGroup.{first_none, second_none, unless_none}
use Rattle.vx_plan_laws.proofs.Counts.{count_cons, count_append, any_counts, none_counted, not_true}
use Rattle.vx_plan_laws.proofs.FirstRefusals.{both_none, unless_true}

-- how many records have the name
abbrev pub had_by : Word → List Object → ℕ
had_by name all = count_by (λ o. bytes_eq (name_of o) name) all

-- no name is had twice
abbrev pub AreOnce : List Object → Type 0
AreOnce all = (name : Word) → had_by name all ≤ 1

had_last : (name : Word) (before : List Object) (o : Object) → had_by name (before ++ o ∷ []) ≡ had_by name before + cond (bytes_eq (name_of o) name) 1 0
had_last name before o =
    count_append (λ o. bytes_eq (name_of o) name) before (o ∷ [])
    ∙ ap (λ (n : ℕ). had_by name before + n) (count_cons (λ o. bytes_eq (name_of o) name) o [] ∙ add-zero (cond (bytes_eq (name_of o) name) 1 0))

none_had : (name : Word) (all : List Object) → has_name name all ≡ false → had_by name all ≡ 0
none_had name all e = none_counted (λ o. bytes_eq (name_of o) name) all e

some_had : (n : ℕ) → nat_lt 0 n ≡ true → 0 < n
some_had n e = grind (arith, nat_tests)

pub has_had : (name : Word) (all : List Object) → has_name name all ≡ true → 0 < had_by name all
has_had name all e = some_had (had_by name all) (sym (any_counts (λ o. bytes_eq (name_of o) name) all) ∙ e)

none_has : (name : Word) (all : List Object) → had_by name all ≡ 0 → has_name name all ≡ false
none_has name all e = any_counts (λ o. bytes_eq (name_of o) name) all ∙ ap (λ (n : ℕ). nat_lt 0 n) e

-- a record more, of a new name
pub once_more : (before : List Object) (o : Object) → AreOnce before → has_name (name_of o) before ≡ false → AreOnce (before ++ o ∷ [])
once_more before o once new name = by (bytes_eq (name_of o) name) refl
  where
    by : (b : Bool) → bytes_eq (name_of o) name ≡ b → had_by name (before ++ o ∷ []) ≤ 1
    by true e =
        let none : had_by name before ≡ 0 = none_had name before (subst (λ (n : Word). has_name n before ≡ false) (bytes_eq_same (name_of o) name e) new) in
        let last : had_by name (before ++ o ∷ []) ≡ had_by name before + 1 = had_last name before o ∙ ap (λ (b : Bool). had_by name before + cond b 1 0) e in
        omega arith
    by false e =
        let before_ : had_by name before ≤ 1 = once name in
        let last : had_by name (before ++ o ∷ []) ≡ had_by name before + 0 = had_last name before o ∙ ap (λ (b : Bool). had_by name before + cond b 1 0) e in
        omega arith

pub new_name : (before os : List Object) (o : Object) → repeated_after before (o ∷ os) ≡ None → has_name (name_of o) before ≡ false
new_name before os o e =
    not_true (has_name (name_of o) before)
    (unless_none (not (has_name (name_of o) before)) (Exists (name_of o))
    (first_none (unless (not (has_name (name_of o) before)) (Exists (name_of o))) (repeated_after (before ++ o ∷ []) os) e))

once_from : (before os : List Object) → repeated_after before os ≡ None → AreOnce before → AreOnce (before ++ os)
once_from before [] e once = subst AreOnce (sym (append-nil before)) once
once_from before (o ∷ os) e once =
    subst AreOnce (append_assoc before (o ∷ []) os)
    (once_from (before ++ o ∷ []) os (second_none (unless (not (has_name (name_of o) before)) (Exists (name_of o))) (repeated_after (before ++ o ∷ []) os) e) (once_more before o once (new_name before os o e)))

pub once : (all : List Object) → repeated_after [] all ≡ None → AreOnce all
once all e = once_from [] all e (λ name. omega arith)

-- the name of a record is had by those before it, by itself, and by those behind
had_within : (before os : List Object) (o : Object) → had_by (name_of o) (before ++ o ∷ os) ≡ had_by (name_of o) before + (1 + had_by (name_of o) os)
had_within before os o =
    let own : bytes_eq (name_of o) (name_of o) ≡ true = bytes_eq_self (name_of o) in
    count_append (λ x. bytes_eq (name_of x) (name_of o)) before (o ∷ os)
    ∙ ap (λ (n : ℕ). had_by (name_of o) before + n) (count_cons (λ x. bytes_eq (name_of x) (name_of o)) o os ∙ ap (λ (b : Bool). cond b 1 0 + had_by (name_of o) os) own)

front_none : (a b : ℕ) → a + (1 + b) ≤ 1 → a ≡ 0
front_none a b h = omega arith

none_from : (before os : List Object) → AreOnce (before ++ os) → repeated_after before os ≡ None
none_from before [] once = refl
none_from before (o ∷ os) once =
    let new : has_name (name_of o) before ≡ false = none_has (name_of o) before (front_none (had_by (name_of o) before) (had_by (name_of o) os) (subst (λ (n : ℕ). n ≤ 1) (had_within before os o) (once (name_of o)))) in
    both_none (unless (not (has_name (name_of o) before)) (Exists (name_of o))) (repeated_after (before ++ o ∷ []) os)
    (unless_true (not (has_name (name_of o) before)) (Exists (name_of o)) (ap not new))
    (none_from (before ++ o ∷ []) os (subst AreOnce (sym (append_assoc before (o ∷ []) os)) once))

pub none_repeated : (all : List Object) → AreOnce all → repeated_after [] all ≡ None
none_repeated all once = none_from [] all once

both_there : (a b : ℕ) → 0 < a → 2 ≤ a + (1 + b)
both_there a b h = omega arith

-- what is answered is a name that is had twice
abbrev pub IsTwice : List Object → ObjectFault → Type 0
IsTwice all fault = (name : Word) × (fault ≡ Exists name) × (2 ≤ had_by name all)

twice_from : (before os : List Object) (fault : ObjectFault) → repeated_after before os ≡ Some fault → IsTwice (before ++ os) fault
twice_from before [] fault e = cc
twice_from before (o ∷ os) fault e = by (has_name (name_of o) before) refl e (twice_from (before ++ o ∷ []) os fault)
  where
    by : (b : Bool) → has_name (name_of o) before ≡ b → first_some (unless (not b) (Exists (name_of o))) (repeated_after (before ++ o ∷ []) os) ≡ Some fault
        → (repeated_after (before ++ o ∷ []) os ≡ Some fault → IsTwice ((before ++ o ∷ []) ++ os) fault) → IsTwice (before ++ o ∷ os) fault
    by true has e more =
        let same : fault ≡ Exists (name_of o) = cc in
        (name_of o, same, subst (λ (n : ℕ). 2 ≤ n) (sym (had_within before os o)) (both_there (had_by (name_of o) before) (had_by (name_of o) os) (has_had (name_of o) before has)))
    by false has e more = subst (λ (l : List Object). IsTwice l fault) (append_assoc before (o ∷ []) os) (more e)

pub twice : (all : List Object) (fault : ObjectFault) → repeated_after [] all ≡ Some fault → IsTwice all fault
twice all fault e = twice_from [] all fault e

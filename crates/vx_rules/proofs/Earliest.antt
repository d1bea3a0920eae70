-- The walk that keeps the first record of each name.
use Rattle.std.proofs.Common.{◌≡◌, ◌∙◌, ℕ, ◌+◌, ◌<◌, Bool, true, false, cond, not, ◌||◌, Option, Some, None, is_some, List, [], ◌∷◌, ◌++◌, length, drop, get_or, refl, sym, suc, ap, subst, add-one}
use Rattle.std.proofs.Math.Seq.{drop-cons}
use Rattle.std.proofs.lemmas.List.{append-nil, append_assoc}
use Rattle.std.proofs.lemmas.Map.Text.{is_eq-slice_cmp}
use Rattle.std.specs.Cmp.Lexicographic.{slice_cmp}
use Rattle.std.specs.Ordering.{nat_cmp, is_eq}
use Rattle.std.specs.Str.{bytes_eq}
use Rattle.vx_base.specs.Named.{Word}
use Rattle.vx_base.proofs.NamedLemmas.{bytes_eq_same}
use Rattle.vx_config_parts.specs.declared.object.Object.{Object}
use Rattle.vx_config_parts.specs.declared.fault.ObjectFault.TheVariants.{Exists}
use Rattle.vx_config_parts.specs.Objects.{name_of}
use Rattle.vx_rules.specs.Adding.{firsts_after}
use Rattle.vx_rules.specs.Faults.{unless}
use Rattle.vx_rules.specs.References.{has_name, repeated_after}
use Rattle.vx_rules.proofs.Lookups.{first_none, second_none}

-- with the record behind, unless its name is there already
abbrev pub pushed_unless : Bool → Object → List Object → List Object
pushed_unless is_there o out = cond is_there out (out ++ o ∷ [])

pub pushed : (is_there : Bool) (o : Object) (out new : List Object) → is_there ≡ false → new ≡ out ++ o ∷ [] → new ≡ pushed_unless is_there o out
pushed is_there o out new none is = rw none is

pub passed : (is_there : Bool) (o : Object) (out new : List Object) → is_there ≡ true → new ≡ out → new ≡ pushed_unless is_there o out
passed is_there o out new some is = rw some is

-- names differ still behind a record of a new name
repeated_push : (before xs : List Object) (o : Object) → repeated_after before xs ≡ None → has_name (name_of o) (before ++ xs) ≡ false → repeated_after before (xs ++ o ∷ []) ≡ None
repeated_push before [] o e new =
    let absent : has_name (name_of o) before ≡ false = subst (λ l. has_name (name_of o) l ≡ false) (append-nil before) new in
    rw absent refl
repeated_push before (x ∷ xs) o e new =
    let here = first_none (unless (not (has_name (name_of x) before)) (Exists (name_of x))) (repeated_after (before ++ x ∷ []) xs) e in
    let later = second_none (unless (not (has_name (name_of x) before)) (Exists (name_of x))) (repeated_after (before ++ x ∷ []) xs) e in
    rw here (repeated_push (before ++ x ∷ []) xs o later (subst (λ l. has_name (name_of o) l ≡ false) (sym (append_assoc before (x ∷ []) xs)) new))

by_name : (b : Bool) (o : Object) (out rest : List Object) → has_name (name_of o) out ≡ b
    → pushed_unless b o out ++ firsts_after (pushed_unless b o out) rest ≡ out ++ firsts_after out (o ∷ rest)
by_name true o out rest has = rw has refl
by_name false o out rest has = rw has (append_assoc out (o ∷ []) (firsts_after (out ++ o ∷ []) rest))

-- the walk goes on behind a record
pub goes_on : (all out : List Object) (i : ℕ) (o : Object) (b : Bool) → i < length all → o ≡ get_or all i o → has_name (name_of o) out ≡ b
    → pushed_unless b o out ++ firsts_after (pushed_unless b o out) (drop (i + 1) all) ≡ out ++ firsts_after out (drop i all)
goes_on all out i o b lt item has =
    let rest : drop i all ≡ o ∷ drop (i + 1) all = drop-cons all i o lt ∙ rw add-one (ap (λ x. x ∷ drop (suc i) all) (sym item)) in
    by_name b o out (drop (i + 1) all) has ∙ ap (λ l. out ++ firsts_after out l) (sym rest)

pub still_differ : (out : List Object) (o : Object) (b : Bool) → repeated_after [] out ≡ None → has_name (name_of o) out ≡ b → repeated_after [] (pushed_unless b o out) ≡ None
still_differ out o true e has = e
still_differ out o false e has = repeated_push [] out o e has

or_false : (b : Bool) → (b || false) ≡ b
or_false true = refl
or_false false = refl

or_assoc : (a b c : Bool) → (a || (b || c)) ≡ ((a || b) || c)
or_assoc true b c = refl
or_assoc false b c = refl

or_swap : (a b : Bool) → (a || b) ≡ (b || a)
or_swap true b = by b
  where
    by : (b : Bool) → true ≡ (b || true)
    by true = refl
    by false = refl
or_swap false b = sym (or_false b)

or_more : (a b c : Bool) → b ≡ c → (a || b) ≡ (a || c)
or_more a b c e = ap (λ x. a || x) e

has_push : (name : Word) (out : List Object) (o : Object) → has_name name (out ++ o ∷ []) ≡ (has_name name out || bytes_eq (name_of o) name)
has_push name [] o = or_false (bytes_eq (name_of o) name)
has_push name (x ∷ xs) o = or_more (bytes_eq (name_of x) name) _ _ (has_push name xs o) ∙ or_assoc (bytes_eq (name_of x) name) (has_name name xs) (bytes_eq (name_of o) name)

some_cond : {A : Type 0} (b : Bool) (x : A) (old : Option A) → is_some (cond b (Some x) old) ≡ (b || is_some old)
some_cond true x old = refl
some_cond false x old = refl

or_held : (a b : Bool) → (a ≡ true → b ≡ true) → (a || b) ≡ b
or_held true b f = sym (f refl)
or_held false b f = refl

by_push : (b : Bool) (name : Word) (out : List Object) (o : Object) → has_name (name_of o) out ≡ b → (bytes_eq (name_of o) name || has_name name out) ≡ has_name name (pushed_unless b o out)
by_push true name out o has = or_held (bytes_eq (name_of o) name) (has_name name out) (λ same. subst (λ n. has_name n out ≡ true) (bytes_eq_same (name_of o) name same) has)
by_push false name out o has = or_swap (bytes_eq (name_of o) name) (has_name name out) ∙ sym (has_push name out o)

-- the map has the names of the records that are kept
pub finds_more : {A : Type 0} (out : List Object) (o : Object) (b : Bool) (k name : Word) (x : A) (new old : Option A) → k ≡ name_of o → new ≡ cond (is_eq (slice_cmp nat_cmp k name)) (Some x) old → is_some old ≡ has_name name out → has_name (name_of o) out ≡ b → is_some new ≡ has_name name (pushed_unless b o out)
finds_more out o b k name x new old key is found has =
    let test : is_eq (slice_cmp nat_cmp k name) ≡ bytes_eq (name_of o) name = is_eq-slice_cmp k name ∙ ap (λ n. bytes_eq n name) key in
    ap is_some is ∙ some_cond (is_eq (slice_cmp nat_cmp k name)) x old ∙ rw (test, found) (by_push b name out o has)

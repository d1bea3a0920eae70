-- What is among records, and that records of one name are one where names differ.
use Rattle.std.proofs.Common.{◌≡◌, Bool, true, false, not, cond, None, List, [], ◌∷◌, ◌++◌, map, refl, sym, ◌∙◌, ap, subst, inl, inr}
use Rattle.std.specs.List.{list_any, filter, filter_map}
use Rattle.std.specs.Str.{bytes_eq}
use Rattle.std.proofs.lemmas.Bool.{or_parts, or_left, or_right, or_cases}
use Rattle.std.proofs.lemmas.List.Folds.{list_any-append}
use Rattle.vx_base.specs.Named.{Word}
use Rattle.vx_base.proofs.NamedLemmas.{bytes_eq_self}
use Rattle.vx_config_parts.specs.declared.fault.ObjectFault.TheVariants.{Exists}
use Rattle.vx_config_parts.specs.declared.object.Object.{Object}
use Rattle.vx_config_parts.specs.declared.object.Object.TheVariants.{PlexRecord, VolRecord}
use Rattle.vx_config_parts.specs.declared.plex.Plex.{Plex}
use Rattle.vx_config_parts.specs.declared.vol.Vol.{Vol}
use Rattle.vx_config_parts.specs.Objects.{name_of}
use Rattle.vx_rules.specs.Faults.{unless}
use Rattle.vx_rules.specs.References.{has_name, repeated_after}
use Rattle.vx_objects.proofs.OneGroup.{first_none, second_none, unless_none}
use Rattle.vx_objects.specs.Parts.{as_plex, as_vol}
use Rattle.vx_state_edits.specs.Laws.{IsAmong}

-- ---- lists

module _ {X : Type 0} where
  pub among_left : (xs ys : List X) (x : X) → IsAmong xs x → IsAmong (xs ++ ys) x
  among_left [] ys x m = elim m [ ]
  among_left (y ∷ xs) ys x (inl e) = inl e
  among_left (y ∷ xs) ys x (inr m) = inr (among_left xs ys x m)

  pub among_right : (xs ys : List X) (x : X) → IsAmong ys x → IsAmong (xs ++ ys) x
  among_right [] ys x m = m
  among_right (y ∷ xs) ys x m = inr (among_right xs ys x m)

  pub among_map : {Y : Type 0} (f : X → Y) (xs : List X) (x : X) → IsAmong xs x → IsAmong (map f xs) (f x)
  among_map f [] x m = elim m [ ]
  among_map f (y ∷ xs) x (inl e) = inl (ap f e)
  among_map f (y ∷ xs) x (inr m) = inr (among_map f xs x m)

  pub any_among : (t : X → Bool) (xs : List X) (x : X) → IsAmong xs x → t x ≡ true → list_any t xs ≡ true
  any_among t [] x m is = elim m [ ]
  any_among t (y ∷ xs) x (inl e) is = or_left (t y) (list_any t xs) (ap t (sym e) ∙ is)
  any_among t (y ∷ xs) x (inr m) is = or_right (t y) (list_any t xs) (any_among t xs x m is)

  pub any_from : (t : X → Bool) (xs : List X) → list_any t xs ≡ true → (x : X) × IsAmong xs x × (t x ≡ true)
  any_from t [] e = absurd (cc)
  any_from t (y ∷ xs) e =
      elim (or_cases (t y) (list_any t xs) e) [
        | inl here ↦ (y, inl refl, here)
        | inr more ↦ let r = any_from t xs more in (r.0, inr r.1, r.2)
      ]

  pub in_filter : (t : X → Bool) (xs : List X) (x : X) → IsAmong xs x → t x ≡ true → IsAmong (filter t xs) x
  in_filter t [] x m is = elim m [ ]
  in_filter t (y ∷ xs) x (inl e) is = by (t y) (ap t (sym e) ∙ is)
    where
      by : (b : Bool) → b ≡ true → IsAmong (cond b (y ∷ filter t xs) (filter t xs)) x
      by true is = inl e
      by false is = cc
  in_filter t (y ∷ xs) x (inr m) is = by (t y) (in_filter t xs x m is)
    where
      by : (b : Bool) → IsAmong (filter t xs) x → IsAmong (cond b (y ∷ filter t xs) (filter t xs)) x
      by true m = inr m
      by false m = m

  pub from_filter : (t : X → Bool) (xs : List X) (x : X) → IsAmong (filter t xs) x → IsAmong xs x × (t x ≡ true)
  from_filter t [] x m = elim m [ ]
  from_filter t (y ∷ xs) x m = by (t y) refl (from_filter t xs x) m
    where
      by : (b : Bool) → t y ≡ b → (IsAmong (filter t xs) x → IsAmong xs x × (t x ≡ true)) → IsAmong (cond b (y ∷ filter t xs) (filter t xs)) x → IsAmong (y ∷ xs) x × (t x ≡ true)
      by true is more (inl e) = (inl e, ap t e ∙ is)
      by true is more (inr m) = let r = more m in (inr r.0, r.1)
      by false is more m = let r = more m in (inr r.0, r.1)

  pub map_alike : {Y : Type 0} (f h : X → Y) (xs : List X) → ((x : X) → IsAmong xs x → f x ≡ h x) → map f xs ≡ map h xs
  map_alike f h [] like = refl
  map_alike f h (x ∷ xs) like = λ i. like x (inl refl) i ∷ map_alike f h xs (λ y m. like y (inr m)) i

-- ---- records of one kind

pub plex_among : (os : List Object) (p : Plex) → IsAmong os (PlexRecord p) → IsAmong (filter_map as_plex os) p
plex_among [] p m = elim m [ ]
plex_among (PlexRecord q ∷ os) p (inl e) = inl (cc)
plex_among (PlexRecord q ∷ os) p (inr m) = inr (plex_among os p m)
plex_among (o ∷ os) p (inl e) = absurd (cc)
plex_among (o ∷ os) p (inr m) = plex_among os p m

pub vol_among : (os : List Object) (v : Vol) → IsAmong os (VolRecord v) → IsAmong (filter_map as_vol os) v
vol_among [] v m = elim m [ ]
vol_among (VolRecord w ∷ os) v (inl e) = inl (cc)
vol_among (VolRecord w ∷ os) v (inr m) = inr (vol_among os v m)
vol_among (o ∷ os) v (inl e) = absurd (cc)
vol_among (o ∷ os) v (inr m) = vol_among os v m

-- ---- names that differ

not_true : (b : Bool) → not b ≡ true → b ≡ false
not_true true e = cc
not_true false e = refl

fresh : (before os : List Object) (o : Object) → repeated_after before (o ∷ os) ≡ None → has_name (name_of o) before ≡ false
fresh before os o e =
    not_true (has_name (name_of o) before)
    (unless_none (not (has_name (name_of o) before)) (Exists (name_of o)) (first_none (unless (not (has_name (name_of o) before)) (Exists (name_of o))) (repeated_after (before ++ o ∷ []) os) e))

later : (before os : List Object) (o : Object) → repeated_after before (o ∷ os) ≡ None → repeated_after (before ++ o ∷ []) os ≡ None
later before os o e = second_none (unless (not (has_name (name_of o) before)) (Exists (name_of o))) (repeated_after (before ++ o ∷ []) os) e

-- no record behind has the name of one before
unnamed : (before os : List Object) → repeated_after before os ≡ None → (p : Object) → IsAmong os p → has_name (name_of p) before ≡ false
unnamed before [] e p m = elim m [ ]
unnamed before (o ∷ os) e p (inl is) = ap (λ (x : Object). has_name (name_of x) before) is ∙ fresh before os o e
unnamed before (o ∷ os) e p (inr m) =
    let none : has_name (name_of p) (before ++ o ∷ []) ≡ false = unnamed (before ++ o ∷ []) os (later before os o e) p m in
    let parts = or_parts (has_name (name_of p) before) (has_name (name_of p) (o ∷ [])) (sym (list_any-append (λ x. bytes_eq (name_of x) (name_of p)) before (o ∷ [])) ∙ none) in
    parts.0

-- nor has it the name of the record in front
apart : (before os : List Object) (o : Object) → repeated_after before (o ∷ os) ≡ None → (p : Object) → IsAmong os p → name_of o ≡ name_of p → ⊥
apart before os o e p m same =
    let none : has_name (name_of p) (before ++ o ∷ []) ≡ false = unnamed (before ++ o ∷ []) os (later before os o e) p m in
    let parts = or_parts (has_name (name_of p) before) (has_name (name_of p) (o ∷ [])) (sym (list_any-append (λ x. bytes_eq (name_of x) (name_of p)) before (o ∷ [])) ∙ none) in
    let here = or_parts (bytes_eq (name_of o) (name_of p)) false parts.1 in
    let is : bytes_eq (name_of o) (name_of p) ≡ true = subst (λ (n : Word). bytes_eq n (name_of p) ≡ true) (sym same) (bytes_eq_self (name_of p)) in
    let off : bytes_eq (name_of o) (name_of p) ≡ false = here.0 in
    cc

one_from : (before os : List Object) → repeated_after before os ≡ None → (o p : Object) → IsAmong os o → IsAmong os p → name_of o ≡ name_of p → o ≡ p
one_from before [] e o p m n same = elim m [ ]
one_from before (x ∷ os) e o p (inl a) (inl b) same = a ∙ sym b
one_from before (x ∷ os) e o p (inl a) (inr n) same = absurd (apart before os x e p n (ap name_of (sym a) ∙ same))
one_from before (x ∷ os) e o p (inr m) (inl b) same = absurd (apart before os x e o m (ap name_of (sym b) ∙ sym same))
one_from before (x ∷ os) e o p (inr m) (inr n) same = one_from (before ++ x ∷ []) os (later before os x e) o p m n same

-- two records of one name are one
pub one_record : (os : List Object) → repeated_after [] os ≡ None → (o p : Object) → IsAmong os o → IsAmong os p → name_of o ≡ name_of p → o ≡ p
one_record os differ o p m n same = one_from [] os differ o p m n same

-- Elements of lists, and tests that they pass.
use Rattle.std.proofs.Common.{◌≡◌, ◌⊎◌, ℕ, zero, suc, length, get_or, ◌+◌, ◌<◌, ◌≤◌, Bool, true, false, cond, not, List, [], ◌∷◌, ◌++◌, map, Option, None, refl, sym, ◌∙◌, ap, subst, inl, inr, arith}
use Rattle.std.specs.List.{list_any, list_all, count_by}
use Rattle.std.specs.Str.{bytes_eq}
use Rattle.std.proofs.lemmas.Bool.{false≢true, and_parts, or_cases, or_left, or_right}
use Rattle.vx_base.proofs.NamedLemmas.{bytes_eq_self}
use Rattle.vx_config_parts.specs.declared.object.Object.{Object}
use Rattle.vx_config_parts.specs.declared.object.Object.TheVariants.{DiskRecord, SubdiskRecord, PlexRecord, VolRecord, DcoRecord, SnapRecord}
use Rattle.vx_config_parts.specs.declared.subdisk.Subdisk.{Subdisk}
use Rattle.vx_config_parts.specs.declared.disk.Disk.{Disk}
use Rattle.vx_config_parts.specs.declared.plex.Plex.{Plex}
use Rattle.vx_config_parts.specs.declared.vol.Vol.{Vol}
use Rattle.vx_config_parts.specs.declared.fault.ObjectFault.{ObjectFault}
use Rattle.vx_config_parts.specs.declared.fault.ObjectFault.TheVariants.{Exists}
use Rattle.vx_config_parts.specs.Objects.{is_subdisk, is_disk, is_vol, name_of}
use Rattle.vx_rules.proofs.ListTests.{count_more}
use Rattle.vx_rules.specs.Faults.{unless, first_of}
use Rattle.vx_rules.specs.References.{has_name, repeated_after}
use Rattle.vx_objects.proofs.OneGroup.{first_none, second_none, unless_none}
use Rattle.vx_objects.specs.declared.config.Config.{Config}
use Rattle.vx_objects.specs.Config.{objects_of}
use Rattle.vx_image.specs.Once.{IsOneOf}
use Rattle.vx_image.specs.Lies.{IsPlexOf}

-- the element is one of these
abbrev pub IsIn : {A : Type 0} → List A → A → Type 0
IsIn [] x = ⊥
IsIn (y ∷ ys) x = (x ≡ y) ⊎ IsIn ys x

pub in_left : {A : Type 0} (xs ys : List A) (x : A) → IsIn xs x → IsIn (xs ++ ys) x
in_left [] ys x h = absurd h
in_left (y ∷ xs) ys x (inl h) = inl h
in_left (y ∷ xs) ys x (inr h) = inr (in_left xs ys x h)

pub in_right : {A : Type 0} (xs ys : List A) (x : A) → IsIn ys x → IsIn (xs ++ ys) x
in_right [] ys x h = h
in_right (y ∷ xs) ys x h = inr (in_right xs ys x h)

pub in_either : {A : Type 0} (xs ys : List A) (x : A) → IsIn (xs ++ ys) x → IsIn xs x ⊎ IsIn ys x
in_either [] ys x h = inr h
in_either (y ∷ xs) ys x (inl h) = inl (inl h)
in_either (y ∷ xs) ys x (inr h) = elim (in_either xs ys x h) [ inl a ↦ inl (inr a) | inr b ↦ inr b ]

pub in_map : {A B : Type 0} (f : A → B) (xs : List A) (x : A) → IsIn xs x → IsIn (map f xs) (f x)
in_map f [] x h = absurd h
in_map f (y ∷ xs) x (inl h) = inl (ap f h)
in_map f (y ∷ xs) x (inr h) = inr (in_map f xs x h)

pub from_map : {A B : Type 0} (f : A → B) (xs : List A) (b : B) → IsIn (map f xs) b → (x : A) × IsIn xs x × (b ≡ f x)
from_map f [] b h = absurd h
from_map f (y ∷ xs) b (inl h) = (y, inl refl, h)
from_map f (y ∷ xs) b (inr h) = let r = from_map f xs b h in (r.0, inr r.1, r.2)

pub one_in : (os : List Object) (o : Object) → IsOneOf os o → IsIn os o
one_in [] o h = h
one_in (p ∷ os) o (inl h) = inl h
one_in (p ∷ os) o (inr h) = inr (one_in os o h)

pub in_one : (os : List Object) (o : Object) → IsIn os o → IsOneOf os o
in_one [] o h = h
in_one (p ∷ os) o (inl h) = inl h
in_one (p ∷ os) o (inr h) = inr (in_one os o h)

-- ---- tests

pub any_in : {A : Type 0} (test : A → Bool) (xs : List A) → list_any test xs ≡ true → (x : A) × IsIn xs x × (test x ≡ true)
any_in test [] h = absurd (false≢true h)
any_in test (x ∷ xs) h =
    elim (or_cases (test x) (list_any test xs) h) [
      | inl here ↦ (x, inl refl, here)
      | inr later ↦ let r = any_in test xs later in (r.0, inr r.1, r.2)
    ]

pub in_any : {A : Type 0} (test : A → Bool) (xs : List A) (x : A) → IsIn xs x → test x ≡ true → list_any test xs ≡ true
in_any test [] x h k = absurd h
in_any test (y ∷ xs) x (inl h) k = or_left _ _ (sym (ap test h) ∙ k)
in_any test (y ∷ xs) x (inr h) k = or_right _ _ (in_any test xs x h k)

pub all_in : {A : Type 0} (test : A → Bool) (xs : List A) (x : A) → list_all test xs ≡ true → IsIn xs x → test x ≡ true
all_in test [] x h k = absurd k
all_in test (y ∷ xs) x h (inl k) = ap test k ∙ (and_parts (test y) (list_all test xs) h).0
all_in test (y ∷ xs) x h (inr k) = all_in test xs x (and_parts (test y) (list_all test xs) h).1 k

pub first_of_in : (rule : Object → Option ObjectFault) (os : List Object) (o : Object) → first_of rule os ≡ None → IsIn os o → rule o ≡ None
first_of_in rule [] o h k = absurd k
first_of_in rule (p ∷ os) o h (inl k) = ap rule k ∙ first_none (rule p) (first_of rule os) h
first_of_in rule (p ∷ os) o h (inr k) = first_of_in rule os o (second_none (rule p) (first_of rule os) h) k

-- one that passes is counted
pub count_some : {A : Type 0} (test : A → Bool) (xs : List A) (x : A) → IsIn xs x → test x ≡ true → 1 ≤ count_by test xs
count_some test [] x h k = absurd h
count_some test (y ∷ xs) x (inl h) k = let e = count_more test y xs in let b : test y ≡ true = sym (ap test h) ∙ k in by (test y) b e where
  by : (b : Bool) → b ≡ true → count_by test (y ∷ xs) ≡ cond b 1 0 + count_by test xs → 1 ≤ count_by test (y ∷ xs)
  by true b e = omega (arith, e)
  by false b e = absurd (false≢true b)
count_some test (y ∷ xs) x (inr h) k = let e = count_more test y xs in let r = count_some test xs x h k in omega (arith, e, r)

-- where one passes at most, two that pass are one
pub count_one : {A : Type 0} (test : A → Bool) (xs : List A) (x y : A) → count_by test xs ≤ 1 → IsIn xs x → IsIn xs y → test x ≡ true → test y ≡ true → x ≡ y
count_one test [] x y le h k p q = absurd h
count_one test (z ∷ xs) x y le (inl h) (inl k) p q = h ∙ sym k
count_one test (z ∷ xs) x y le (inl h) (inr k) p q = absurd (by (test z) (sym (ap test h) ∙ p) (count_more test z xs)) where
  by : (b : Bool) → b ≡ true → count_by test (z ∷ xs) ≡ cond b 1 0 + count_by test xs → ⊥
  by true b e = let s = count_some test xs y k q in omega (arith, e, s, le)
  by false b e = false≢true b
count_one test (z ∷ xs) x y le (inr h) (inl k) p q = absurd (by (test z) (sym (ap test k) ∙ q) (count_more test z xs)) where
  by : (b : Bool) → b ≡ true → count_by test (z ∷ xs) ≡ cond b 1 0 + count_by test xs → ⊥
  by true b e = let s = count_some test xs x h p in omega (arith, e, s, le)
  by false b e = false≢true b
count_one test (z ∷ xs) x y le (inr h) (inr k) p q = let e = count_more test z xs in count_one test xs x y (omega (arith, e, le)) h k p q

-- ---- names that differ

not_false : (b : Bool) → not b ≡ true → b ≡ false
not_false true h = absurd (false≢true h)
not_false false h = refl

-- no later record has the name of an earlier one
pub later_differs : (before os : List Object) (x y : Object) → repeated_after before os ≡ None → IsIn before x → IsIn os y → name_of x ≡ name_of y → ⊥
later_differs before [] x y e h k same = k
later_differs before (o ∷ os) x y e h (inl k) same =
    let none = first_none (unless (not (has_name (name_of o) before)) (Exists (name_of o))) (repeated_after (before ++ o ∷ []) os) e in
    let free = not_false (has_name (name_of o) before) (unless_none (not (has_name (name_of o) before)) (Exists (name_of o)) none) in
    false≢true (sym free ∙ in_any (λ p. bytes_eq (name_of p) (name_of o)) before x h (subst (λ n. bytes_eq (name_of x) n ≡ true) (same ∙ ap name_of k) (bytes_eq_self (name_of x))))
later_differs before (o ∷ os) x y e h (inr k) same =
    later_differs (before ++ o ∷ []) os x y (second_none (unless (not (has_name (name_of o) before)) (Exists (name_of o))) (repeated_after (before ++ o ∷ []) os) e) (in_left before (o ∷ []) x h) k same

-- two records of one name are one
pub one_named : (before os : List Object) (x y : Object) → repeated_after before os ≡ None → IsIn os x → IsIn os y → name_of x ≡ name_of y → x ≡ y
one_named before [] x y e h k same = absurd h
one_named before (o ∷ os) x y e (inl h) (inl k) same = h ∙ sym k
one_named before (o ∷ os) x y e (inl h) (inr k) same =
    absurd (later_differs (before ++ o ∷ []) os x y (second_none (unless (not (has_name (name_of o) before)) (Exists (name_of o))) (repeated_after (before ++ o ∷ []) os) e) (in_right before (o ∷ []) x (inl h)) k same)
one_named before (o ∷ os) x y e (inr h) (inl k) same =
    absurd (later_differs (before ++ o ∷ []) os y x (second_none (unless (not (has_name (name_of o) before)) (Exists (name_of o))) (repeated_after (before ++ o ∷ []) os) e) (in_right before (o ∷ []) y (inl k)) h (sym same))
one_named before (o ∷ os) x y e (inr h) (inr k) same =
    one_named (before ++ o ∷ []) os x y (second_none (unless (not (has_name (name_of o) before)) (Exists (name_of o))) (repeated_after (before ++ o ∷ []) os) e) h k same

-- ---- the records of a configuration

pub subdisk_in : (c : Config) (s : Subdisk) → IsIn c.subdisks s → IsIn (objects_of c) (SubdiskRecord s)
subdisk_in c s h = inr (in_right (map DiskRecord c.disks) _ (SubdiskRecord s) (in_left (map SubdiskRecord c.subdisks) _ (SubdiskRecord s) (in_map SubdiskRecord c.subdisks s h)))

pub same_subdisk : (s t : Subdisk) → SubdiskRecord s ≡ SubdiskRecord t → s ≡ t
same_subdisk s t e = cc

pub same_disk : (s t : Disk) → DiskRecord s ≡ DiskRecord t → s ≡ t
same_disk s t e = cc

not_in_map : {A : Type 0} (f : A → Object) (o : Object) (xs : List A) → ((x : A) → o ≡ f x → ⊥) → IsIn (map f xs) o → ⊥
not_in_map f o xs out h = let r = from_map f xs o h in out r.0 r.2

from_left : {A : Type 0} (xs ys : List A) (x : A) → IsIn (xs ++ ys) x → (IsIn ys x → ⊥) → IsIn xs x
from_left xs ys x h out = elim (in_either xs ys x h) [ inl a ↦ a | inr b ↦ absurd (out b) ]

from_right : {A : Type 0} (xs ys : List A) (x : A) → IsIn (xs ++ ys) x → (IsIn xs x → ⊥) → IsIn ys x
from_right xs ys x h out = elim (in_either xs ys x h) [ inl a ↦ absurd (out a) | inr b ↦ b ]

none_of : {A : Type 0} (xs ys : List A) (x : A) → (IsIn xs x → ⊥) → (IsIn ys x → ⊥) → IsIn (xs ++ ys) x → ⊥
none_of xs ys x out none h = elim (in_either xs ys x h) [ inl a ↦ out a | inr b ↦ none b ]

pub subdisk_of : (c : Config) (s : Subdisk) → IsIn (objects_of c) (SubdiskRecord s) → IsIn c.subdisks s
subdisk_of c s (inl h) = absurd cc
subdisk_of c s (inr h) =
    let o : Object = SubdiskRecord s in
    let behind = from_right (map DiskRecord c.disks) _ o h (not_in_map DiskRecord o c.disks (λ x e. cc)) in
    let here = from_left (map SubdiskRecord c.subdisks) _ o behind
    (none_of (map PlexRecord c.plexes) _ o (not_in_map PlexRecord o c.plexes (λ x e. cc))
    (none_of (map VolRecord c.volumes) _ o (not_in_map VolRecord o c.volumes (λ x e. cc))
    (none_of (map DcoRecord c.dcos) _ o (not_in_map DcoRecord o c.dcos (λ x e. cc)) (not_in_map SnapRecord o c.snaps (λ x e. cc))))) in
    let r = from_map SubdiskRecord c.subdisks o here in
    subst (λ t. IsIn c.subdisks t) (sym (same_subdisk s r.0 r.2)) r.1

pub disk_of : (c : Config) (d : Disk) → IsIn (objects_of c) (DiskRecord d) → IsIn c.disks d
disk_of c d (inl h) = absurd cc
disk_of c d (inr h) =
    let o : Object = DiskRecord d in
    let here = from_left (map DiskRecord c.disks) _ o h
    (none_of (map SubdiskRecord c.subdisks) _ o (not_in_map SubdiskRecord o c.subdisks (λ x e. cc))
    (none_of (map PlexRecord c.plexes) _ o (not_in_map PlexRecord o c.plexes (λ x e. cc))
    (none_of (map VolRecord c.volumes) _ o (not_in_map VolRecord o c.volumes (λ x e. cc))
    (none_of (map DcoRecord c.dcos) _ o (not_in_map DcoRecord o c.dcos (λ x e. cc)) (not_in_map SnapRecord o c.snaps (λ x e. cc)))))) in
    let r = from_map DiskRecord c.disks o here in
    subst (λ t. IsIn c.disks t) (sym (same_disk d r.0 r.2)) r.1

pub disk_in : (c : Config) (d : Disk) → IsIn c.disks d → IsIn (objects_of c) (DiskRecord d)
disk_in c d h = inr (in_left (map DiskRecord c.disks) _ (DiskRecord d) (in_map DiskRecord c.disks d h))

pub plex_in : (c : Config) (p : Plex) → IsIn c.plexes p → IsIn (objects_of c) (PlexRecord p)
plex_in c p h = inr (in_right (map DiskRecord c.disks) _ (PlexRecord p) (in_right (map SubdiskRecord c.subdisks) _ (PlexRecord p) (in_left (map PlexRecord c.plexes) _ (PlexRecord p) (in_map PlexRecord c.plexes p h))))

pub in_at : {A : Type 0} (xs : List A) (i : ℕ) (x d : A) → i < length xs → x ≡ get_or xs i d → IsIn xs x
in_at [] i x d lt e = absurd (omega (arith, lt))
in_at (y ∷ xs) zero x d lt e = inl e
in_at (y ∷ xs) (suc i) x d lt e = inr (in_at xs i x d (omega (arith, lt)) e)

-- each of its plexes is one, by its number in the list
pub plex_is_of : (c : Config) (i : ℕ) (p d : Plex) → i < length c.plexes → p ≡ get_or c.plexes i d → IsPlexOf c p
plex_is_of c i p d lt e = in_one (objects_of c) (PlexRecord p) (plex_in c p (in_at c.plexes i p d lt e))

-- ---- tests of one kind

pub subdisk_any : (test : Subdisk → Bool) (all : List Object) → list_any (λ o. is_subdisk test o) all ≡ true → (s : Subdisk) × IsIn all (SubdiskRecord s) × (test s ≡ true)
subdisk_any test all h = let r = any_in (λ o. is_subdisk test o) all h in by r.0 r.1 r.2 where
  by : (o : Object) → IsIn all o → is_subdisk test o ≡ true → (s : Subdisk) × IsIn all (SubdiskRecord s) × (test s ≡ true)
  by (SubdiskRecord s) m t = (s, m, t)
  by o m t = absurd (false≢true t)

pub disk_any : (test : Disk → Bool) (all : List Object) → list_any (λ o. is_disk test o) all ≡ true → (d : Disk) × IsIn all (DiskRecord d) × (test d ≡ true)
disk_any test all h = let r = any_in (λ o. is_disk test o) all h in by r.0 r.1 r.2 where
  by : (o : Object) → IsIn all o → is_disk test o ≡ true → (d : Disk) × IsIn all (DiskRecord d) × (test d ≡ true)
  by (DiskRecord s) m t = (s, m, t)
  by o m t = absurd (false≢true t)

pub vol_any : (test : Vol → Bool) (all : List Object) → list_any (λ o. is_vol test o) all ≡ true → (v : Vol) × IsIn all (VolRecord v) × (test v ≡ true)
vol_any test all h = let r = any_in (λ o. is_vol test o) all h in by r.0 r.1 r.2 where
  by : (o : Object) → IsIn all o → is_vol test o ≡ true → (v : Vol) × IsIn all (VolRecord v) × (test v ≡ true)
  by (VolRecord s) m t = (s, m, t)
  by o m t = absurd (false≢true t)

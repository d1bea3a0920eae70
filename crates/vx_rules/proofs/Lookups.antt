-- Where names differ, a test that asks for a name is the test of the record of that name.
use Rattle.std.proofs.Common.{◌≡◌, ℕ, Bool, true, false, ◌||◌, ◌&&◌, ◌==◌, not, Option, Some, None, is_some, List, [], ◌∷◌, ◌++◌, refl, sym, ◌∙◌, subst, inl, inr, if◌then◌else◌, nat_le, ◌+◌}
use Rattle.std.proofs.lemmas.Bool.{cases_Bool}
use Rattle.std.specs.List.{list_any}
use Rattle.std.specs.Str.{bytes_eq}
use Rattle.vx_base.specs.Named.{Word}
use Rattle.vx_base.proofs.NamedLemmas.{bytes_eq_same}
use Rattle.vx_config_parts.specs.declared.disk.Disk.{Disk}
use Rattle.vx_config_parts.specs.declared.plex.Plex.{Plex}
use Rattle.vx_config_parts.specs.declared.vol.Vol.{Vol}
use Rattle.vx_config_parts.specs.declared.dco.Dco.{Dco}
use Rattle.vx_config_parts.specs.declared.subdisk.Subdisk.{Subdisk}
use Rattle.vx_config_parts.specs.declared.snap.Snap.{Snap}
use Rattle.vx_config_parts.specs.declared.plex.PlexKind.{PlexKind}
use Rattle.vx_config_parts.specs.declared.object.Object.{Object}
use Rattle.vx_config_parts.specs.declared.object.Object.TheVariants.{DiskRecord, PlexRecord, VolRecord, DcoRecord}
use Rattle.vx_config_parts.specs.declared.fault.ObjectFault.TheVariants.{Exists}
use Rattle.vx_config_parts.specs.Objects.{name_of, is_disk, is_plex, is_vol, is_dco, refers, is_data_plex_of}
use Rattle.vx_rules.specs.Sizes.{holds}
use Rattle.vx_rules.specs.Faults.{first_some, unless}
use Rattle.vx_rules.specs.Named.{first_named, as_disk, as_plex, as_vol, as_dco}
use Rattle.vx_rules.specs.References.{has_name, repeated_after, has_disk, has_plex, has_vol, has_dco_of, has_vol_with}
use Rattle.vx_rules.specs.Maps.{has_data_plex}
use Rattle.vx_rules.specs.Space.{has_room}
use Rattle.vx_rules.specs.Whole.{has_volume_within}
use Rattle.vx_rules.specs.Relations.{is_prepared, has_shape, shapes_are_equal}

-- a thing is there, and passes
abbrev pub passes : {A : Type 0} → (A → Bool) → Option A → Bool
passes test None = false
passes test (Some x) = test x

-- what passes has the name
abbrev pub AsksFor : Word → (Object → Bool) → Type 0
AsksFor name test = (o : Object) → test o ≡ true → bytes_eq (name_of o) name ≡ true

-- what is there has the name
abbrev HasName : Word → Option Object → Type 0
HasName name None = Unit {0}
HasName name (Some o) = bytes_eq (name_of o) name ≡ true

pub first_none : {A : Type 0} (a b : Option A) → first_some a b ≡ None → a ≡ None
first_none None b e = refl
first_none (Some x) b e = cc

pub second_none : {A : Type 0} (a b : Option A) → first_some a b ≡ None → b ≡ None
second_none None b e = e
second_none (Some x) b e = cc

not_there : {A : Type 0} (b : Bool) (x : A) → unless (not b) x ≡ None → b ≡ false
not_there false x e = refl
not_there true x e = cc

-- a record whose name no earlier one has, and the rest
new_name : (before os : List Object) (o : Object) → repeated_after before (o ∷ os) ≡ None → has_name (name_of o) before ≡ false
new_name before os o e = not_there (has_name (name_of o) before) (Exists (name_of o)) (first_none _ (repeated_after (before ++ o ∷ []) os) e)

new_names : (before os : List Object) (o : Object) → repeated_after before (o ∷ os) ≡ None → repeated_after (before ++ o ∷ []) os ≡ None
new_names before os o e = second_none (unless (not (has_name (name_of o) before)) (Exists (name_of o))) _ e

or_right : (a b : Bool) → b ≡ true → (a || b) ≡ true
or_right true b e = refl
or_right false b e = e

or_left : (a b : Bool) → a ≡ true → (a || b) ≡ true
or_left true b e = refl
or_left false b e = cc

or_more : (a b c : Bool) → (b ≡ true → c ≡ true) → (a || b) ≡ true → (a || c) ≡ true
or_more true b c f e = refl
or_more false b c f e = f e

has_last : (name : Word) (before : List Object) (o : Object) → bytes_eq (name_of o) name ≡ true → has_name name (before ++ o ∷ []) ≡ true
has_last name [] o e = or_left (bytes_eq (name_of o) name) false e
has_last name (x ∷ xs) o e = or_right (bytes_eq (name_of x) name) _ (has_last name xs o e)

has_still : (name : Word) (before : List Object) (o : Object) → has_name name before ≡ true → has_name name (before ++ o ∷ []) ≡ true
has_still name [] o e = cc
has_still name (x ∷ xs) o e = or_more (bytes_eq (name_of x) name) _ _ (has_still name xs o) e

-- a test that asks for a name that an earlier record has fails
fails_behind : (name : Word) (test : Object → Bool) → AsksFor name test → (before : List Object) (o : Object) → has_name name before ≡ true → has_name (name_of o) before ≡ false → test o ≡ false
fails_behind name test asks before o has new =
    elim (cases_Bool (test o)) [
      | inl passed ↦
          let same : name_of o ≡ name = bytes_eq_same (name_of o) name (asks o passed) in
          let has' : has_name (name_of o) before ≡ true = subst (λ n. has_name n before ≡ true) (sym same) has in
          cc
      | inr failed ↦ failed
    ]

none_behind : (name : Word) (test : Object → Bool) → AsksFor name test → (before os : List Object) → repeated_after before os ≡ None → has_name name before ≡ true → list_any test os ≡ false
none_behind name test asks before [] e has = refl
none_behind name test asks before (o ∷ os) e has =
    let here : test o ≡ false = fails_behind name test asks before o has (new_name before os o e) in
    let later : list_any test os ≡ false = none_behind name test asks (before ++ o ∷ []) os (new_names before os o e) (has_still name before o has) in
    rw (here, later) refl

or_none : (a : Bool) → (a || false) ≡ a
or_none true = refl
or_none false = refl

any_behind : (name : Word) (test : Object → Bool) → AsksFor name test → (before os : List Object) → repeated_after before os ≡ None → list_any test os ≡ passes test (first_named name os)
any_behind name test asks before [] e = refl
any_behind name test asks before (o ∷ os) e =
    elim (cases_Bool (bytes_eq (name_of o) name)) [
      | inl here ↦
          let later : list_any test os ≡ false = none_behind name test asks (before ++ o ∷ []) os (new_names before os o e) (has_last name before o here) in
          rw (here, later) (or_none (test o))
      | inr other ↦
          let later : list_any test os ≡ passes test (first_named name os) = any_behind name test asks (before ++ o ∷ []) os (new_names before os o e) in
          let fails : test o ≡ false = elim (cases_Bool (test o)) [ inl passed ↦ let here = asks o passed in cc | inr failed ↦ failed ] in
          rw (other, fails) later
    ]

-- where names differ, some record passes a test that asks for a name exactly where the first record of the name does
pub any_named : (all : List Object) → repeated_after [] all ≡ None → (name : Word) (test : Object → Bool) → AsksFor name test → list_any test all ≡ passes test (first_named name all)
any_named all e name test asks = any_behind name test asks [] all e

named_or : (name : Word) (o : Object) (f : Option Object) (b : Bool) → b ≡ bytes_eq (name_of o) name → HasName name f → HasName name (if b then Some o else f)
named_or name o f true e h = sym e
named_or name o f false e h = h

first_has_name : (name : Word) (all : List Object) → HasName name (first_named name all)
first_has_name name [] = tt
first_has_name name (o ∷ os) = named_or name o _ (bytes_eq (name_of o) name) refl (first_has_name name os)

left_true : (a b : Bool) → (a && b) ≡ true → a ≡ true
left_true true b e = refl
left_true false b e = cc

passes_true : {A : Type 0} (x : Option A) → passes (λ a. true) x ≡ is_some x
passes_true None = refl
passes_true (Some a) = refl

and_true : (a : Bool) → a ≡ (a && true)
and_true true = refl
and_true false = refl

disk_asks : (name : Word) (test t : Disk → Bool) → ((x : Disk) → test x ≡ (bytes_eq x.name name && t x)) → AsksFor name (λ o. is_disk test o)
disk_asks name test t split (DiskRecord x) e = left_true (bytes_eq x.name name) (t x) (sym (split x) ∙ e)
disk_asks name test t split _ e = cc

disk_test : (name : Word) (test t : Disk → Bool) → ((x : Disk) → test x ≡ (bytes_eq x.name name && t x)) → (f : Option Object) → HasName name f → passes (λ o. is_disk test o) f ≡ passes t (as_disk f)
disk_test name test t split None h = refl
disk_test name test t split (Some (DiskRecord x)) h = split x ∙ rw h refl
disk_test name test t split (Some _) h = refl

pub any_disk : (all : List Object) → repeated_after [] all ≡ None → (name : Word) (test t : Disk → Bool) → ((x : Disk) → test x ≡ (bytes_eq x.name name && t x)) → list_any (λ o. is_disk test o) all ≡ passes t (as_disk (first_named name all))
any_disk all e name test t split = any_named all e name (λ o. is_disk test o) (disk_asks name test t split) ∙ disk_test name test t split (first_named name all) (first_has_name name all)

plex_asks : (name : Word) (test t : Plex → Bool) → ((x : Plex) → test x ≡ (bytes_eq x.name name && t x)) → AsksFor name (λ o. is_plex test o)
plex_asks name test t split (PlexRecord x) e = left_true (bytes_eq x.name name) (t x) (sym (split x) ∙ e)
plex_asks name test t split _ e = cc

plex_test : (name : Word) (test t : Plex → Bool) → ((x : Plex) → test x ≡ (bytes_eq x.name name && t x)) → (f : Option Object) → HasName name f → passes (λ o. is_plex test o) f ≡ passes t (as_plex f)
plex_test name test t split None h = refl
plex_test name test t split (Some (PlexRecord x)) h = split x ∙ rw h refl
plex_test name test t split (Some _) h = refl

pub any_plex : (all : List Object) → repeated_after [] all ≡ None → (name : Word) (test t : Plex → Bool) → ((x : Plex) → test x ≡ (bytes_eq x.name name && t x)) → list_any (λ o. is_plex test o) all ≡ passes t (as_plex (first_named name all))
any_plex all e name test t split = any_named all e name (λ o. is_plex test o) (plex_asks name test t split) ∙ plex_test name test t split (first_named name all) (first_has_name name all)

vol_asks : (name : Word) (test t : Vol → Bool) → ((x : Vol) → test x ≡ (bytes_eq x.name name && t x)) → AsksFor name (λ o. is_vol test o)
vol_asks name test t split (VolRecord x) e = left_true (bytes_eq x.name name) (t x) (sym (split x) ∙ e)
vol_asks name test t split _ e = cc

vol_test : (name : Word) (test t : Vol → Bool) → ((x : Vol) → test x ≡ (bytes_eq x.name name && t x)) → (f : Option Object) → HasName name f → passes (λ o. is_vol test o) f ≡ passes t (as_vol f)
vol_test name test t split None h = refl
vol_test name test t split (Some (VolRecord x)) h = split x ∙ rw h refl
vol_test name test t split (Some _) h = refl

pub any_vol : (all : List Object) → repeated_after [] all ≡ None → (name : Word) (test t : Vol → Bool) → ((x : Vol) → test x ≡ (bytes_eq x.name name && t x)) → list_any (λ o. is_vol test o) all ≡ passes t (as_vol (first_named name all))
any_vol all e name test t split = any_named all e name (λ o. is_vol test o) (vol_asks name test t split) ∙ vol_test name test t split (first_named name all) (first_has_name name all)

dco_asks : (name : Word) (test t : Dco → Bool) → ((x : Dco) → test x ≡ (bytes_eq x.name name && t x)) → AsksFor name (λ o. is_dco test o)
dco_asks name test t split (DcoRecord x) e = left_true (bytes_eq x.name name) (t x) (sym (split x) ∙ e)
dco_asks name test t split _ e = cc

dco_test : (name : Word) (test t : Dco → Bool) → ((x : Dco) → test x ≡ (bytes_eq x.name name && t x)) → (f : Option Object) → HasName name f → passes (λ o. is_dco test o) f ≡ passes t (as_dco f)
dco_test name test t split None h = refl
dco_test name test t split (Some (DcoRecord x)) h = split x ∙ rw h refl
dco_test name test t split (Some _) h = refl

pub any_dco : (all : List Object) → repeated_after [] all ≡ None → (name : Word) (test t : Dco → Bool) → ((x : Dco) → test x ≡ (bytes_eq x.name name && t x)) → list_any (λ o. is_dco test o) all ≡ passes t (as_dco (first_named name all))
any_dco all e name test t split = any_named all e name (λ o. is_dco test o) (dco_asks name test t split) ∙ dco_test name test t split (first_named name all) (first_has_name name all)

-- ---- each definition by the record of the name
pub has_disk_is : (name : Word) (all : List Object) → repeated_after [] all ≡ None → has_disk name all ≡ is_some (as_disk (first_named name all))
has_disk_is name all e = any_disk all e name (λ d. bytes_eq d.name name) (λ d. true) (λ d. and_true (bytes_eq d.name name)) ∙ passes_true (as_disk (first_named name all))

pub has_plex_is : (name : Word) (all : List Object) → repeated_after [] all ≡ None → has_plex name all ≡ is_some (as_plex (first_named name all))
has_plex_is name all e = any_plex all e name (λ p. bytes_eq p.name name) (λ p. true) (λ p. and_true (bytes_eq p.name name)) ∙ passes_true (as_plex (first_named name all))

pub has_vol_is : (name : Word) (all : List Object) → repeated_after [] all ≡ None → has_vol name all ≡ is_some (as_vol (first_named name all))
has_vol_is name all e = any_vol all e name (λ v. bytes_eq v.name name) (λ v. true) (λ v. and_true (bytes_eq v.name name)) ∙ passes_true (as_vol (first_named name all))

pub has_dco_of_is : (name vol : Word) (all : List Object) → repeated_after [] all ≡ None → has_dco_of name vol all ≡ passes (λ d. bytes_eq d.vol vol) (as_dco (first_named name all))
has_dco_of_is name vol all e = any_dco all e name (λ d. bytes_eq d.name name && bytes_eq d.vol vol) (λ d. bytes_eq d.vol vol) (λ d. refl)

pub has_vol_with_is : (name dco : Word) (all : List Object) → repeated_after [] all ≡ None → has_vol_with name dco all ≡ passes (λ v. refers v.dco dco) (as_vol (first_named name all))
has_vol_with_is name dco all e = any_vol all e name (λ v. bytes_eq v.name name && refers v.dco dco) (λ v. refers v.dco dco) (λ v. refl)

pub has_data_plex_is : (name vol : Word) (all : List Object) → repeated_after [] all ≡ None → has_data_plex name vol all ≡ passes (λ p. is_data_plex_of vol p) (as_plex (first_named name all))
has_data_plex_is name vol all e = any_plex all e name (λ p. bytes_eq p.name name && is_data_plex_of vol p) (λ p. is_data_plex_of vol p) (λ p. refl)

pub has_room_is : (s : Subdisk) (all : List Object) → repeated_after [] all ≡ None → has_room all s ≡ passes (λ d. nat_le (s.off + s.len) d.publen) (as_disk (first_named s.disk all))
has_room_is s all e = any_disk all e s.disk (λ d. bytes_eq d.name s.disk && nat_le (s.off + s.len) d.publen) (λ d. nat_le (s.off + s.len) d.publen) (λ d. refl)

pub has_volume_within_is : (name : Word) (kind : PlexKind) (size : ℕ) (all : List Object) → repeated_after [] all ≡ None → has_volume_within all name kind size ≡ passes (λ v. holds kind size v) (as_vol (first_named name all))
has_volume_within_is name kind size all e = any_vol all e name (λ v. bytes_eq v.name name && holds kind size v) (λ v. holds kind size v) (λ v. refl)

pub is_prepared_is : (name : Word) (all : List Object) → repeated_after [] all ≡ None → is_prepared all name ≡ passes (λ v. is_some v.dco) (as_vol (first_named name all))
is_prepared_is name all e = any_vol all e name (λ v. bytes_eq v.name name && is_some v.dco) (λ v. is_some v.dco) (λ v. refl)

and_assoc : (a b c : Bool) → (a && b && c) ≡ (a && (b && c))
and_assoc true b c = refl
and_assoc false b c = refl

pub has_shape_is : (name : Word) (len region : ℕ) (all : List Object) → repeated_after [] all ≡ None → has_shape all name len region ≡ passes (λ v. v.len == len && v.region == region) (as_vol (first_named name all))
has_shape_is name len region all e = any_vol all e name (λ v. bytes_eq v.name name && v.len == len && v.region == region) (λ v. v.len == len && v.region == region) (λ v. and_assoc (bytes_eq v.name name) (v.len == len) (v.region == region))

pub shapes_are_equal_is : (s : Snap) (all : List Object) → repeated_after [] all ≡ None → shapes_are_equal all s ≡ passes (λ v. has_shape all s.of v.len v.region) (as_vol (first_named s.vol all))
shapes_are_equal_is s all e = any_vol all e s.vol (λ v. bytes_eq v.name s.vol && has_shape all s.of v.len v.region) (λ v. has_shape all s.of v.len v.region) (λ v. refl)

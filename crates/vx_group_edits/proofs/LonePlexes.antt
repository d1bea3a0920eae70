-- A volume without a DCO has one data plex, and no relation; and what a volume of one data plex is once the map of that plex is set.
use Rattle.std.proofs.Common.{◌≡◌, ℕ, ◌+◌, ◌≤◌, Bool, true, false, cond, not, Option, Some, None, List, [], ◌∷◌, length, map, refl, sym, ◌∙◌, ap, subst, inl, inr, arith}
use Rattle.std.specs.Prelude.{◌&&◌, ◌||◌, is_some, if◌then◌else◌}
use Rattle.std.specs.List.{count_by, filter, filter_map, list_all}
use Rattle.std.specs.Str.{bytes_eq}
use Rattle.std.proofs.lemmas.Bool.{and_parts, false≢true, false_from_ne_true, leb-true}
use Rattle.std.proofs.lemmas.List.{append-nil}
use Rattle.vx_base.specs.Named.{Word}
use Rattle.vx_base.proofs.NamedLemmas.{bytes_eq_same, bytes_eq_self}
use Rattle.vx_mask.specs.Mask.{has}
use Rattle.vx_config_parts.specs.declared.object.Object.{Object}
use Rattle.vx_config_parts.specs.declared.object.Object.TheVariants.{GroupRecord, DiskRecord, SubdiskRecord, PlexRecord, VolRecord, DcoRecord, SnapRecord}
use Rattle.vx_config_parts.specs.declared.plex.Plex.{Plex}
use Rattle.vx_config_parts.specs.declared.snap.Snap.{Snap}
use Rattle.vx_config_parts.specs.declared.subdisk.Subdisk.{Subdisk}
use Rattle.vx_config_parts.specs.declared.vol.Vol.{Vol}
use Rattle.vx_config_parts.specs.Objects.{is_data, is_data_plex_of, is_plex, refers}
use Rattle.vx_rules.specs.Maps.{data_count, logs_are_good}
use Rattle.vx_rules.proofs.ListTests.{count_more}
use Rattle.vx_objects.specs.declared.config.Config.{Config}
use Rattle.vx_objects.specs.declared.edit.Edit.TheVariants.{SetPlex}
use Rattle.vx_objects.specs.Config.{objects_of}
use Rattle.vx_objects.specs.Edits.{edited}
use Rattle.vx_objects.specs.Parts.{as_plex, as_subdisk, in_kinds}
use Rattle.vx_image.specs.Bytes.{is_held, map_or_zero, relation_maps}
use Rattle.vx_image.specs.Lies.{slot_of}
use Rattle.vx_image.specs.UsedPlexes.{IsVolOf}
use Rattle.vx_image.proofs.PlexMembers.{IsIn}
use Rattle.vx_lending.proofs.Bits.{kept}
use Rattle.vx_lending.proofs.Distinct.{AreDistinct, distinct_before, filtered}
use Rattle.vx_lending.proofs.Rules.{plex_names, relation_prepared, vol_logs}
use Rattle.vx_volume_laws.specs.Keeping.{data_plexes}
use Rattle.vx_group_edits.specs.Dcos.{ChangesDco}
use Rattle.vx_group_edits.proofs.ByKind.{plexes_are, plexes_own, subdisks_are, vol_is}
use Rattle.vx_group_edits.proofs.Columns.{columns_same, subdisks_of}
use Rattle.vx_group_edits.proofs.EditSteps.{as_set, plexes_set, stays_set, subdisks_set}

-- ---- lists

pub lone : {A : Type 0} (xs : List A) (x : A) → length xs ≤ 1 → IsIn xs x → xs ≡ x ∷ []
lone [] x few there = absurd there
lone (y ∷ []) x few (inl same) = ap (λ z. z ∷ []) (sym same)
lone (y ∷ []) x few (inr there) = absurd there
lone (y ∷ z ∷ zs) x few there = absurd (omega (arith, few))

distinct_one : {A B : Type 0} (key : A → B) (xs : List A) (x y : A) → AreDistinct key xs → IsIn xs x → IsIn xs y → key x ≡ key y → x ≡ y
distinct_one key [] x y differ here there same = absurd here
distinct_one key (z ∷ xs) x y differ (inl e) (inl f) same = e ∙ sym f
distinct_one key (z ∷ xs) x y differ (inl e) (inr there) same = absurd (differ.0 y there (ap key (sym e) ∙ same))
distinct_one key (z ∷ xs) x y differ (inr here) (inl f) same = absurd (differ.0 x here (ap key (sym f) ∙ sym same))
distinct_one key (z ∷ xs) x y differ (inr here) (inr there) same = distinct_one key xs x y differ.1 here there same

-- what passes after a change is what passed, changed, where a change leaves the test
pub filter_mapped : {A : Type 0} (t : A → Bool) (f : A → A) (xs : List A) → ((x : A) → IsIn xs x → t (f x) ≡ t x) → filter t (map f xs) ≡ map f (filter t xs)
filter_mapped t f [] same = refl
filter_mapped t f (x ∷ xs) same =
    ap (λ b. cond b (f x ∷ filter t (map f xs)) (filter t (map f xs))) (same x (inl refl))
    ∙ ap (λ ys. cond (t x) (f x ∷ ys) ys) (filter_mapped t f xs (λ y there. same y (inr there)))
    ∙ by (t x)
  where
    by : (b : Bool) → cond b (f x ∷ map f (filter t xs)) (map f (filter t xs)) ≡ map f (cond b (x ∷ filter t xs) (filter t xs))
    by true = refl
    by false = refl

-- a test of those that pass another
all_filtered : {A : Type 0} (t u : A → Bool) (xs : List A) → list_all (λ x. not (t x) || u x) xs ≡ list_all u (filter t xs)
all_filtered t u [] = refl
all_filtered t u (x ∷ xs) = ap (λ b. (not (t x) || u x) && b) (all_filtered t u xs) ∙ by (t x)
  where
    by : (b : Bool) → ((not b || u x) && list_all u (filter t xs)) ≡ list_all u (cond b (x ∷ filter t xs) (filter t xs))
    by true = refl
    by false = refl

plexes_counted : (t : Plex → Bool) (os : List Object) → length (filter t (filter_map as_plex os)) ≡ count_by (λ o. is_plex t o) os
plexes_counted t [] = refl
plexes_counted t (PlexRecord p ∷ os) = let rest = plexes_counted t os in let one = count_more (λ o. is_plex t o) (PlexRecord p) os in by (t p) rest one
  where
    by : (b : Bool) → length (filter t (filter_map as_plex os)) ≡ count_by (λ o. is_plex t o) os → count_by (λ o. is_plex t o) (PlexRecord p ∷ os) ≡ cond b 1 0 + count_by (λ o. is_plex t o) os →
        length (cond b (p ∷ filter t (filter_map as_plex os)) (filter t (filter_map as_plex os))) ≡ count_by (λ o. is_plex t o) (PlexRecord p ∷ os)
    by true rest one = omega (arith, rest, one)
    by false rest one = omega (arith, rest, one)
plexes_counted t (GroupRecord x ∷ os) = let rest = plexes_counted t os in let one = count_more (λ o. is_plex t o) (GroupRecord x) os in omega (arith, rest, one)
plexes_counted t (DiskRecord x ∷ os) = let rest = plexes_counted t os in let one = count_more (λ o. is_plex t o) (DiskRecord x) os in omega (arith, rest, one)
plexes_counted t (SubdiskRecord x ∷ os) = let rest = plexes_counted t os in let one = count_more (λ o. is_plex t o) (SubdiskRecord x) os in omega (arith, rest, one)
plexes_counted t (VolRecord x ∷ os) = let rest = plexes_counted t os in let one = count_more (λ o. is_plex t o) (VolRecord x) os in omega (arith, rest, one)
plexes_counted t (DcoRecord x ∷ os) = let rest = plexes_counted t os in let one = count_more (λ o. is_plex t o) (DcoRecord x) os in omega (arith, rest, one)
plexes_counted t (SnapRecord x ∷ os) = let rest = plexes_counted t os in let one = count_more (λ o. is_plex t o) (SnapRecord x) os in omega (arith, rest, one)

-- ---- a volume without a DCO

module _ (c : Config) (v : Vol) (of : IsVolOf c v) (none : v.dco ≡ None) where
  -- the rules let it have one data plex
  pub one_data : (p : Plex) → IsIn c.plexes p → is_data_plex_of v.name p ≡ true → data_plexes c v.name ≡ p ∷ []
  one_data p there own =
      let few = leb-true (data_count (objects_of c) v.name) 1 (subst (λ o. logs_are_good (objects_of c) v.name o ≡ true) none (vol_logs c v of)) in
      let count = plexes_counted (is_data_plex_of v.name) (objects_of c) in
      let long : length (data_plexes c v.name) ≤ 1 = subst (λ ps. length (filter (is_data_plex_of v.name) ps) ≤ 1) (plexes_own c) (omega (arith, few, count)) in
      lone (data_plexes c v.name) p long (kept (is_data_plex_of v.name) c.plexes p there own)

  -- .. and no relation
  pub unrelated : (s : Snap) → IsIn c.snaps s → (bytes_eq s.vol v.name ≡ false) × (bytes_eq s.of v.name ≡ false)
  unrelated s there = (
    false_from_ne_true (bytes_eq s.vol v.name) (λ h. by (relation_prepared c v of s s.map (record { there = there; side = inl (h, refl) }))),
    false_from_ne_true (bytes_eq s.of v.name) (λ h. by (relation_prepared c v of s s.ofmap (record { there = there; side = inr (h, refl) }))),
  )
    where
      by : is_some v.dco ≡ true → ⊥
      by is = false≢true (sym (ap (λ o. is_some o) none) ∙ is)

pub no_relations : (vol : Word) (ss : List Snap) → ((s : Snap) → IsIn ss s → (bytes_eq s.vol vol ≡ false) × (bytes_eq s.of vol ≡ false)) → relation_maps ss vol ≡ []
no_relations vol [] each = refl
no_relations vol (s ∷ ss) each =
    let other = each s (inl refl) in
    let maps = relation_maps ss vol in
    ap (λ (b : Bool). if b then s.map ∷ maps else (if bytes_eq s.of vol then s.ofmap ∷ maps else maps)) other.0
    ∙ ap (λ (b : Bool). if b then s.ofmap ∷ maps else maps) other.1
    ∙ no_relations vol ss (λ t there. each t (inr there))

-- ---- its one plex is set

pub refers_is : (attribute : Option Word) (name : Word) → refers attribute name ≡ true → attribute ≡ Some name
refers_is None name is = absurd (false≢true is)
refers_is (Some n) name is = ap (λ m. Some m) (bytes_eq_same n name is)

-- Of these records the volume has the plex alone, with the subdisks that it had.
pub record HasAlone (c : Config) (vol : Word) (p : Plex) (w : Vol) (all : List Object) : Type 0 where
  pub volume : IsIn all (VolRecord w)
  pub plexes : filter (is_data_plex_of vol) (filter_map as_plex all) ≡ p ∷ []
  pub subdisks : filter (λ s. refers s.plex p.name) (filter_map as_subdisk all) ≡ subdisks_of c p.name

-- The configuration has these records once the map of the plex is set.
module _ (c c' : Config) (v : Vol) (p : Plex) (k : Option ℕ) (w : Vol) (all : List Object) (own : is_data_plex_of v.name p ≡ true) (keeps : HasAlone c v.name p w all)
    (is : objects_of c' ≡ in_kinds (edited (SetPlex p.name (Some v.name) p.state k) all)) where
  abbrev set : Plex → Plex
  set q = as_set p.name (Some v.name) p.state k q

  -- the plexes, each as it is set
  pub plexes_now : c'.plexes ≡ map set (filter_map as_plex all)
  plexes_now = plexes_are c' (edited (SetPlex p.name (Some v.name) p.state k) all) is ∙ plexes_set p.name (Some v.name) p.state k all

  -- that plex gets its map, ..
  set_own : set p ≡ record p { map = k }
  set_own =
      ap (λ (b : Bool). if b then record p { vol = Some v.name; state = p.state; map = k } else p) (bytes_eq_self p.name)
      ∙ ap (λ (o : Option Word). record p { vol = o; map = k }) (sym (refers_is p.vol v.name (and_parts (refers p.vol v.name) (is_data p.kind) own).0))

  -- .. and each other one stays as it is
  pub set_other : (q : Plex) → (q.name ≡ p.name → ⊥) → set q ≡ q
  set_other q other = ap (λ (b : Bool). if b then record q { vol = Some v.name; state = p.state; map = k } else q) (false_from_ne_true (bytes_eq q.name p.name) (λ h. other (bytes_eq_same q.name p.name h)))

  name_left : (q : Plex) → (set q).name ≡ q.name
  name_left q = by (bytes_eq q.name p.name)
    where
      by : (b : Bool) → (if b then record q { vol = Some v.name; state = p.state; map = k } else q).name ≡ q.name
      by true = refl
      by false = refl

  p_there : IsIn (filter_map as_plex all) p
  p_there = (filtered (is_data_plex_of v.name) (filter_map as_plex all) p (subst (λ ps. IsIn ps p) (sym keeps.plexes) (inl refl))).0

  -- no other plex has its name, since the configuration is valid
  one : (q : Plex) → IsIn (filter_map as_plex all) q → q.name ≡ p.name → q ≡ p
  one q there same =
      let differ = distinct_before set (λ (x : Plex). x.name) (filter_map as_plex all) (subst (λ ps. AreDistinct (λ (x : Plex). x.name) ps) plexes_now (plex_names c')) in
      distinct_one (λ (x : Plex). (set x).name) (filter_map as_plex all) q p differ there p_there (name_left q ∙ same ∙ sym (name_left p))

  -- a test that passes the plex just if it passes it with the map is left by that
  pub test_left : (t : Plex → Bool) → t (record p { map = k }) ≡ t p → (q : Plex) → IsIn (filter_map as_plex all) q → t (set q) ≡ t q
  test_left t same q there = by (bytes_eq q.name p.name) refl
    where
      by : (b : Bool) → bytes_eq q.name p.name ≡ b → t (set q) ≡ t q
      by true named =
          let it = one q there (bytes_eq_same q.name p.name named) in
          ap (λ (x : Plex). t (set x)) it ∙ ap t set_own ∙ same ∙ ap t (sym it)
      by false named = ap t (set_other q (λ e. false≢true (sym named ∙ subst (λ n. bytes_eq q.name n ≡ true) e (bytes_eq_self q.name))))

  data_now : data_plexes c' v.name ≡ record p { map = k } ∷ []
  data_now =
      ap (λ ps. filter (is_data_plex_of v.name) ps) plexes_now
      ∙ filter_mapped (is_data_plex_of v.name) set (filter_map as_plex all) (test_left (is_data_plex_of v.name) refl)
      ∙ ap (λ ps. map set ps) keeps.plexes
      ∙ ap (λ (q : Plex). q ∷ []) set_own

  subdisks_now : subdisks_of c' p.name ≡ subdisks_of c p.name
  subdisks_now =
      ap (λ ss. filter (λ s. refers s.plex p.name) ss) (subdisks_are c' (edited (SetPlex p.name (Some v.name) p.state k) all) is ∙ subdisks_set p.name (Some v.name) p.state k all) ∙ keeps.subdisks

  vol_now : IsVolOf c' w
  vol_now = vol_is c' (edited (SetPlex p.name (Some v.name) p.state k) all) is w (stays_set w all keeps.volume p.name (Some v.name) p.state k)

  -- ---- the volume then

  module _ (changed : w ≡ record v { region = w.region; dco = w.dco }) (number : map_or_zero k ≡ 0) (was : data_plexes c v.name ≡ p ∷ [])
      (disks : c'.disks ≡ c.disks) (snaps : c'.snaps ≡ c.snaps) (alone : relation_maps c.snaps v.name ≡ []) where
    held_same : (good : ℕ) → is_held c' good (record p { map = k }) ≡ is_held c good p
    held_same good =
        let is_good : Subdisk → Bool = λ s. has good (slot_of c.disks s.disk) in
        ap (λ ds. list_all (λ s. not (refers s.plex p.name) || has good (slot_of ds s.disk)) c'.subdisks) disks
        ∙ all_filtered (λ s. refers s.plex p.name) is_good c'.subdisks
        ∙ ap (λ ss. list_all is_good ss) subdisks_now
        ∙ sym (all_filtered (λ s. refers s.plex p.name) is_good c.subdisks)

    pub changes : ChangesDco c v c' w p (record p { map = k })
    changes = record {
      recorded = vol_now;
      volume = changed;
      was = was;
      is = data_now;
      plex = refl;
      number = number;
      lies = record { unit = refl; columns = columns_same c c' [] (disks ∙ sym (append-nil c.disks)) p.name subdisks_now p.ncol 0 };
      held = held_same;
      disks = disks;
      alone = alone;
      alone_now = ap (λ ss. relation_maps ss v.name) snaps ∙ alone;
    }

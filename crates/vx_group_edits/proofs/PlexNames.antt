-- The names of plexes that edits of one volume leave and add: those that are added are new.
use Rattle.std.proofs.Common.{◌≡◌, ◌≢◌, Bool, true, false, Option, Some, None, List, [], ◌∷◌, ◌++◌, map, refl, sym, ◌∙◌, ap, subst, inl, inr}
use Rattle.std.specs.Prelude.{◌&&◌, if◌then◌else◌, not}
use Rattle.std.specs.List.{filter, filter_map}
use Rattle.std.specs.Str.{bytes_eq}
use Rattle.std.proofs.lemmas.Bool.{false≢true, and_parts, false_from_ne_true}
use Rattle.std.proofs.lemmas.List.{append-nil, append_assoc}
use Rattle.vx_base.specs.Named.{Word}
use Rattle.vx_base.proofs.NamedLemmas.{bytes_eq_same, bytes_eq_self}
use Rattle.vx_config_parts.specs.declared.object.Object.{Object}
use Rattle.vx_config_parts.specs.declared.object.Object.TheVariants.{GroupRecord, DiskRecord, SubdiskRecord, PlexRecord, VolRecord, DcoRecord, SnapRecord}
use Rattle.vx_config_parts.specs.declared.plex.Plex.{Plex}
use Rattle.vx_config_parts.specs.declared.subdisk.Subdisk.{Subdisk}
use Rattle.vx_config_parts.specs.Objects.{is_plex, refers}
use Rattle.vx_objects.specs.declared.config.Config.{Config}
use Rattle.vx_objects.specs.declared.edit.Edit.{Edit}
use Rattle.vx_objects.specs.declared.edit.Edit.TheVariants as edit
use Rattle.vx_objects.specs.Config.{objects_of}
use Rattle.vx_objects.specs.Edits.{added, edited, edited_by, names_plex_of}
use Rattle.vx_objects.specs.Parts.{as_plex, in_kinds}
use Rattle.vx_image.proofs.PlexMembers.{IsIn, any_in, from_map, in_left, in_map, in_right}
use Rattle.vx_lending.proofs.Bits.{kept}
use Rattle.vx_lending.proofs.Distinct.{AreDistinct, distinct_filter}
use Rattle.vx_lending.proofs.Rules.{plex_names}
use Rattle.vx_group_edits.specs.OfVolume.{AreEditsOf, AreOf}
use Rattle.vx_group_edits.proofs.ByKind.{plexes_are, plexes_own}
use Rattle.vx_group_edits.proofs.Changed.{names_one, true_from_not}
use Rattle.vx_group_edits.proofs.Lists.{filter_append, gone_seen, in_filter_map, kept_seen, not_picked, picked, seen, seen_with}
use Rattle.vx_group_edits.proofs.OwnEdits.{edited_is, set_by}

abbrev pub plex_name : Object → Option Word
plex_name (PlexRecord p) = Some p.name
plex_name o = None

apart_in : {A : Type 0} (xs ys : List A) (x y : A) → AreDistinct (λ z. z) (xs ++ ys) → IsIn xs x → IsIn ys y → x ≡ y → ⊥
apart_in [] ys x y differ here there same = absurd here
apart_in (z ∷ xs) ys x y differ (inl e) there same = differ.0 y (in_right xs ys y there) (sym e ∙ same)
apart_in (z ∷ xs) ys x y differ (inr here) there same = apart_in xs ys x y differ.1 here there same

distinct_map : {A B : Type 0} (key : A → B) (xs : List A) → AreDistinct key xs → AreDistinct (λ y. y) (map key xs)
distinct_map key [] differ = tt
distinct_map key (x ∷ xs) differ = (λ y there same. let r = from_map key xs y there in differ.0 r.0 r.1 (same ∙ r.2), distinct_map key xs differ.1)

pub names_are : (os : List Object) → filter_map plex_name os ≡ map (λ (p : Plex). p.name) (filter_map as_plex os)
names_are [] = refl
names_are (PlexRecord p ∷ os) = ap (λ ns. p.name ∷ ns) (names_are os)
names_are (GroupRecord x ∷ os) = names_are os
names_are (DiskRecord x ∷ os) = names_are os
names_are (SubdiskRecord x ∷ os) = names_are os
names_are (VolRecord x ∷ os) = names_are os
names_are (DcoRecord x ∷ os) = names_are os
names_are (SnapRecord x ∷ os) = names_are os

-- the names of the plexes that the edits add
abbrev pub new_names : List Edit → List Word
new_names [] = []
new_names (e ∷ es) = filter_map plex_name (added e) ++ new_names es

-- the edit removes no plex of the name
abbrev pub LeavesName : Word → Edit → Type 0
LeavesName n (edit.RemovePlex plex) = plex ≢ n
LeavesName n e = Unit {0}

-- none of the edits does
abbrev pub LeaveName : Word → List Edit → Type 0
LeaveName n [] = Unit {0}
LeaveName n (e ∷ es) = LeavesName n e × LeaveName n es

module _ (n : Word) where
  abbrev is_it : Word → Bool
  is_it m = bytes_eq m n

  same_name : (e : Edit) → LeavesName n e → (o : Object) → seen is_it plex_name (set_by e o) ≡ picked is_it plex_name (plex_name o)
  same_name (edit.SetPlex plex to next k) leaves (PlexRecord p) = by (bytes_eq p.name plex)
    where
      by : (b : Bool) → picked is_it plex_name (plex_name (PlexRecord (if b then record p { vol = to; state = next; map = k } else p))) ≡ picked is_it plex_name (Some p.name)
      by true = refl
      by false = refl
  same_name (edit.SetVol name next policy) leaves (VolRecord v) = refl
  same_name (edit.SetRegion name region) leaves (VolRecord v) = refl
  same_name (edit.AddDco dco) leaves (VolRecord v) = refl
  same_name (edit.RemovePlex plex) leaves (PlexRecord p) =
      kept_seen is_it plex_name (not (bytes_eq p.name plex)) (PlexRecord p)
      (λ gone. not_picked is_it plex_name p.name
      (false_from_ne_true (bytes_eq p.name n) (λ h. leaves (sym (bytes_eq_same p.name plex (true_from_not (bytes_eq p.name plex) gone)) ∙ bytes_eq_same p.name n h))))
  same_name (edit.RemovePlex plex) leaves (SubdiskRecord s) = kept_seen is_it plex_name (not (refers s.plex plex)) (SubdiskRecord s) (λ gone. refl)
  same_name (edit.RemoveDco dco) leaves (VolRecord v) = refl
  same_name (edit.RemoveDco dco) leaves (DcoRecord d) = gone_seen is_it plex_name (bytes_eq d.name dco) (DcoRecord d) refl
  same_name e leaves o = refl

  -- of that name there are those that there were, and those that are added
  all_names : (c : Config) (vol : Word) (es : List Edit) → AreEditsOf c vol es → LeaveName n es → (os : List Object) →
      filter is_it (filter_map plex_name (edited_by es os)) ≡ filter is_it (filter_map plex_name os) ++ filter is_it (new_names es)
  all_names c vol [] of leave os = sym (append-nil (filter is_it (filter_map plex_name os)))
  all_names c vol (e ∷ es) of leave os =
      let was = filter is_it (filter_map plex_name os) in
      all_names c vol es of.1 leave.1 (edited e os)
      ∙ ap (λ ps. filter is_it (filter_map plex_name ps) ++ filter is_it (new_names es)) (edited_is c vol e of.0 os)
      ∙ ap (λ ns. ns ++ filter is_it (new_names es)) (seen_with is_it plex_name (λ o. set_by e o) os (added e) (λ o there. same_name e leave.0 o))
      ∙ append_assoc was (filter is_it (filter_map plex_name (added e))) (filter is_it (new_names es))
      ∙ ap (λ ns. was ++ ns) (sym (filter_append is_it (filter_map plex_name (added e)) (new_names es)))

-- none of the plexes has one of these names
abbrev pub AreFree : List Plex → List Word → Type 0
AreFree ps names = (p : Plex) → IsIn ps p → (n : Word) → IsIn names n → p.name ≡ n → ⊥

-- a plex of the old configuration whose name no edit removes has none that is added, since the new one is valid
pub name_new : (c c' : Config) (vol : Word) (es : List Edit) → AreEditsOf c vol es → objects_of c' ≡ in_kinds (edited_by es (objects_of c)) → (p : Plex) → IsIn c.plexes p → LeaveName p.name es → (n : Word) → IsIn (new_names es) n → p.name ≡ n → ⊥
name_new c c' vol es of is p here leave n there same =
    let is_it : Word → Bool = λ m. bytes_eq m p.name in
    let names : List Plex → List Word = λ ps. map (λ (q : Plex). q.name) ps in
    let now : filter is_it (names c'.plexes) ≡ filter is_it (names c.plexes) ++ filter is_it (new_names es) =
    ap (λ ps. filter is_it (names ps)) (plexes_are c' (edited_by es (objects_of c)) is)
    ∙ ap (λ ns. filter is_it ns) (sym (names_are (edited_by es (objects_of c))))
    ∙ all_names p.name c vol es of leave (objects_of c)
    ∙ ap (λ ns. filter is_it ns ++ filter is_it (new_names es)) (names_are (objects_of c) ∙ ap names (plexes_own c)) in
    let apart = distinct_filter (λ (y : Word). y) is_it (names c'.plexes) (distinct_map (λ (q : Plex). q.name) c'.plexes (plex_names c')) in
    apart_in (filter is_it (names c.plexes)) (filter is_it (new_names es)) p.name n (subst (λ ns. AreDistinct (λ (y : Word). y) ns) now apart)
    (kept is_it (names c.plexes) p.name (in_map (λ (q : Plex). q.name) c.plexes p here) (bytes_eq_self p.name))
    (kept is_it (new_names es) n there (subst (λ m. bytes_eq m p.name ≡ true) same (bytes_eq_self p.name))) same

-- so it is where records are added
pub names_free : (c c' : Config) (vol : Word) (more : List Object) → AreOf vol more → objects_of c' ≡ in_kinds (edited_by (edit.Make more ∷ []) (objects_of c)) → AreFree c.plexes (filter_map plex_name more)
unfolding added
names_free c c' vol more of is p here n there = name_new c c' vol (edit.Make more ∷ []) (of, tt) is p here (tt, tt) n (in_left (filter_map plex_name more) [] n there)

-- ---- the subdisks of an added plex

-- a subdisk of an added plex is of no plex of another name
pub subdisk_off : (vol : Word) (more : List Object) (p : Plex) → ((n : Word) → IsIn (filter_map plex_name more) n → p.name ≡ n → ⊥) → (s : Subdisk) → names_plex_of s.plex vol more ≡ true → refers s.plex p.name ≡ false
subdisk_off vol more p free s is =
    let found = any_in (λ o. is_plex (λ q. refers s.plex q.name && refers q.vol vol) o) more is in
    by found.0 found.1 found.2
  where
    by : (o : Object) → IsIn more o → is_plex (λ q. refers s.plex q.name && refers q.vol vol) o ≡ true → refers s.plex p.name ≡ false
    by (PlexRecord q) there is =
        let parts = and_parts (refers s.plex q.name) (refers q.vol vol) is in
        names_one s.plex q.name p.name parts.0 (λ same. free q.name (in_filter_map plex_name more (PlexRecord q) q.name there refl) (sym same))
    by o there is = absurd (false≢true is)

-- Where the volumes of an edited configuration come from.
use Rattle.std.proofs.Common.{◌≡◌, ◌≢◌, ◌∙◌, ◌⊎◌, inl, inr, Bool, true, false, not, Option, Some, None, List, [], ◌∷◌, ◌++◌, map, refl, sym, ap, subst}
use Rattle.std.specs.Prelude.{if◌then◌else◌}
use Rattle.std.specs.List.{cons_option, filter_map, list_all}
use Rattle.std.specs.Str.{bytes_eq}
use Rattle.std.proofs.lemmas.Bool.{and_parts, false≢true}
use Rattle.vx_base.specs.Named.{Word}
use Rattle.vx_base.proofs.NamedLemmas.{bytes_eq_self}
use Rattle.vx_config_parts.specs.declared.disk.Disk.{Disk}
use Rattle.vx_config_parts.specs.declared.group.Group.{Group as GroupObject}
use Rattle.vx_config_parts.specs.declared.object.Object.{Object}
use Rattle.vx_config_parts.specs.declared.object.Object.TheVariants.{GroupRecord, DiskRecord, SubdiskRecord, PlexRecord, VolRecord, DcoRecord, SnapRecord}
use Rattle.vx_config_parts.specs.declared.plex.Plex.{Plex}
use Rattle.vx_config_parts.specs.declared.state.PlexState.{PlexState}
use Rattle.vx_config_parts.specs.declared.state.VolState.{VolState}
use Rattle.vx_config_parts.specs.declared.vol.PolicyName.{PolicyName}
use Rattle.vx_config_parts.specs.declared.vol.Vol.{Vol}
use Rattle.vx_objects.specs.declared.config.Config.{Config}
use Rattle.vx_objects.specs.declared.edit.Edit.{Edit}
use Rattle.vx_objects.specs.declared.edit.Edit.TheVariants.{AddDisk, Make, RemoveVol, SetVol}
use Rattle.vx_objects.specs.Applied.{IsEdited}
use Rattle.vx_objects.specs.Config.{objects_of}
use Rattle.vx_objects.specs.Edits.{added, change, edited, kept, policy_kind, policy_plex, set_vol, stays_without_vol}
use Rattle.vx_objects.specs.Parts.{as_group, as_vol, as_disk, as_subdisk, as_plex, as_dco, as_snap, in_kinds, sorted_below}
use Rattle.vx_objects.proofs.InKinds.{volumes_below}
use Rattle.vx_image.proofs.PlexMembers.{IsIn, from_map, in_either, in_one}
use Rattle.vx_state_edits.specs.Edits.{is_new}
use Rattle.vx_state_edits.specs.Laws.{Restates, in_state}
use Rattle.vx_moments.specs.World.{Group}
use Rattle.vx_stages.specs.Sources.{AddsFrom}
use Rattle.vx_stages.specs.Stages.{edits_of, policy_edit}
use Rattle.vx_stages.specs.Tests.{recorded}
use Rattle.vx_stages.specs.declared.stage.Change.{Change}
use Rattle.vx_stages.specs.declared.stage.Change.TheVariants as changes
use Rattle.vx_stages.specs.declared.stage.Source.{Source}
use Rattle.vx_group_edits.specs.Laws.{StaysBy}
use Rattle.vx_group_edits.specs.OfVolume.{AreOf, is_part_of}
use Rattle.vx_group_edits.proofs.ByKind.{vol_recorded}
use Rattle.vx_group_edits.proofs.Fresh.{each_fresh}

back_in : {A B : Type 0} (h : A → Option B) (xs : List A) (y : B) → IsIn (filter_map h xs) y → (x : A) × IsIn xs x × (h x ≡ Some y)
back_in {B = B} h [] y there = absurd there
back_in {A = A} {B = B} h (x ∷ xs) y there = by (h x) refl there (back_in h xs y)
  where
    by : (o : Option B) → h x ≡ o → IsIn (cons_option o (filter_map h xs)) y → (IsIn (filter_map h xs) y → (z : A) × IsIn xs z × (h z ≡ Some y)) → (z : A) × IsIn (x ∷ xs) z × (h z ≡ Some y)
    by None e there more = let r = more there in (r.0, inr r.1, r.2)
    by (Some z) e (inl same) more = (x, inl refl, e ∙ ap (λ w. Some w) (sym same))
    by (Some z) e (inr there) more = let r = more there in (r.0, inr r.1, r.2)

behind_groups : (gs : List GroupObject) (os : List Object) → filter_map as_vol (map GroupRecord gs ++ os) ≡ filter_map as_vol os
behind_groups [] os = refl
behind_groups (g ∷ gs) os = behind_groups gs os

volumes_are : (c : Config) (all : List Object) → objects_of c ≡ in_kinds all → c.volumes ≡ filter_map as_vol all
volumes_are c all is =
    sym (volumes_below c.disks c.subdisks c.plexes c.volumes c.dcos c.snaps) ∙ ap (λ os. filter_map as_vol os) is ∙ behind_groups (filter_map as_group all) (sorted_below all)
    ∙ volumes_below (filter_map as_disk all) (filter_map as_subdisk all) (filter_map as_plex all) (filter_map as_vol all) (filter_map as_dco all) (filter_map as_snap all)

-- the volume is among these records
vol_among : (all : List Object) (v : Vol) → IsIn (filter_map as_vol all) v → IsIn all (VolRecord v)
vol_among all v there = let r = back_in as_vol all v there in subst (IsIn all) (by r.0 r.2) r.1
  where
    by : (o : Object) → as_vol o ≡ Some v → o ≡ VolRecord v
    by (VolRecord w) e = cc
    by (GroupRecord g) e = cc
    by (DiskRecord d) e = cc
    by (SubdiskRecord s) e = cc
    by (PlexRecord p) e = cc
    by (DcoRecord d) e = cc
    by (SnapRecord s) e = cc

-- of none of these records is a volume
pub no_volumes : (c : Config) (all : List Object) → objects_of c ≡ all → ((v : Vol) → IsIn all (VolRecord v) → ⊥) → (v : Vol) → IsIn c.volumes v → ⊥
no_volumes c all is none v one = none v (vol_among all v (subst (λ vs. IsIn vs v) (sym (volumes_below c.disks c.subdisks c.plexes c.volumes c.dcos c.snaps) ∙ ap (λ os. filter_map as_vol os) is) one))

-- records that are of one volume are no volumes
no_vol_of : (name : Word) (all os : List Object) (v : Vol) → list_all (is_part_of name all) os ≡ true → IsIn os (VolRecord v) → ⊥
no_vol_of name all [] v of there = absurd there
no_vol_of name all (o ∷ os) v of (inl same) = false≢true (subst (λ x. is_part_of name all x ≡ true) (sym same) (and_parts (is_part_of name all o) (list_all (is_part_of name all) os) of).0)
no_vol_of name all (o ∷ os) v of (inr there) = no_vol_of name all os v (and_parts (is_part_of name all o) (list_all (is_part_of name all) os) of).1 there

module _ (c c' : Config) (v : Vol) where
  own : IsIn (objects_of c) (VolRecord v) → IsIn c.volumes v
  own there = vol_recorded c v (in_one (objects_of c) (VolRecord v) there)

  -- an edit has changed a record into that of the volume, or has added it
  edit_back : (e : Edit) → IsEdited (e ∷ []) c c' → IsIn c'.volumes v → ((o : Object) × IsIn (objects_of c) o × (change e (objects_of c) o ≡ Some (VolRecord v))) ⊎ IsIn (added e) (VolRecord v)
  edit_back e is there =
      elim (in_either (filter_map (λ o. change e (objects_of c) o) (objects_of c)) (added e) (VolRecord v) (vol_among (edited e (objects_of c)) v (subst (λ vs. IsIn vs v) (volumes_are c' (edited e (objects_of c)) is) there))) [
        | inl was ↦ inl (back_in (λ o. change e (objects_of c) o) (objects_of c) (VolRecord v) was)
        | inr new ↦ inr new
      ]

  no_edit_back : IsEdited [] c c' → IsIn c'.volumes v → IsIn c.volumes v
  no_edit_back is there = own (vol_among (objects_of c) v (subst (λ vs. IsIn vs v) (volumes_are c' (objects_of c) is) there))

  pub join_back : (disk : Disk) → IsEdited (AddDisk disk ∷ []) c c' → IsIn c'.volumes v → IsIn c.volumes v
  unfolding change added
  join_back disk is there = elim (edit_back (AddDisk disk) is there) [
    | inl (o, one, same) ↦ own (subst (IsIn (objects_of c)) (let e : o ≡ VolRecord v = cc in e) one)
    | inr (inl never) ↦ cc
    | inr (inr never) ↦ absurd never
  ]

  -- records that are added bring volumes alone that were never started
  pub make_back : (from : Source) (g : Group) (more : List Object) (is_started : Word → Bool) → AddsFrom from is_started g more → IsEdited (Make more ∷ []) c c' → is_new v.state ≡ false → IsIn c'.volumes v → IsIn c.volumes v
  unfolding change added
  make_back from g more is_started adds is started there = elim (edit_back (Make more) is there) [
    | inl (o, one, same) ↦ own (subst (IsIn (objects_of c)) (let e : o ≡ VolRecord v = cc in e) one)
    | inr new ↦ absurd (false≢true (sym started ∙ each_fresh from is_started g more adds (VolRecord v) new))
  ]

  -- plexes and subdisks that are added bring no volume
  pub parts_back : (name : Word) (more : List Object) → AreOf name more → IsEdited (Make more ∷ []) c c' → IsIn c'.volumes v → IsIn c.volumes v
  unfolding change added
  parts_back name more of is there = elim (edit_back (Make more) is there) [
    | inl (o, one, same) ↦ own (subst (IsIn (objects_of c)) (let e : o ≡ VolRecord v = cc in e) one)
    | inr new ↦ absurd (no_vol_of name more more v of new)
  ]

  -- the volume was there under its name
  abbrev pub WasNamed : (Vol → Type 0) → Type 0
  WasNamed These = (u : Vol) × IsIn c.volumes u × (u.name ≡ v.name) × These u

  set_back : (vol : Word) (state : VolState) (policy : PolicyName) (o : Object) → IsIn (objects_of c) o → Some (set_vol vol state policy o) ≡ Some (VolRecord v) → WasNamed (λ u. Unit {0})
  set_back vol state policy (VolRecord u) one e = (u, vol_recorded c u (in_one (objects_of c) (VolRecord u) one), by (bytes_eq u.name vol) e, tt)
    where
      by : (b : Bool) → Some (VolRecord (if b then record u { state = state; rdpol = policy_kind policy; prefer = policy_plex policy } else u)) ≡ Some (VolRecord v) → u.name ≡ v.name
      by true e = let same : record u { state = state; rdpol = policy_kind policy; prefer = policy_plex policy } ≡ v = cc in ap (λ (w : Vol). w.name) same
      by false e = let same : u ≡ v = cc in ap (λ (w : Vol). w.name) same
  set_back vol state policy (GroupRecord g) one e = cc
  set_back vol state policy (DiskRecord d) one e = cc
  set_back vol state policy (SubdiskRecord s) one e = cc
  set_back vol state policy (PlexRecord p) one e = cc
  set_back vol state policy (DcoRecord d) one e = cc
  set_back vol state policy (SnapRecord s) one e = cc

  policy_back : (vol : Word) (state : VolState) (policy : PolicyName) → IsEdited (SetVol vol state policy ∷ []) c c' → IsIn c'.volumes v → WasNamed (λ u. Unit {0})
  unfolding change added
  policy_back vol state policy is there = elim (edit_back (SetVol vol state policy) is there) [
    | inl (o, one, same) ↦ set_back vol state policy o one same
    | inr never ↦ absurd never
  ]

  kept_back : (vol : Word) (o : Object) → IsIn (objects_of c) o → (stays : Bool) → stays_without_vol vol (objects_of c) o ≡ stays → kept stays o ≡ Some (VolRecord v) → WasNamed (λ u. u.name ≢ vol)
  kept_back vol o one false is e = cc
  kept_back vol o one true is e =
      let same : o ≡ VolRecord v = cc in
      (v, own (subst (IsIn (objects_of c)) same one), refl, λ named. by (bytes_eq v.name vol) (subst (λ n. bytes_eq v.name n ≡ true) named (bytes_eq_self v.name)) (sym (ap (stays_without_vol vol (objects_of c)) same) ∙ is))
    where
      by : (b : Bool) → b ≡ true → not b ≡ true → ⊥
      by true e other = false≢true other
      by false e other = false≢true e

  removal_back : (vol : Word) → IsEdited (RemoveVol vol ∷ []) c c' → IsIn c'.volumes v → WasNamed (λ u. u.name ≢ vol)
  unfolding change added
  removal_back vol is there = elim (edit_back (RemoveVol vol) is there) [
    | inl (o, one, same) ↦ kept_back vol o one (stays_without_vol vol (objects_of c) o) refl same
    | inr never ↦ absurd never
  ]

  by_found : (vol : Word) (policy : PolicyName) (f : Option Vol) → IsEdited (policy_edit f (λ u. SetVol vol u.state policy)) c c' → IsIn c'.volumes v → WasNamed (λ u. Unit {0})
  by_found vol policy None is there = (v, no_edit_back is there, refl, tt)
  by_found vol policy (Some u) is there = policy_back vol u.state policy is there

  -- other states of a volume and of its plexes
  pub restated_back : (vol : Word) (next : VolState) (states : Plex → PlexState) → Restates vol next states c c' → v.name ≢ vol → IsIn c'.volumes v → WasNamed (λ u. u.name ≢ vol)
  restated_back vol next states restates other there =
      let r = from_map (in_state vol next) c.volumes v (subst (λ vs. IsIn vs v) restates.volumes there) in
      let name : r.0.name ≡ v.name = sym (by r.0 (bytes_eq r.0.name vol)) ∙ ap (λ (w : Vol). w.name) (sym r.2) in
      (r.0, r.1, name, λ same. other (sym name ∙ same))
    where
      by : (u : Vol) (b : Bool) → (if b then record u { state = next } else u).name ≡ u.name
      by u true = refl
      by u false = refl

pub change_back : (g : Group) (how : Change) (c' : Config) (v : Vol) → IsEdited (edits_of how (Some g)) g.config c' → IsIn c'.volumes v → WasNamed g.config c' v (StaysBy how)
change_back g (changes.Policy vol policy) c' v is there = by_found g.config c' v vol policy (recorded vol (Some g)) is there
change_back g (changes.Remove vol) c' v is there = removal_back g.config c' v vol is there

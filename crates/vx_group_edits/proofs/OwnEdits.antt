-- What edits of one volume make of a record, and the kinds of records that they leave as they are.
use Rattle.std.proofs.Common.{◌≡◌, Bool, true, false, Option, Some, None, List, [], ◌∷◌, ◌++◌, map, refl, sym, ◌∙◌, ap, inl, inr}
use Rattle.std.specs.Prelude.{if◌then◌else◌, not}
use Rattle.std.specs.List.{cons_option, filter_map, list_any}
use Rattle.std.specs.Str.{bytes_eq}
use Rattle.std.proofs.lemmas.Bool.{false≢true}
use Rattle.std.proofs.lemmas.List.{append-nil}
use Rattle.std.proofs.lemmas.List.Elements.{filter_map-append}
use Rattle.vx_base.specs.Named.{Word}
use Rattle.vx_config_parts.specs.declared.dco.Dco.{Dco}
use Rattle.vx_config_parts.specs.declared.group.Group.{Group}
use Rattle.vx_config_parts.specs.declared.object.Object.{Object}
use Rattle.vx_config_parts.specs.declared.object.Object.TheVariants.{GroupRecord, DiskRecord, SubdiskRecord, PlexRecord, VolRecord, DcoRecord, SnapRecord}
use Rattle.vx_config_parts.specs.declared.plex.Plex.{Plex}
use Rattle.vx_config_parts.specs.declared.subdisk.Subdisk.{Subdisk}
use Rattle.vx_config_parts.specs.declared.vol.Vol.{Vol}
use Rattle.vx_config_parts.specs.Objects.{refers}
use Rattle.vx_objects.specs.declared.config.Config.{Config}
use Rattle.vx_objects.specs.declared.edit.Edit.{Edit}
use Rattle.vx_objects.specs.declared.edit.Edit.TheVariants as edit
use Rattle.vx_objects.specs.Config.{objects_of}
use Rattle.vx_objects.specs.Edits.{added, change, edited, edited_by, kept, policy_kind, policy_plex, set_dco, set_plex, set_region, set_vol, stays_without_plex, without_dco}
use Rattle.vx_objects.specs.Parts.{as_disk, as_group, as_snap, as_vol, in_kinds, sorted_below}
use Rattle.vx_image.proofs.PlexMembers.{IsIn, all_in}
use Rattle.vx_group_edits.specs.OfVolume.{AreEditsOf, AreOf, IsEditOf, is_part_of}
use Rattle.vx_group_edits.proofs.ByKind.{disks_are, disks_own, snaps_are, snaps_own, volumes_are, volumes_own}

-- ---- a record

-- what such an edit makes of a record: another, or none where it goes
abbrev pub set_by : Edit → Object → Option Object
set_by (edit.SetPlex plex to next k) o = Some (set_plex plex to next k o)
set_by (edit.SetVol vol next policy) o = Some (set_vol vol next policy o)
set_by (edit.SetRegion vol region) o = Some (set_region vol region o)
set_by (edit.AddDco dco) o = Some (set_dco dco.vol dco.name o)
set_by (edit.RemovePlex plex) o = kept (stays_without_plex plex o) o
set_by (edit.RemoveDco dco) o = without_dco dco o
set_by e o = Some o

pub edited_is : (c : Config) (vol : Word) (e : Edit) → IsEditOf c vol e → (os : List Object) → edited e os ≡ filter_map (λ o. set_by e o) os ++ added e
unfolding change
edited_is c vol (edit.AddDisk disk) of os = absurd of
edited_is c vol (edit.Make objects) of os = refl
edited_is c vol (edit.SetPlex plex to next k) of os = refl
edited_is c vol (edit.SetVol name next policy) of os = refl
edited_is c vol (edit.RemovePlex plex) of os = refl
edited_is c vol (edit.RemoveVol name) of os = absurd of
edited_is c vol (edit.AddDco dco) of os = refl
edited_is c vol (edit.RemoveDco dco) of os = refl
edited_is c vol (edit.AddSnap snap) of os = absurd of
edited_is c vol (edit.RemoveSnap snap) of os = absurd of
edited_is c vol (edit.SetRegion name region) of os = refl

-- ---- what is picked of the records

-- what is picked of a record, where it stays
abbrev pub then_pick : {A : Type 0} → (Object → Option A) → Option Object → Option A
then_pick pick None = None
then_pick pick (Some o) = pick o

pick_first : {A : Type 0} (pick : Object → Option A) (h : Object → Option Object) (os : List Object) (o : Option Object) → filter_map pick (cons_option o (filter_map h os)) ≡ cons_option (then_pick pick o) (filter_map pick (filter_map h os))
pick_first pick h os None = refl
pick_first pick h os (Some o) = refl

set_picks : {A : Type 0} (pick : Object → Option A) (h : Object → Option Object) → ((o : Object) → then_pick pick (h o) ≡ pick o) → (os : List Object) → filter_map pick (filter_map h os) ≡ filter_map pick os
set_picks pick h same [] = refl
set_picks pick h same (o ∷ os) =
    pick_first pick h os (h o)
    ∙ ap (λ x. cons_option x (filter_map pick (filter_map h os))) (same o)
    ∙ ap (λ xs. cons_option (pick o) xs) (set_picks pick h same os)

-- where a record is left what it was of a kind, what is added stands behind
pub set_with : {A : Type 0} (pick : Object → Option A) (h : Object → Option Object) → ((o : Object) → then_pick pick (h o) ≡ pick o) → (os more : List Object) →
    filter_map pick (filter_map h os ++ more) ≡ filter_map pick os ++ filter_map pick more
set_with pick h same os more = filter_map-append pick (filter_map h os) more ∙ ap (λ xs. xs ++ filter_map pick more) (set_picks pick h same os)

-- where nothing is picked of any record nothing is picked
pub none_picked : {A : Type 0} (pick : Object → Option A) (os : List Object) → ((o : Object) → IsIn os o → pick o ≡ None) → filter_map pick os ≡ []
none_picked pick [] none = refl
none_picked pick (o ∷ os) none = ap (λ x. cons_option x (filter_map pick os)) (none o (inl refl)) ∙ none_picked pick os (λ p there. none p (inr there))

-- ---- plexes and subdisks

module _ {A : Type 0} (pick : Object → Option A) (no_plex : (p : Plex) → pick (PlexRecord p) ≡ None) (no_subdisk : (s : Subdisk) → pick (SubdiskRecord s) ≡ None) where
  part_left : (vol : Word) (more : List Object) (o : Object) → is_part_of vol more o ≡ true → pick o ≡ None
  part_left vol more (PlexRecord p) is = no_plex p
  part_left vol more (SubdiskRecord s) is = no_subdisk s
  part_left vol more o is = absurd (false≢true is)

  -- parts of a volume are none of another kind
  pub no_parts : (vol : Word) (more : List Object) → AreOf vol more → filter_map pick more ≡ []
  no_parts vol more of = none_picked pick more (λ o there. part_left vol more o (all_in (is_part_of vol more) more o of there))

-- ---- kinds that are left

-- nothing is picked of plexes, subdisks and DCOs, and of a volume no more than its name
pub record IsLeft {A : Type 0} (pick : Object → Option A) : Type 0 where
  pub plex : (p : Plex) → pick (PlexRecord p) ≡ None
  pub subdisk : (s : Subdisk) → pick (SubdiskRecord s) ≡ None
  pub dco : (d : Dco) → pick (DcoRecord d) ≡ None
  pub vol : (v w : Vol) → w.name ≡ v.name → pick (VolRecord w) ≡ pick (VolRecord v)

module _ {A : Type 0} (pick : Object → Option A) (left : IsLeft pick) where
  kept_left : (b : Bool) (o : Object) → pick o ≡ None → then_pick pick (kept b o) ≡ pick o
  kept_left true o none = refl
  kept_left false o none = sym none

  gone_left : (b : Bool) (d : Dco) → then_pick pick (if b then None else Some (DcoRecord d)) ≡ pick (DcoRecord d)
  gone_left true d = sym (left.dco d)
  gone_left false d = refl

  named_left : (b : Bool) (v w : Vol) → w.name ≡ v.name → pick (VolRecord (if b then w else v)) ≡ pick (VolRecord v)
  named_left true v w same = left.vol v w same
  named_left false v w same = refl

  same_by : (e : Edit) (o : Object) → then_pick pick (set_by e o) ≡ pick o
  same_by (edit.SetPlex plex to next k) (PlexRecord p) = left.plex (if bytes_eq p.name plex then record p { vol = to; state = next; map = k } else p) ∙ sym (left.plex p)
  same_by (edit.SetVol name next policy) (VolRecord v) = named_left (bytes_eq v.name name) v (record v { state = next; rdpol = policy_kind policy; prefer = policy_plex policy }) refl
  same_by (edit.SetRegion name region) (VolRecord v) = named_left (bytes_eq v.name name) v (record v { region = region }) refl
  same_by (edit.AddDco dco) (VolRecord v) = named_left (bytes_eq v.name dco.vol) v (record v { dco = Some dco.name }) refl
  same_by (edit.RemovePlex plex) (PlexRecord p) = kept_left (not (bytes_eq p.name plex)) (PlexRecord p) (left.plex p)
  same_by (edit.RemovePlex plex) (SubdiskRecord s) = kept_left (not (refers s.plex plex)) (SubdiskRecord s) (left.subdisk s)
  same_by (edit.RemoveDco dco) (VolRecord v) = named_left (refers v.dco dco) v (record v { dco = None }) refl
  same_by (edit.RemoveDco dco) (DcoRecord d) = gone_left (bytes_eq d.name dco) d
  same_by e o = refl

  none_added : (c : Config) (vol : Word) (e : Edit) → IsEditOf c vol e → filter_map pick (added e) ≡ []
  unfolding added
  none_added c vol (edit.AddDisk disk) of = absurd of
  none_added c vol (edit.Make objects) of = no_parts pick left.plex left.subdisk vol objects of
  none_added c vol (edit.SetPlex plex to next k) of = refl
  none_added c vol (edit.SetVol name next policy) of = refl
  none_added c vol (edit.RemovePlex plex) of = refl
  none_added c vol (edit.RemoveVol name) of = absurd of
  none_added c vol (edit.AddDco dco) of = ap (λ x. cons_option x []) (left.dco dco)
  none_added c vol (edit.RemoveDco dco) of = refl
  none_added c vol (edit.AddSnap snap) of = absurd of
  none_added c vol (edit.RemoveSnap snap) of = absurd of
  none_added c vol (edit.SetRegion name region) of = refl

  -- edits of one volume leave them all, and add none
  pub edits_leave : (c : Config) (vol : Word) (es : List Edit) → AreEditsOf c vol es → (os : List Object) → filter_map pick (edited_by es os) ≡ filter_map pick os
  edits_leave c vol [] of os = refl
  edits_leave c vol (e ∷ es) of os =
      edits_leave c vol es of.1 (edited e os)
      ∙ ap (λ ps. filter_map pick ps) (edited_is c vol e of.0 os)
      ∙ set_with pick (λ o. set_by e o) (same_by e) os (added e)
      ∙ ap (λ xs. filter_map pick os ++ xs) (none_added c vol e of.0)
      ∙ append-nil (filter_map pick os)

disks_left : IsLeft as_disk
disks_left = record { plex = λ p. refl; subdisk = λ s. refl; dco = λ d. refl; vol = λ v w same. refl }

snaps_left : IsLeft as_snap
snaps_left = record { plex = λ p. refl; subdisk = λ s. refl; dco = λ d. refl; vol = λ v w same. refl }

groups_left : IsLeft as_group
groups_left = record { plex = λ p. refl; subdisk = λ s. refl; dco = λ d. refl; vol = λ v w same. refl }

-- ---- the group, its disks, and the names of its volumes

abbrev vol_name : Object → Option Word
vol_name (VolRecord v) = Some v.name
vol_name o = None

names_left : IsLeft vol_name
names_left = record { plex = λ p. refl; subdisk = λ s. refl; dco = λ d. refl; vol = λ v w same. ap (λ n. Some n) same }

vol_names_are : (os : List Object) → filter_map vol_name os ≡ map (λ (v : Vol). v.name) (filter_map as_vol os)
vol_names_are [] = refl
vol_names_are (VolRecord v ∷ os) = ap (λ ns. v.name ∷ ns) (vol_names_are os)
vol_names_are (GroupRecord x ∷ os) = vol_names_are os
vol_names_are (DiskRecord x ∷ os) = vol_names_are os
vol_names_are (SubdiskRecord x ∷ os) = vol_names_are os
vol_names_are (PlexRecord x ∷ os) = vol_names_are os
vol_names_are (DcoRecord x ∷ os) = vol_names_are os
vol_names_are (SnapRecord x ∷ os) = vol_names_are os

any_mapped : (name : Word) (vs : List Vol) → list_any (λ n. bytes_eq n name) (map (λ (v : Vol). v.name) vs) ≡ list_any (λ (v : Vol). bytes_eq v.name name) vs
any_mapped name [] = refl
any_mapped name (v ∷ vs) = rw (any_mapped name vs) refl

same_head : (g h : Group) (os ps : List Object) → GroupRecord g ∷ os ≡ GroupRecord h ∷ ps → g.name ≡ h.name
same_head g h os ps e = cc

module _ (c c' : Config) (vol : Word) (es : List Edit) (of : AreEditsOf c vol es) (is : objects_of c' ≡ in_kinds (edited_by es (objects_of c))) where
  abbrev all : List Object
  all = edited_by es (objects_of c)

  pub group_same : c'.group ≡ c.group
  group_same =
      let now : Group = record { name = c'.group; version = c'.version } in
      let was : Group = record { name = c.group; version = c.version } in
      same_head now was _ _ (is ∙ ap (λ gs. map GroupRecord gs ++ sorted_below all) (edits_leave as_group groups_left c vol es of (objects_of c)))

  pub disks_same : c'.disks ≡ c.disks
  disks_same = disks_are c' all is ∙ edits_leave as_disk disks_left c vol es of (objects_of c) ∙ disks_own c

  pub snaps_same : c'.snaps ≡ c.snaps
  snaps_same = snaps_are c' all is ∙ edits_leave as_snap snaps_left c vol es of (objects_of c) ∙ snaps_own c

  vol_names_same : map (λ (v : Vol). v.name) c'.volumes ≡ map (λ (v : Vol). v.name) c.volumes
  vol_names_same =
      ap (λ vs. map (λ (v : Vol). v.name) vs) (volumes_are c' all is)
      ∙ sym (vol_names_are all)
      ∙ edits_leave vol_name names_left c vol es of (objects_of c)
      ∙ vol_names_are (objects_of c)
      ∙ ap (λ vs. map (λ (v : Vol). v.name) vs) (volumes_own c)

  pub vol_known : (name : Word) → list_any (λ (v : Vol). bytes_eq v.name name) c'.volumes ≡ true → list_any (λ (v : Vol). bytes_eq v.name name) c.volumes ≡ true
  vol_known name there =
      sym (any_mapped name c.volumes) ∙ ap (λ ns. list_any (λ n. bytes_eq n name) ns) (sym vol_names_same) ∙ any_mapped name c'.volumes ∙ there

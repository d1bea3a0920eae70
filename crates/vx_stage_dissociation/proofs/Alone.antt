-- A plex of no volume is removed: each volume stays recorded as it was, and the group and its disks do.
use Rattle.std.proofs.Common.{◌≡◌, ◌≢◌, ◌∙◌, Bool, true, false, List, [], ◌∷◌, ◌++◌, map, Option, None, refl, sym, ap}
use Rattle.std.specs.List.{filter_map}
use Rattle.std.specs.Str.{bytes_eq}
use Rattle.std.specs.Prelude.{not}
use Rattle.std.proofs.lemmas.Bool.{false≢true}
use Rattle.std.proofs.lemmas.List.{append-nil}
use Rattle.vx_base.specs.Named.{Word}
use Rattle.vx_base.proofs.NamedLemmas.{bytes_eq_same}
use Rattle.vx_config_parts.specs.declared.group.Group.{Group}
use Rattle.vx_config_parts.specs.declared.object.Object.{Object}
use Rattle.vx_config_parts.specs.declared.object.Object.TheVariants.{DcoRecord, DiskRecord, GroupRecord, PlexRecord, SnapRecord, SubdiskRecord, VolRecord}
use Rattle.vx_config_parts.specs.declared.plex.Plex.{Plex}
use Rattle.vx_config_parts.specs.declared.subdisk.Subdisk.{Subdisk}
use Rattle.vx_config_parts.specs.declared.vol.Vol.{Vol}
use Rattle.vx_config_parts.specs.Objects.{refers}
use Rattle.vx_objects.specs.declared.config.Config.{Config}
use Rattle.vx_objects.specs.declared.edit.Edit.TheVariants.{RemovePlex}
use Rattle.vx_objects.specs.Applied.{IsEdited}
use Rattle.vx_objects.specs.Config.{objects_of}
use Rattle.vx_objects.specs.Edits.{added, change, edited, kept, stays_without_plex}
use Rattle.vx_objects.specs.Parts.{as_disk, as_group, as_plex, as_snap, as_subdisk, in_kinds, sorted_below}
use Rattle.vx_image.proofs.PlexMembers.{IsIn}
use Rattle.vx_lending.proofs.Distinct.{filtered}
use Rattle.vx_lending.proofs.Rules.{one_plex}
use Rattle.vx_group_edits.specs.Stays.{EachStays}
use Rattle.vx_group_edits.proofs.ByKind.{Leaves, disks_are, disks_own, plex_recorded, untouched}
use Rattle.vx_group_edits.proofs.Changed.{names_one, true_from_not}
use Rattle.vx_group_edits.proofs.Lists.{kept_seen, not_picked, picked}
use Rattle.vx_group_edits.proofs.OwnEdits.{set_with, then_pick}
use Rattle.vx_group_edits.proofs.Untouched.{plexes_of, stays}

removed_edited : (name : Word) (os : List Object) → edited (RemovePlex name) os ≡ filter_map (λ o. kept (stays_without_plex name o) o) os ++ []
unfolding change added
removed_edited name os = refl

same_head : (g h : Group) (os ps : List Object) → GroupRecord g ∷ os ≡ GroupRecord h ∷ ps → g.name ≡ h.name
same_head g h os ps e = cc

module _ (c c' : Config) (p : Plex) (there : IsIn c.plexes p) (none : p.vol ≡ None) (is : IsEdited (RemovePlex p.name ∷ []) c c') where
  abbrev stays_there : Object → Bool
  stays_there o = stays_without_plex p.name o

  abbrev without : Object → Option Object
  without o = kept (stays_there o) o

  -- what goes is of no volume
  of_none : (q : Plex) (v : Word) → IsIn c.plexes q → q.name ≡ p.name → refers q.vol v ≡ false
  of_none q v at same = ap (λ (x : Plex). refers x.vol v) (one_plex c q p at there same) ∙ ap (λ o. refers o v) none

  edits : objects_of c' ≡ in_kinds (filter_map without (objects_of c) ++ [])
  edits = is ∙ ap (λ os. in_kinds os) (removed_edited p.name (objects_of c))

  -- ---- the group and its disks

  module _ {A : Type 0} (pick : Object → Option A) (plex : (q : Plex) → pick (PlexRecord q) ≡ None) (subdisk : (s : Subdisk) → pick (SubdiskRecord s) ≡ None) where
    left_by : (b : Bool) (o : Object) → pick o ≡ None → then_pick pick (kept b o) ≡ pick o
    left_by true o gone = refl
    left_by false o gone = sym gone

    left : (o : Object) → then_pick pick (without o) ≡ pick o
    left (PlexRecord q) = left_by (not (bytes_eq q.name p.name)) (PlexRecord q) (plex q)
    left (SubdiskRecord s) = left_by (not (refers s.plex p.name)) (SubdiskRecord s) (subdisk s)
    left (GroupRecord x) = refl
    left (DiskRecord x) = refl
    left (VolRecord x) = refl
    left (DcoRecord x) = refl
    left (SnapRecord x) = refl

    all_left : filter_map pick (filter_map without (objects_of c) ++ []) ≡ filter_map pick (objects_of c)
    all_left = set_with pick without left (objects_of c) [] ∙ append-nil (filter_map pick (objects_of c))

  group_same : c'.group ≡ c.group
  group_same =
      let now : Group = record { name = c'.group; version = c'.version } in
      let was : Group = record { name = c.group; version = c.version } in
      same_head now was _ _ (edits ∙ ap (λ gs. map GroupRecord gs ++ sorted_below (filter_map without (objects_of c) ++ [])) (all_left as_group (λ q. refl) (λ s. refl)))

  disks_same : c'.disks ≡ c.disks
  disks_same = disks_are c' (filter_map without (objects_of c) ++ []) edits ∙ all_left as_disk (λ q. refl) (λ s. refl) ∙ disks_own c

  -- ---- its volumes

  module _ (v : Vol) where
    plex_gone : (o : Object) → IsIn (objects_of c) o → stays_there o ≡ false → picked (λ q. refers q.vol v.name) as_plex (as_plex o) ≡ []
    plex_gone (PlexRecord q) at gone =
        not_picked (λ q. refers q.vol v.name) as_plex q (of_none q v.name (plex_recorded c q at) (bytes_eq_same q.name p.name (true_from_not (bytes_eq q.name p.name) gone)))
    plex_gone o at gone = refl

    subdisk_gone : (q : Plex) → IsIn (plexes_of c v.name) q → (o : Object) → stays_there o ≡ false → picked (λ s. refers s.plex q.name) as_subdisk (as_subdisk o) ≡ []
    subdisk_gone q own (SubdiskRecord s) gone =
        let mine = filtered (λ x. refers x.vol v.name) c.plexes q own in
        not_picked (λ s. refers s.plex q.name) as_subdisk s
        (names_one s.plex p.name q.name (true_from_not (refers s.plex p.name) gone) (λ same. false≢true (sym (of_none q v.name mine.0 (sym same)) ∙ mine.1)))
    subdisk_gone q own o gone = refl

    disk_gone : (o : Object) → stays_there o ≡ false → picked (λ d. true) as_disk (as_disk o) ≡ []
    disk_gone (DiskRecord d) gone = absurd (false≢true (sym gone))
    disk_gone o gone = refl

    snap_gone : (o : Object) → stays_there o ≡ false → picked (λ s. true) as_snap (as_snap o) ≡ []
    snap_gone (SnapRecord s) gone = absurd (false≢true (sym gone))
    snap_gone o gone = refl

    leaves : Leaves c v without []
    leaves = record {
      now = v;
      vol = refl;
      name = refl;
      state = refl;
      length_is = refl;
      region_is = refl;
      dco = refl;
      plexes = λ o at. kept_seen (λ q. refers q.vol v.name) as_plex (stays_there o) o (plex_gone o at);
      subdisks = λ q own o at. kept_seen (λ s. refers s.plex q.name) as_subdisk (stays_there o) o (subdisk_gone q own o);
      disks = λ o at. kept_seen (λ d. true) as_disk (stays_there o) o (disk_gone o);
      snaps = λ o at. kept_seen (λ s. true) as_snap (stays_there o) o (snap_gone o);
      no_plex = refl;
      no_subdisk = λ q own. refl;
      no_snap = refl;
    }

  -- whichever they are, all stay
  pub all_stay : (These : Vol → Type 0) → EachStays These c c'
  all_stay These v of these good good' fewer = stays c v c' good good' fewer (untouched c v of c' without [] edits (leaves v))

  pub same_group : c'.group ≡ c.group
  same_group = group_same

  pub same_disks : c'.disks ≡ c.disks
  same_disks = disks_same

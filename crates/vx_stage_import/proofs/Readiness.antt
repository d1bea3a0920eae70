-- The devices whose slot is good are disks that can take the commit of the configuration.
use Rattle.std.proofs.Common.{◌≡◌, ◌≢◌, ◌∙◌, ◌&&◌, ◌||◌, ◌==◌, ◌-◌, ℕ, ◌<◌, ◌≤◌, Bool, true, false, cond, not, List, [], ◌∷◌, ◌++◌, map, Some, None, refl, sym, ap, subst, arith}
use Rattle.std.specs.Str.{bytes_eq}
use Rattle.std.specs.List.{list_any, filter_map}
use Rattle.std.proofs.lemmas.List.Elements.{filter_map-append}
use Rattle.vx_base.specs.Named.{Word}
use Rattle.vx_base.proofs.NamedLemmas.{bytes_eq_same}
use Rattle.vx_mask.specs.Mask.{has}
use Rattle.vx_header.specs.Named.{Label}
use Rattle.vx_piece.specs.Seen.{Seen}
use Rattle.vx_config_parts.specs.declared.disk.Disk.{Disk as DiskPart}
use Rattle.vx_config_parts.specs.declared.object.Object.{Object}
use Rattle.vx_config_parts.specs.declared.object.Object.TheVariants.{GroupRecord, DiskRecord, SubdiskRecord, PlexRecord, VolRecord, DcoRecord, SnapRecord}
use Rattle.vx_objects.specs.declared.config.Config.{Config}
use Rattle.vx_objects.specs.Config.{objects_of}
use Rattle.vx_objects.specs.Parts.{as_group, as_disk, as_subdisk, as_plex, as_vol, as_dco, as_snap, in_kinds, sorted_below}
use Rattle.vx_objects.proofs.InKinds.{disks_below}
use Rattle.vx_copies.specs.Lists.{AllOf}
use Rattle.vx_copies.specs.Disks.{DiskSeen as DiskHeld, disk_seen as disk_held, IsReady, IsBelow}
use Rattle.vx_copies.specs.declared.disk.Disk.{Disk}
use Rattle.vx_confdb.specs.Groups.{IsMemberOf}
use Rattle.vx_import.specs.Looks.{Looked, looked, HasReading, IsPrivate}
use Rattle.vx_import.specs.Choice.{IfToggle}
use Rattle.vx_import.specs.Answers.{IsOf, IsGiven, disk_of}
use Rattle.vx_import.specs.declared.device.GroupDevice.{GroupDevice}
use Rattle.vx_import.specs.declared.judging.Given.{Given}
use Rattle.vx_import.proofs.Members.{own_front, ready, member_of, below}
use Rattle.vx_stages.specs.Finding.{needs_sync, import_records}
use Rattle.vx_house.specs.View.{HaveSlots, AreRecorded}
use Rattle.vx_house.proofs.AllLaws.{all_mapped, all_unmapped, all_each, all_two}
use Rattle.vx_stage_import.specs.Places.{ArePlaced}
use Rattle.vx_stage_import.specs.Finds.{IsOfGroup, AreLooked}
use Rattle.vx_stage_import.specs.Judging.{is_disk_of, stray_in}
use Rattle.vx_stage_import.specs.Readying.{IsReadied, AreCommittable}
use Rattle.vx_stage_import.specs.Giving.{good_looks, disk_in, disks_in, seen_disks}
use Rattle.vx_stage_import.proofs.Goods.{all_good, are_good, good_placed, good_readable}
use Rattle.vx_stage_import.proofs.SearchLaws.{slots_mapped}

abbrev first_name : List Object → Word
first_name [] = []
first_name (GroupRecord g ∷ os) = g.name
first_name (o ∷ os) = []

still_disk : (o : Object) → as_disk (needs_sync o) ≡ as_disk o
still_disk (GroupRecord g) = refl
still_disk (DiskRecord d) = refl
still_disk (SubdiskRecord s) = refl
still_disk (PlexRecord p) = refl
still_disk (VolRecord v) = refl
still_disk (DcoRecord d) = refl
still_disk (SnapRecord s) = refl

disks_synced : (os : List Object) → filter_map as_disk (map needs_sync os) ≡ filter_map as_disk os
disks_synced [] = refl
disks_synced (o ∷ os) = rw (still_disk o, disks_synced os) refl

no_disks : {A : Type 0} (f : A → Object) → ((a : A) → as_disk (f a) ≡ None) → (xs : List A) → filter_map as_disk (map f xs) ≡ []
no_disks f none [] = refl
no_disks f none (x ∷ xs) = rw (none x, no_disks f none xs) refl

disks_sorted : (all : List Object) → filter_map as_disk (in_kinds all) ≡ filter_map as_disk all
disks_sorted all =
    filter_map-append as_disk (map GroupRecord (filter_map as_group all)) (sorted_below all)
    ∙ ap (λ (zs : List DiskPart). zs ++ filter_map as_disk (sorted_below all)) (no_disks GroupRecord (λ a. refl) (filter_map as_group all))
    ∙ disks_below (filter_map as_disk all) (filter_map as_subdisk all) (filter_map as_plex all) (filter_map as_vol all) (filter_map as_dco all) (filter_map as_snap all)

disks_of : (c : Config) → filter_map as_disk (objects_of c) ≡ c.disks
disks_of c = disks_below c.disks c.subdisks c.plexes c.volumes c.dcos c.snaps

-- what is committed has the name and the disks of what was read
module _ (config after : Config) (made : objects_of after ≡ import_records config) where
  pub same_group : after.group ≡ config.group
  same_group = ap first_name made

  pub same_disks : after.disks ≡ config.disks
  same_disks = sym (disks_of after) ∙ ap (filter_map as_disk) made ∙ disks_sorted (map needs_sync (objects_of config)) ∙ disks_synced (objects_of config) ∙ disks_of config

-- where no good disk is unrecorded, each has a record with its slot
any_slot : (l : Label) (ds : List DiskPart) → list_any (is_disk_of l) ds ≡ true → list_any (λ r. r.slot == l.slot) ds ≡ true
any_slot l [] is = cc
any_slot l (d ∷ ds) is = by (d.slot == l.slot) (bytes_eq d.name l.disk) (d.publen == l.sectors - 2048) (any_slot l ds) is
  where
    by : (a b c : Bool) → (list_any (is_disk_of l) ds ≡ true → list_any (λ r. r.slot == l.slot) ds ≡ true) → ((a && b && c) || list_any (is_disk_of l) ds) ≡ true → (a || list_any (λ r. r.slot == l.slot) ds) ≡ true
    by true b c rest is = refl
    by false b c rest is = rest is

abbrev pub IsRecorded : List DiskPart → ℕ → Type 0
IsRecorded disks slot = list_any (λ r. r.slot == slot) disks ≡ true

no_stray : (disks : List DiskPart) (good : ℕ) (ls : List Label) → stray_in disks good ls ≡ None → AllOf (λ l. has good l.slot ≡ true → IsRecorded disks l.slot) ls
no_stray disks good [] none = tt
no_stray disks good (l ∷ ls) none = by (has good l.slot) refl (list_any (is_disk_of l) disks) refl (no_stray disks good ls) none
  where
    by : (g : Bool) → has good l.slot ≡ g → (r : Bool) → list_any (is_disk_of l) disks ≡ r → (stray_in disks good ls ≡ None → AllOf (λ l. has good l.slot ≡ true → IsRecorded disks l.slot) ls) → cond (g && not r) (Some l.disk) (stray_in disks good ls) ≡ None → AllOf (λ l. has good l.slot ≡ true → IsRecorded disks l.slot) (l ∷ ls)
    by true e true f rest none = (λ is. any_slot l disks f, rest none)
    by true e false f rest none = cc
    by false e r f rest none = (λ is. let x : false ≡ true = sym e ∙ is in cc, rest none)

-- slots that rise differ
others_differ : {P : Type 0} (see : P → Seen) (slot : ℕ) (ds : List (Disk P)) → AllOf (λ n. slot < n) (map (λ h. h.slot) (map (disk_held see) ds)) → AllOf (λ e. e.slot ≢ slot) ds
others_differ see slot [] all = tt
others_differ see slot (d ∷ ds) all = ((λ e. let lt = all.0 in absurd (omega (arith, lt, e))), others_differ see slot ds all.1)

slots_differ : {P : Type 0} (see : P → Seen) (ds : List (Disk P)) → ArePlaced (map (λ h. h.slot) (map (disk_held see) ds)) → HaveSlots ds
slots_differ see [] placed = tt
slots_differ see (d ∷ ds) placed = (others_differ see d.slot ds placed.0, slots_differ see ds placed.1)

disk_slots : (fs : List Looked) → map (λ h. h.slot) (disks_in fs) ≡ map (λ f. f.label.slot) fs
disk_slots [] = refl
disk_slots (f ∷ fs) = ap (λ ns. f.label.slot ∷ ns) (disk_slots fs)

module _ {P : Type 0} (see : P → Seen) (dg : Word) (last : ℕ) where
  -- a device that can be read is ready as a disk, and offers nothing above the highest sequence
  abbrev Commits : Looked → Type 0
  Commits l = l.readable ≡ true → (device : Word) → IsReady (disk_of true device l l.seen) × IsMemberOf dg (disk_of true device l l.seen) × IsBelow dg last (disk_of true device l l.seen)

  all_commit : (fs : List (GroupDevice P)) → AllOf IsPrivate (map (looked see) fs) → AllOf (IsOf dg) (map (looked see) fs) → AllOf HasReading (map (looked see) fs) → AllOf (IfToggle (λ n. n ≤ last)) (map (looked see) fs) → AllOf Commits (map (looked see) fs)
  all_commit [] private of read up = tt
  all_commit (f ∷ fs) private of read up = (
    λ readable device. (
      ready see dg f (see f.piece) private.0 (own_front (see f.piece).told) of.0 read.0 readable true device,
      member_of see dg f (see f.piece) private.0 (own_front (see f.piece).told) of.0 read.0 readable true device,
      below see dg f (see f.piece) private.0 (own_front (see f.piece).told) of.0 read.0 readable true device last up.0,
    ),
    all_commit fs private.1 of.1 read.1 up.1,
  )

-- the finds as they were looked at, and what is given
module _ {P : Type 0} (see : P → Seen) (dg : Word) (ds : List (GroupDevice P)) (looks : AreLooked see dg ds) (given : Given) (is : IsGiven dg given (map (looked see) ds)) where
  abbrev pub fs : List Looked
  fs = map (looked see) ds

  abbrev pub goods : List Looked
  goods = good_looks given.good fs

  pub placed : ArePlaced (map (λ f. f.label.slot) fs)
  placed = subst ArePlaced (sym (slots_mapped see ds)) looks.rising

  low : AllOf (λ f. f.label.slot < 32) fs
  low = all_each (IsOfGroup dg) (λ f. f.label.slot < 32) (λ f of. of.slot) fs looks.each

  readable : AllOf (λ f. f.readable ≡ true) goods
  readable = good_readable given.good fs placed low is.there

  commits : AllOf (Commits see dg given.sequence) fs
  commits = all_commit see dg given.sequence ds
      (all_each (IsOfGroup dg) IsPrivate (λ f of. let a = of.public in let b = of.size in omega (arith, a, b)) fs looks.each)
      (all_each (IsOfGroup dg) (IsOf dg) (λ f of. record { group_is = of.group_is; headed = of.headed }) fs looks.each)
      is.chosen.read is.chosen.top.up_to

  -- it can take the commit as a disk
  abbrev Three : Looked → Type 0
  Three f = IsReady (disk_in f) × IsMemberOf dg (disk_in f) × IsBelow dg given.sequence (disk_in f)

  good_commits : AllOf Three goods
  good_commits = all_two (λ f. f.readable ≡ true) (Commits see dg given.sequence) Three (λ f can on. on can f.device) goods readable (all_good given.good (Commits see dg given.sequence) fs commits)

  abbrev Sized : DiskHeld → Type 0
  Sized h = h.seen.sectors ≡ h.sectors

  good_sized : AllOf (λ f. Sized (disk_in f)) goods
  good_sized = all_each (IsOfGroup dg) (λ f. Sized (disk_in f)) (λ f of. sym of.size) goods (all_good given.good (IsOfGroup dg) fs looks.each)

  on : (es : List (Disk P)) → seen_disks see es ≡ disks_in goods → (Q : DiskHeld → Type 0) → AllOf (λ f. Q (disk_in f)) goods → AllOf Q (seen_disks see es)
  on es same Q all = subst (AllOf Q) (sym same) (all_mapped Q disk_in goods all)

  -- the disks that were made of them
  pub committable : (es : List (Disk P)) → seen_disks see es ≡ disks_in goods → AreCommittable see dg given.sequence es
  committable es same = record {
    ready = on es same IsReady (all_each Three (λ f. IsReady (disk_in f)) (λ f h. h.0) goods good_commits);
    headed = on es same (IsMemberOf dg) (all_each Three (λ f. IsMemberOf dg (disk_in f)) (λ f h. h.1) goods good_commits);
    below = on es same (IsBelow dg given.sequence) (all_each Three (λ f. IsBelow dg given.sequence (disk_in f)) (λ f h. h.2) goods good_commits);
    sized = on es same Sized good_sized;
    slots = slots_differ see es (subst ArePlaced (sym (ap (map (λ h. h.slot)) same ∙ disk_slots goods)) (good_placed given.good fs placed));
  }

  -- each of them has a record with its slot
  module _ (after : Config) (text : List ℕ) (set : IsReadied dg given.good (map (λ f. f.label) fs) after text) where
    pub named : after.group ≡ dg
    named = same_group set.config after set.made ∙ bytes_eq_same set.config.group dg set.named

    recorded : AllOf (λ f. IsRecorded after.disks f.label.slot) goods
    recorded =
        all_two (λ f. has given.good f.label.slot ≡ true) (λ f. has given.good f.label.slot ≡ true → IsRecorded after.disks f.label.slot) (λ f. IsRecorded after.disks f.label.slot) (λ f good on. on good) goods (are_good given.good fs)
        (all_good given.good (λ f. has given.good f.label.slot ≡ true → IsRecorded after.disks f.label.slot) fs
        (all_unmapped (λ l. has given.good l.slot ≡ true → IsRecorded after.disks l.slot) (λ f. f.label) fs
        (no_stray after.disks given.good (map (λ f. f.label) fs) (ap (λ xs. stray_in xs given.good (map (λ f. f.label) fs)) (same_disks set.config after set.made) ∙ set.recorded))))

    pub recorded_disks : (es : List (Disk P)) → seen_disks see es ≡ disks_in goods → AreRecorded after es
    recorded_disks es same = all_unmapped (λ h. IsRecorded after.disks h.slot) (disk_held see) es (on es same (λ h. IsRecorded after.disks h.slot) recorded)

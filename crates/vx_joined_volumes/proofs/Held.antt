-- All disks of a plex are good now, or were as its volume was opened, just where they were good then.
use Rattle.std.proofs.Common.{◌≡◌, inl, inr, ℕ, ◌+◌, ◌<◌, Bool, true, false, not, List, [], ◌∷◌, map, refl, sym, ◌∙◌, ap, subst, arith}
use Rattle.std.specs.Prelude.{◌&&◌, ◌||◌, ◌==◌, nat_le, nat_lt}
use Rattle.std.specs.List.{count_by, flat_map, list_all}
use Rattle.std.proofs.lemmas.Bool.{and_parts, eqb-true, ltb-true}
use Rattle.vx_mask.specs.Mask.{has, only}
use Rattle.vx_mask.proofs.MaskLemmas.{has-only_same, has-zero, same_as_only}
use Rattle.vx_mask.proofs.Sets.{in_union, union_cases}
use Rattle.vx_mask.proofs.Tests.{not_both}
use Rattle.vx_layout.specs.declared.place.Place.{Place}
use Rattle.vx_layout.specs.declared.strip.Strip.{Strip}
use Rattle.vx_carve.specs.Strips.{lies_in}
use Rattle.vx_config_parts.specs.declared.disk.Disk.{Disk}
use Rattle.vx_config_parts.specs.declared.object.Object.TheVariants.{DiskRecord}
use Rattle.vx_config_parts.specs.declared.plex.Plex.{Plex}
use Rattle.vx_config_parts.specs.declared.subdisk.Subdisk.{Subdisk}
use Rattle.vx_config_parts.specs.Objects.{is_disk, refers}
use Rattle.vx_objects.specs.declared.config.Config.{Config}
use Rattle.vx_objects.specs.Config.{objects_of}
use Rattle.vx_image.specs.Lies.{columns_of, slot_of, strip_of, strips_of}
use Rattle.vx_image.specs.Room.{public_of}
use Rattle.vx_image.proofs.PlexMembers.{IsIn, all_in, any_in, disk_in, from_map, in_either}
use Rattle.vx_image.proofs.Apart.{all_from}
use Rattle.vx_image.proofs.Plexes.{config_valid, filled}
use Rattle.vx_image.proofs.Valid.{slot_own}
use Rattle.vx_image.specs.Bytes.{is_held}
use Rattle.vx_image.specs.Own.{IsOfVolume}
use Rattle.vx_image.proofs.Members.{contains}
use Rattle.vx_lending.specs.FormLaws.{good_disks}
use Rattle.vx_lending.proofs.Distinct.{filtered}
use Rattle.vx_lending.proofs.Places.{columns_lie}
use Rattle.vx_volume_laws.specs.Keeping.{LiesStill}
use Rattle.vx_group_volumes.specs.Places.{disks_at}
use Rattle.vx_group_volumes.specs.Runs.{Opening}
use Rattle.vx_joined_volumes.specs.Joined.{good_joined, mask_of_slots}
use Rattle.vx_joined_volumes.proofs.Strips.{first_place, strip_in}

-- ---- the mask of slots

-- the slot of each disk is in it, ..
slot_in : (ds : List Disk) (d : Disk) → IsIn ds d → d.slot < 64 → has (mask_of_slots ds) d.slot ≡ true
slot_in [] d there low = absurd there
slot_in (e ∷ ds) d (inl same) low = in_union (only e.slot) (mask_of_slots ds) d.slot (inl (subst (λ (x : Disk). has (only x.slot) d.slot ≡ true) same (has-only_same d.slot low)))
slot_in (e ∷ ds) d (inr there) low = in_union (only e.slot) (mask_of_slots ds) d.slot (inr (slot_in ds d there low))

-- .. and no other
slot_from : (ds : List Disk) (slot : ℕ) → has (mask_of_slots ds) slot ≡ true → (d : Disk) × IsIn ds d × (d.slot ≡ slot)
slot_from [] slot there = not_both there (has-zero slot)
slot_from (e ∷ ds) slot there = elim (union_cases (only e.slot) (mask_of_slots ds) slot there) [
  | inl here ↦ (e, inl refl, sym (same_as_only e.slot slot here))
  | inr later ↦ let r = slot_from ds slot later in (r.0, inr r.1, r.2)
]

-- slots are below 32
slot_low : (c : Config) (d : Disk) → IsIn c.disks d → d.slot < 64
slot_low c d there =
    let low = ltb-true d.slot 32 (and_parts (nat_lt d.slot 32) (nat_le (count_by (λ o. is_disk (λ e. e.slot == d.slot) o) (objects_of c)) 1) (slot_own (objects_of c) (DiskRecord d) (config_valid c) (disk_in c d there))).0 in
    omega (arith, low)

-- ---- plexes that lie where others do

in_flat : (test : Strip → Bool) (columns : List (List Strip)) (x : Strip) → list_all (λ strips. list_all test strips) columns ≡ true → IsIn (flat_map (λ strips. strips) columns) x → test x ≡ true
in_flat test [] x all there = absurd there
in_flat test (strips ∷ columns) x all there =
    let parts = and_parts (list_all test strips) (list_all (λ strips. list_all test strips) columns) all in
    elim (in_either strips (flat_map (λ strips. strips) columns) x there) [
      | inl here ↦ all_in test strips x parts.0 here
      | inr later ↦ in_flat test columns x parts.1 later
    ]

-- each strip of a plex lies on a good disk, where all its disks are good
on_good : (c : Config) (good : ℕ) (q : Plex) → is_held c good q ≡ true → (x : Strip) → IsIn (strips_of c q) x → (d : Disk) × IsIn (good_disks good c.disks) d × (d.slot ≡ x.disk)
on_good c good q held x there =
    let runs = map public_of (good_disks good c.disks) in
    let lie : lies_in (map public_of (good_disks good c.disks)) x ≡ true = in_flat (lies_in (map public_of (good_disks good c.disks))) (columns_of c q) x (columns_lie c good q held q.ncol 0) there in
    let r = any_in (λ r. r.disk == x.disk && nat_le r.sector x.start && nat_le (x.start + x.count) (r.sector + r.count)) runs lie in
    let d = from_map public_of (good_disks good c.disks) r.0 r.1 in
    let first = and_parts (r.0.disk == x.disk && nat_le r.0.sector x.start) _ r.2 in
    let same = eqb-true r.0.disk x.disk (and_parts (r.0.disk == x.disk) _ first.0).0 in
    (d.0, d.1, ap (λ y. y.disk) (sym d.2) ∙ same)

-- Where a plex lies as another does, and the disks on which this one lies are good by other slots wherever they are by its own, all
-- its disks are good by them.
pub held_over : (c0 c : Config) (good0 good : ℕ) (p q : Plex) → IsIn c0.plexes p → columns_of c q ≡ columns_of c0 p →
    ((x : Strip) → IsIn (strips_of c0 p) x → 0 < x.count → (d : Disk) → IsIn (good_disks good c.disks) d → d.slot ≡ x.disk → has good0 x.disk ≡ true) →
    is_held c good q ≡ true → is_held c0 good0 p ≡ true
held_over c0 c good0 good p q here columns each held = all_from (λ s. not (refers s.plex p.name) || has good0 (slot_of c0.disks s.disk)) c0.subdisks (λ s one. by s one (refers s.plex p.name) refl)
  where
    good_slot : (s : Subdisk) → IsIn c0.subdisks s → refers s.plex p.name ≡ true → has good0 (slot_of c0.disks s.disk) ≡ true
    good_slot s one of =
        let strip = strip_of c0.disks s in
        let there = strip_in c0 p here s one of in
        let r = on_good c good q held strip (subst (λ cs. IsIn (flat_map (λ strips. strips) cs) (strip_of c0.disks s)) (sym columns) there) in
        each strip there (filled c0 (config_valid c0) s one) r.0 r.1 r.2

    by : (s : Subdisk) → IsIn c0.subdisks s → (b : Bool) → refers s.plex p.name ≡ b → (not b || has good0 (slot_of c0.disks s.disk)) ≡ true
    by s one true of = good_slot s one of
    by s one false of = refl

-- disks that are more leave a plex held
pub held_more : (c : Config) (good more : ℕ) → ((slot : ℕ) → has good slot ≡ true → has more slot ≡ true) → (p : Plex) → IsIn c.plexes p → is_held c good p ≡ true → is_held c more p ≡ true
held_more c good more each p here held = held_over c c more good p p here refl (λ x in_p some d one slot.
    each x.disk (subst (λ (s : ℕ). has good s ≡ true) slot (filtered (λ (d : Disk). has good d.slot) c.disks d one).1)) held

pub same_test : (a b : Bool) → (a ≡ true → b ≡ true) → (b ≡ true → a ≡ true) → a ≡ b
same_test true b there back = sym (there refl)
same_test false true there back = back refl
same_test false false there back = refl

-- ---- by the disks that were good or are

module _ (o : Opening) (c : Config) (good : ℕ) (were_good : (place : Place) → IsOfVolume o.config o.vol.name place → has good place.disk ≡ true → has o.good place.disk ≡ true) where
  -- a slot that was good is among them, ..
  was_in : (d : Disk) → IsIn (disks_at o) d → has (good_joined o good) d.slot ≡ true
  was_in d there =
      let low = slot_low o.config d (filtered (λ (d : Disk). has o.good d.slot) o.config.disks d there).0 in
      in_union (mask_of_slots (disks_at o)) good d.slot (inl (slot_in (disks_at o) d there low))

  -- .. and of those among them that the volume lies on each was
  was_good : (p : Plex) → IsIn o.config.plexes p → refers p.vol o.vol.name ≡ true → (x : Strip) → IsIn (strips_of o.config p) x → 0 < x.count → has (good_joined o good) x.disk ≡ true → has o.good x.disk ≡ true
  was_good p here own x there some is = elim (union_cases (mask_of_slots (disks_at o)) good x.disk is) [
    | inl then ↦
        let r = slot_from (disks_at o) x.disk then in
        subst (λ (slot : ℕ). has o.good slot ≡ true) r.2 (filtered (λ (d : Disk). has o.good d.slot) o.config.disks r.0 r.1).1
    | inr now ↦ were_good (record { disk = x.disk; sector = x.start }) (p, contains o.config.plexes p here, own, (x, contains (strips_of o.config p) x there, first_place x some)) now
  ]

  pub held_joined : (p q : Plex) → IsIn o.config.plexes p → refers p.vol o.vol.name ≡ true → IsIn c.plexes q → LiesStill o.config c p q → is_held c (good_joined o good) q ≡ is_held o.config o.good p
  held_joined p q here own there lies = same_test _ _
      (held_over o.config c o.good (good_joined o good) p q here lies.columns (λ x in_p some d one slot.
      was_good p here own x in_p some (subst (λ (s : ℕ). has (good_joined o good) s ≡ true) slot (filtered (λ (d : Disk). has (good_joined o good) d.slot) c.disks d one).1)))
      (held_over c o.config (good_joined o good) o.good q p there (sym lies.columns) (λ x in_q some d one slot.
      subst (λ (s : ℕ). has (good_joined o good) s ≡ true) slot (was_in d one)))

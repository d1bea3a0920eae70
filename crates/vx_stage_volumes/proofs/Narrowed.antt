-- Copies of the log of a volume were called among the pieces of its group: the image of the volume is what it was, or its copies have come nearer
-- to one another.
use Rattle.std.proofs.Common.{◌≡◌, ◌∙◌, inl, inr, ℕ, ◌+◌, ◌≤◌, ◌==◌, Bool, true, false, cond, List, [], ◌∷◌, ◌++◌, map, Option, Some, None, refl, sym, ap, subst, arith}
use Rattle.std.specs.Prelude.{IfSome}
use Rattle.std.specs.List.{All, list_any}
use Rattle.std.specs.Str.{bytes_eq}
use Rattle.std.proofs.lemmas.Bool.{eqb-true, false≢true}
use Rattle.std.proofs.lemmas.List.{append-nil}
use Rattle.std.proofs.lemmas.List.Elements.{All-weaker}
use Rattle.std.proofs.lemmas.List.Sums.{sum_by-append}
use Rattle.vx_base.proofs.NamedLemmas.{bytes_eq_self}
use Rattle.vx_pages.specs.declared.local_piece.LocalPiece.{Ghosts}
use Rattle.vx_base.specs.Blocks.{Contents}
use Rattle.vx_base.specs.Named.{Word}
use Rattle.vx_mask.specs.Mask.{has as has_slot}
use Rattle.vx_piece.specs.Seen.{AreCounts, EndsThere, Seen}
use Rattle.vx_carve.specs.Together.{AreOnce, Holds, SameSectors, covers, has as has_sector, owners}
use Rattle.vx_carve.proofs.Runs.{same_after}
use Rattle.vx_carve.proofs.Same.{same_beside, same_refl, same_trans}
use Rattle.vx_config_parts.specs.declared.vol.Vol.{Vol}
use Rattle.vx_objects.specs.declared.config.Config.{Config}
use Rattle.vx_copies.specs.Disks.{DiskSeen, disk_seen, good_mask}
use Rattle.vx_copies.specs.Lists.{AllOf, AnyOf}
use Rattle.vx_copies.specs.declared.disk.Disk.{Disk}
use Rattle.vx_confdb.specs.Groups.{members}
use Rattle.vx_fronts.specs.Fronts.{Rests, whole_disk}
use Rattle.vx_fronts.specs.Laws.{whole_disks}
use Rattle.vx_fronts.specs.Parted.{fronts_of}
use Rattle.vx_fronts.specs.Rests.{AllTell, IsTelling, sector_in}
use Rattle.vx_fronts.proofs.Behind.{turned}
use Rattle.vx_fronts.proofs.Parted.{parted_once}
use Rattle.vx_fronts.proofs.Sectors.{own_told, sector_from, sector_same}
use Rattle.vx_image.specs.Bytes.{Sectors, log_copies, relation_maps}
use Rattle.vx_image.specs.Image.{PlexImage}
use Rattle.vx_image.specs.Narrowing.{IsNarrowed}
use Rattle.vx_image.specs.Own.{SameInside}
use Rattle.vx_image.proofs.Narrowing.{narrowed_self}
use Rattle.vx_image.proofs.Own.{image_own}
use Rattle.vx_moments.specs.Moment.{Moment}
use Rattle.vx_moments.specs.World.{Device, Group, Member}
use Rattle.vx_moments.specs.Group.{image_on, public_of, sectors_of}
use Rattle.vx_moments.specs.Owners.{device_at}
use Rattle.vx_lending.specs.Form.{IsFormOf}
use Rattle.vx_lending.specs.FormLaws.{AreNumbered}
use Rattle.vx_lending.specs.declared.form.VolumeForm.{VolumeForm}
use Rattle.vx_volume_laws.specs.Contents.{AreSectorsOf}
use Rattle.vx_lending.specs.RegionPieces.{all_pieces}
use Rattle.vx_lending.specs.Pieces.{copy_pieces}
use Rattle.vx_lending.specs.Public.{lent_pieces, still_pieces}
use Rattle.vx_lending.specs.declared.public.Public.{Public}
use Rattle.vx_group_start.specs.Together.{GoByCopies, GoByLog}
use Rattle.vx_maps.specs.Creating.{AllTell as EachTells}
use Rattle.vx_group_start.proofs.Together.{all_hold_as, among, beside, contents as later_contents, copies_told, holding, own}
use Rattle.vx_group_volumes.specs.LogLaws.{EachCopyNarrows}
use Rattle.vx_group_volumes.proofs.NearerPlexes.{same_plexes}
use Rattle.vx_group_volumes.proofs.Taken.{sector_own as taken_sector}
use Rattle.vx_house.specs.Holders.{AreApart, Holder, IsTakenFrom, group_holders, group_rests, hand_holder, holder_in, volume_holder, whole_members}
use Rattle.vx_house.specs.Runs.{IsNumbered}
use Rattle.vx_house.specs.Scene.{Shelved}
use Rattle.vx_house.specs.View.{IsGroupKept, IsMoment, Keeps, at, member_of}
use Rattle.vx_house.specs.declared.house.House.{House}
use Rattle.vx_house.specs.declared.house.Imported.{Imported}
use Rattle.vx_house.proofs.AllLaws.{all_back, all_front, all_unmapped}
use Rattle.vx_house.proofs.Ends.{keeps_but_group, moment_but_group}
use Rattle.vx_house.proofs.Wholes.{name_whole}
use Rattle.vx_house_calls.specs.Passes.{with_group}
use Rattle.vx_house_calls.proofs.Entries.{all_at_one}
use Rattle.vx_house_calls.proofs.Houses.{whole_numbers}
use Rattle.vx_house_calls.proofs.Owners.{HasNumber, same_name}
use Rattle.vx_stage_volumes.specs.Opening.{AreSlotNumbers, good_of}
use Rattle.vx_stage_volumes.specs.Touching.{behind_of}
use Rattle.vx_stage_volumes.proofs.Held.{pieces, public_there, tells}
use Rattle.vx_stage_volumes.proofs.Slots.{IsAtSlot, good_numbered, is_numbered, low_slots, slot_is_good}
use Rattle.vx_stage_volumes.proofs.Stands.{sectors_at}
use Rattle.vx_stage_volumes.proofs.StillSectors.{sectors_are}

-- what a law and all pieces promise of it
pub record HaveNarrowing {P : Type 0} (see : P → Seen) : Type 0 where
  pub ends : (p : P) → EndsThere (see p)
  pub counts : (p : P) → AreCounts (see p)
  pub law : EachCopyNarrows

-- ---- the order of pieces

swapped : (ps qs : List Seen) → SameSectors (ps ++ qs) (qs ++ ps)
swapped ps qs = subst (λ rs. SameSectors rs (qs ++ ps)) (append-nil (ps ++ qs)) (subst (λ rs. SameSectors ((ps ++ qs) ++ []) (qs ++ rs)) (append-nil ps) (turned ps qs []))

-- ---- sectors by their slots

sectors_none : (devices : Word → Option Device) (ms : List Member) (slot : ℕ) → device_at ms slot ≡ None → (k : ℕ) → sectors_of devices ms slot k ≡ []
sectors_none devices [] slot none k = refl
sectors_none devices (m ∷ ms) slot none k = by (m.slot == slot) none (sectors_none devices ms slot)
  where
    by : (b : Bool) → cond b (Some m.device) (device_at ms slot) ≡ None → (device_at ms slot ≡ None → (k : ℕ) → sectors_of devices ms slot k ≡ []) → cond b (public_of (devices m.device)) (sectors_of devices ms slot) k ≡ []
    by true e rest = let no : Some m.device ≡ None = e in cc
    by false e rest = rest e k

-- the disk of a slot that has a device
record IsDiskAt (hs : List DiskSeen) (slot : ℕ) (device : Word) : Type 0 where
  disk : DiskSeen
  there : AnyOf (λ h. h ≡ disk) hs
  slot_is : disk.slot ≡ slot
  device_is : disk.device ≡ device

disk_at : {P : Type 0} (see : P → Seen) (ds : List (Disk P)) (slot : ℕ) (device : Word) → device_at (map member_of ds) slot ≡ Some device → IsDiskAt (map (disk_seen see) ds) slot device
disk_at see [] slot device is = let no : None ≡ Some device = is in cc
disk_at see (d ∷ ds) slot device is = by (d.slot == slot) refl is (disk_at see ds slot device)
  where
    by : (b : Bool) → (d.slot == slot) ≡ b → cond b (Some d.device) (device_at (map member_of ds) slot) ≡ Some device → (device_at (map member_of ds) slot ≡ Some device → IsDiskAt (map (disk_seen see) ds) slot device) → IsDiskAt (map (disk_seen see) (d ∷ ds)) slot device
    by true e is rest = record { disk = disk_seen see d; there = inl refl; slot_is = eqb-true d.slot slot e; device_is = let same : d.device ≡ device = cc in same }
    by false e is rest = let r = rest is in record { disk = r.disk; there = inr r.there; slot_is = r.slot_is; device_is = r.device_is }

-- two disks of one device are one, where no two devices have one name
apart_of : (hs : List DiskSeen) (x : DiskSeen) (name : Word) → AllOf (λ (h : DiskSeen). bytes_eq name h.device ≡ false) hs → AnyOf (λ h. h ≡ x) hs → name ≡ x.device → ⊥
apart_of hs x name all there same = false≢true (sym (all_at_one (λ (h : DiskSeen). bytes_eq name h.device ≡ false) hs x all there) ∙ subst (λ (n : Word). bytes_eq name n ≡ true) same (bytes_eq_self name))

abbrev AreDevicesApart : List DiskSeen → Type 0
AreDevicesApart [] = Unit {0}
AreDevicesApart (h ∷ hs) = AllOf (λ (o : DiskSeen). bytes_eq h.device o.device ≡ false) hs × AreDevicesApart hs

one_disk : (hs : List DiskSeen) (x y : DiskSeen) → AreDevicesApart hs → AnyOf (λ h. h ≡ x) hs → AnyOf (λ h. h ≡ y) hs → x.device ≡ y.device → x ≡ y
one_disk [] x y apart one two same = absurd one
one_disk (h ∷ hs) x y apart (inl e) (inl f) same = sym e ∙ f
one_disk (h ∷ hs) x y apart (inl e) (inr two) same = absurd (apart_of hs y h.device apart.0 two (ap (λ (d : DiskSeen). d.device) e ∙ same))
one_disk (h ∷ hs) x y apart (inr one) (inl f) same = absurd (apart_of hs x h.device apart.0 one (ap (λ (d : DiskSeen). d.device) f ∙ sym same))
one_disk (h ∷ hs) x y apart (inr one) (inr two) same = one_disk hs x y apart.1 one two same

apart_back : (xs ys : List Holder) → AreApart (xs ++ ys) → AreApart ys
apart_back [] ys apart = apart
apart_back (x ∷ xs) ys apart = apart_back xs ys apart.1

apart_front : (xs ys : List Holder) → AreApart (xs ++ ys) → AreApart xs
apart_front [] ys apart = tt
apart_front (x ∷ xs) ys apart = (all_front (λ (o : Holder). bytes_eq x.name o.name ≡ false) xs ys apart.0, apart_front xs ys apart.1)

devices_apart : (rests : Rests) (hs : List DiskSeen) → AreApart (map holder_in (whole_disks rests hs)) → AreDevicesApart hs
devices_apart rests [] apart = tt
devices_apart rests (h ∷ hs) apart = (each hs apart.0, devices_apart rests hs apart.1)
  where
    each : (xs : List DiskSeen) → AllOf (λ (o : Holder). bytes_eq (whole_disk rests h).device o.name ≡ false) (map holder_in (whole_disks rests xs)) → AllOf (λ (o : DiskSeen). bytes_eq h.device o.device ≡ false) xs
    each [] all = tt
    each (x ∷ xs) all = (
      subst (λ (n : Word). bytes_eq n x.device ≡ false) (name_whole (rests h.seen.device) h) (subst (λ (n : Word). bytes_eq (whole_disk rests h).device n ≡ false) (name_whole (rests x.seen.device) x) all.0),
      each xs all.1,
    )

-- ---- the image

-- Pieces of the group that lie still have become others, and lie where they did among all of the group. The image of the volume is that by its
-- configuration, or by one that is still to come.
module _ {P : Type 0} {ghosts : Ghosts P} (see : P → Seen) (ends : (p : P) → EndsThere (see p)) (counts : (p : P) → AreCounts (see p)) (shelf : Shelved) (h : House P ghosts) (keeps : Keeps see (at shelf h)) (g : Imported P ghosts) (has : h.group ≡ Some g)
    (public : Public P ghosts) (keeps' : Keeps see (at shelf (with_group h (record g { public = public })))) (m n : Moment) (is : IsMoment see (at shelf h) m) (is' : IsMoment see (at shelf (with_group h (record g { public = public }))) n)
    (c : Config) (v : Vol) (X : List Seen) (there : SameSectors (X ++ lent_pieces see g.public) (behind_of see public)) where
  abbrev now : Imported P ghosts
  now = record g { public = public }

  abbrev hs : List DiskSeen
  hs = members see g.base

  -- the group, as the world has it, with that configuration
  abbrev pub gm : Group
  gm = record { config = c; good = good_mask hs; members = map member_of g.base.disks.items; sequence = g.base.sequence }

  kept : IsGroupKept see g
  kept = subst (λ o. IfSome o (IsGroupKept see)) has keeps.house.group

  -- all pieces of the group, and what the devices hold
  abbrev olds : List Seen
  olds = pieces see ends counts (at shelf h) (keeps_but_group see (at shelf h) keeps) m (moment_but_group see (at shelf h) m is) g has

  abbrev pub news : List Seen
  news = pieces see ends counts (at shelf (with_group h now)) (keeps_but_group see (at shelf (with_group h now)) keeps') n (moment_but_group see (at shelf (with_group h now)) n is') now refl

  once : AreOnce olds
  once = parted_once hs (behind_of see g.public) kept.whole.parted

  told : AllTell olds
  told = tells see ends counts (at shelf h) (keeps_but_group see (at shelf h) keeps) m (moment_but_group see (at shelf h) m is) g has

  abbrev bytes : Sectors
  bytes = sectors_of m.world.devices gm.members

  abbrev pub bytes' : Sectors
  bytes' = sectors_of n.world.devices gm.members

  were_there : AllOf (λ (x : DiskSeen). (k : ℕ) → public_of (m.world.devices x.device) k ≡ sector_in olds x.seen.device (2048 + k)) hs
  were_there = public_there see ends counts (at shelf h) (keeps_but_group see (at shelf h) keeps) m (moment_but_group see (at shelf h) m is) g has

  are_there : AllOf (λ (x : DiskSeen). (k : ℕ) → public_of (n.world.devices x.device) k ≡ sector_in news x.seen.device (2048 + k)) hs
  are_there = public_there see ends counts (at shelf (with_group h now)) (keeps_but_group see (at shelf (with_group h now)) keeps') n (moment_but_group see (at shelf (with_group h now)) n is') now refl

  -- a sector holds what it did, where the device of its slot's disk holds it still
  bytes_at : (slot sector : ℕ) → ((x : DiskSeen) → AnyOf (λ y. y ≡ x) hs → x.slot ≡ slot → sector_in news x.seen.device (2048 + sector) ≡ sector_in olds x.seen.device (2048 + sector)) → bytes' slot sector ≡ bytes slot sector
  bytes_at slot sector same = by (device_at gm.members slot) refl
    where
      by : (o : Option Word) → device_at gm.members slot ≡ o → bytes' slot sector ≡ bytes slot sector
      by None e = sectors_none n.world.devices gm.members slot e sector ∙ sym (sectors_none m.world.devices gm.members slot e sector)
      by (Some device) e =
          let x = disk_at see g.base.disks.items slot device e in
          sectors_at n.world.devices gm.members slot device e sector
          ∙ ap (λ (d : Word). public_of (n.world.devices d) sector) (sym x.device_is)
          ∙ all_at_one (λ (y : DiskSeen). (k : ℕ) → public_of (n.world.devices y.device) k ≡ sector_in news y.seen.device (2048 + k)) hs x.disk are_there x.there sector
          ∙ same x.disk x.there x.slot_is
          ∙ sym (all_at_one (λ (y : DiskSeen). (k : ℕ) → public_of (m.world.devices y.device) k ≡ sector_in olds y.seen.device (2048 + k)) hs x.disk were_there x.there sector)
          ∙ ap (λ (d : Word). public_of (m.world.devices d) sector) x.device_is
          ∙ sym (sectors_at m.world.devices gm.members slot device e sector)

  -- ---- nothing was called

  -- the image is what it was
  pub stays : SameSectors (still_pieces see g.public) X → IsNarrowed (image_on m.world.devices gm v) (image_on n.world.devices gm v)
  stays still =
      subst (λ i. IsNarrowed (image_on m.world.devices gm v) i) (sym (image_own c gm.good v bytes bytes' inside)) (narrowed_self (image_on m.world.devices gm v))
    where
      all_same : SameSectors olds news
      all_same = same_after (fronts_of hs) (behind_of see g.public) (behind_of see public) (same_trans _ _ _ (same_beside (lent_pieces see g.public) (still_pieces see g.public) X still) there)

      inside : SameInside c v.name bytes bytes'
      inside place of = bytes_at place.disk place.sector (λ x one slot. sector_same olds news once told all_same x.seen.device (2048 + place.sector))

  -- ---- copies of its log were called

  module _ (numbers : List ℕ) (are : AreSlotNumbers see g numbers) (numbered : AreNumbered numbers (good_of see g) c.disks) (form : VolumeForm) (form_is : IsFormOf c (good_of see g) v false form) (made : Bool) (log : GoByLog numbers form made (still_pieces see g.public) X) where
    abbrev called : List Seen
    called = copy_pieces log.copies

    go_behind : GoByCopies log.copies (behind_of see g.public) (behind_of see public)
    go_behind =
        among log.copies (behind_of see g.public) (X ++ lent_pieces see g.public) (behind_of see g.public) (behind_of see public) (same_refl (behind_of see g.public))
        (beside log.copies (still_pieces see g.public) X (lent_pieces see g.public) log.go) there

    go : GoByCopies log.copies olds news
    go =
        among log.copies (behind_of see g.public ++ fronts_of hs) (behind_of see public ++ fronts_of hs) olds news (swapped (fronts_of hs) (behind_of see g.public))
        (beside log.copies (behind_of see g.public) (behind_of see public) (fronts_of hs) go_behind) (swapped (behind_of see public) (fronts_of hs))

    -- each sector that no copy has holds what it did
    uncovered : (device k : ℕ) → list_any (covers device k) called ≡ false → sector_in news device k ≡ sector_in olds device k
    uncovered = (own log.copies olds news go once told).1

    olds_hold : All (Holds (sector_in olds)) olds
    olds_hold = own_told olds once told

    -- what the copies hold, before and after
    both : (later : ℕ → Contents) × All (Holds later) news × All (Holds (sector_in olds)) called × All (Holds later) (copy_pieces go.later) × ((device k : ℕ) → list_any (covers device k) called ≡ false → later device k ≡ sector_in olds device k)
    both = later_contents log.copies olds news go once (sector_in olds) olds_hold

    later_owned : (device k : ℕ) → 1 ≤ owners device k (copy_pieces go.later) → 1 ≤ owners device k news
    later_owned device k some =
        let same = go.back.sectors device k in
        let a = sum_by-append (has_sector device k) (all_pieces go.regions) (copy_pieces go.later ++ go.rest) in
        let b = sum_by-append (has_sector device k) (copy_pieces go.later) go.rest in
        omega (arith, some, same, a, b)

    later_hold : All (Holds (sector_in news)) (copy_pieces go.later)
    later_hold = all_hold_as both.0 (sector_in news) (copy_pieces go.later) (λ device k some. sector_from both.0 news device k both.1 (later_owned device k some)) both.3

    told_copies : EachTells log.copies
    told_copies = copies_told log.copies (All-weaker (Holds (sector_in olds)) IsTelling (holding (sector_in olds)) called both.2)

    -- the slots of good disks have the numbers of their devices
    at_slot : (slot : ℕ) → has_slot (good_of see g) slot ≡ true → IsAtSlot numbers hs gm.members slot
    at_slot slot good = good_numbered see g.base.disks.items (low_slots hs kept.carries.alive.ready) _ numbers are slot good

    numbered_at : (slot : ℕ) → has_slot (good_of see g) slot ≡ true → IsNumbered numbers hs gm.members slot
    numbered_at slot good = is_numbered numbers hs gm.members slot (at_slot slot good)

    holders_apart : AreDevicesApart hs
    holders_apart =
        let vs = map (volume_holder see) h.volumes.entries in
        let ts = map (hand_holder see) h.hand.items in
        let apart = subst (λ o. AreApart (vs ++ (group_holders see o ++ ts))) has keeps.devices.apart in
        devices_apart (group_rests see g) hs (apart_front (group_holders see (Some g)) ts (apart_back vs (group_holders see (Some g) ++ ts) apart))

    numbers_taken : AllOf (λ (x : DiskSeen). HasNumber shelf.held x.device x.seen.device) hs
    numbers_taken =
        let vs = map (volume_holder see) h.volumes.entries in
        let ts = map (hand_holder see) h.hand.items in
        let each = subst (λ o. AllOf (IsTakenFrom shelf.held) (vs ++ (group_holders see o ++ ts))) has keeps.devices.each in
        whole_numbers shelf.held (group_rests see g) hs (all_unmapped (IsTakenFrom shelf.held) holder_in (whole_members see g) (all_front (IsTakenFrom shelf.held) (group_holders see (Some g)) ts (all_back (IsTakenFrom shelf.held) vs (group_holders see (Some g) ++ ts) each)))

    -- the disk of a slot that is not good has no sector of a copy
    off_copies : (slot sector : ℕ) → has_slot (good_of see g) slot ≡ false → (x : DiskSeen) → AnyOf (λ y. y ≡ x) hs → x.slot ≡ slot → list_any (covers x.seen.device (2048 + sector)) called ≡ false
    off_copies slot sector bad x one slot_is = by (list_any (covers x.seen.device (2048 + sector)) called) refl
      where
        by : (b : Bool) → list_any (covers x.seen.device (2048 + sector)) called ≡ b → b ≡ false
        by false e = refl
        by true e =
            let s = taken_sector c (good_of see g) v false form form_is numbers log.copies log.are x.seen.device (2048 + sector) e in
            let good = slot_is_good (good_of see g) c.disks s.slot s.on in
            let d = at_slot s.slot good in
            let its : HasNumber shelf.held d.disk.device x.seen.device = subst (HasNumber shelf.held d.disk.device) (sym d.number ∙ s.number_is) (all_at_one (λ (y : DiskSeen). HasNumber shelf.held y.device y.seen.device) hs d.disk numbers_taken d.there) in
            let mine = all_at_one (λ (y : DiskSeen). HasNumber shelf.held y.device y.seen.device) hs x numbers_taken one in
            let same = one_disk hs x d.disk holders_apart one d.there (same_name shelf.held keeps.devices.numbers x.device d.disk.device x.seen.device mine its) in
            let slots : slot ≡ s.slot = sym slot_is ∙ ap (λ (y : DiskSeen). y.slot) same ∙ d.slot_is in
            absurd (false≢true (sym bad ∙ subst (λ n. has_slot (good_of see g) n ≡ true) (sym slots) good))

    -- the sectors of good slots are these, before and after, and those of the others stay
    were_sectors : AreSectorsOf (good_of see g) numbers (sector_in olds) bytes
    were_sectors = sectors_are m.world.devices hs gm.members (good_of see g) numbers (sector_in olds) were_there numbered_at

    pub are_sectors : AreSectorsOf (good_of see g) numbers (sector_in news) bytes'
    are_sectors = sectors_are n.world.devices hs gm.members (good_of see g) numbers (sector_in news) are_there numbered_at

    idle : (slot sector : ℕ) → has_slot (good_of see g) slot ≡ false → bytes' slot sector ≡ bytes slot sector
    idle slot sector bad = bytes_at slot sector (λ x one slot_is. uncovered x.seen.device (2048 + sector) (off_copies slot sector bad x one slot_is))

    -- the copies of the image have come nearer to one another, if the log was loaded
    pub narrows : made ≡ false → EachCopyNarrows → IsNarrowed (image_on m.world.devices gm v) (image_on n.world.devices gm v)
    unfolding go go_behind among beside
    narrows loaded law =
        law c (good_of see g) v form form_is numbers are.own numbered log.copies go.later log.are go.cut (log.nearer loaded told_copies) (sector_in olds) (sector_in news) both.2 later_hold uncovered bytes bytes' were_sectors are_sectors idle

    -- whether it was loaded or made, nothing else of the image has changed, ..
    pub same_but_log : image_on n.world.devices gm v ≡ record (image_on m.world.devices gm v) { copies = (image_on n.world.devices gm v).copies }
    same_but_log =
        ap (λ (ps : List PlexImage). record { state = v.state; length = v.len; region = v.region; plexes = ps; snaps = relation_maps c.snaps v.name; copies = log_copies v.dco c (good_of see g) bytes' v })
        (same_plexes c (good_of see g) v form form_is numbers are.own numbered log.copies log.are (sector_in olds) (sector_in news) uncovered bytes bytes' were_sectors are_sectors idle)

    -- .. and its copies hold what those that were called do
    pub hold_then : All (Holds (sector_in news)) (copy_pieces log.go.later)
    unfolding go go_behind among beside
    hold_then = later_hold

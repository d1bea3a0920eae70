-- A volume is as sound by another reading of its configuration, by fewer good disks, and by other bytes of those that are not good.
use Rattle.std.proofs.Common.{◌≡◌, ◌∙◌, ℕ, ◌<◌, Bool, true, false, cond, Option, Some, None, List, [], ◌∷◌, refl, sym, ap, subst, arith}
use Rattle.std.specs.Prelude.{◌&&◌, ◌||◌, not, Contains}
use Rattle.std.specs.List.{cons_option, filter, filter_map}
use Rattle.std.specs.Str.{bytes_eq}
use Rattle.std.proofs.lemmas.Bool.{and_parts, and_from, cond-true}
use Rattle.std.proofs.lemmas.Bool.Decides.{nat_tests}
use Rattle.vx_base.specs.Blocks.{Contents}
use Rattle.vx_base.specs.Named.{Word}
use Rattle.vx_block.specs.Regions.{region_count}
use Rattle.vx_mask.specs.Mask.{has}
use Rattle.vx_layout.specs.declared.strip.Strip.{Strip}
use Rattle.vx_layout.specs.declared.place.Place.{Place}
use Rattle.vx_layout.specs.Columns.{has_place, place_of}
use Rattle.vx_mapfmt.specs.Bits.{is_headed, marks}
use Rattle.vx_config_parts.specs.declared.plex.Plex.{Plex}
use Rattle.vx_config_parts.specs.declared.snap.Snap.{Snap}
use Rattle.vx_config_parts.specs.declared.subdisk.Subdisk.{Subdisk}
use Rattle.vx_config_parts.specs.declared.vol.Vol.{Vol}
use Rattle.vx_config_parts.specs.Objects.{is_data, is_data_plex_of, is_log, is_log_plex_of, refers}
use Rattle.vx_objects.specs.declared.config.Config.{Config}
use Rattle.vx_image.specs.Lies.{columns_of, slot_of, strip_of, strips_of}
use Rattle.vx_image.proofs.PlexMembers.{IsIn, from_map, in_map}
use Rattle.vx_image.proofs.Plexes.{config_valid, filled}
use Rattle.vx_image.specs.Bytes.{Sectors, bytes_at, image_of, is_active, is_held, is_log_copy, log_copies, plex_contents, plex_image, plex_marks, relation_maps}
use Rattle.vx_image.specs.Image.{Image, LogCopy, PlexImage}
use Rattle.vx_image.specs.Own.{SameInside}
use Rattle.vx_image.specs.UsedPlexes.{relation_map}
use Rattle.vx_image.proofs.Members.{all_from_each, contains, from_filter, into_filter, is_in}
use Rattle.vx_image.proofs.Own.{image_own}
use Rattle.vx_readings.specs.Readings.{EachReadingIsAsSound, HaveSameRecords, IsLess}
use Rattle.vx_readings.proofs.Lists.{picked_more, same_functions}
use Rattle.vx_readings.proofs.Records.{plex_here, snap_here, subdisk_here, turned}
use Rattle.vx_readings.proofs.Columns.{columns_same, good_slot, same_at, slot_same, strip_in}
use Rattle.vx_readings.proofs.Less.{IsLessImage, IsLessPlex, less_sound}

-- ---- the maps of relations

-- they are picked of the relations
maps_picked : (ss : List Snap) (vol : Word) → filter_map (relation_map vol) ss ≡ relation_maps ss vol
maps_picked [] vol = refl
maps_picked (s ∷ ss) vol = by (filter_map (relation_map vol) ss) (relation_maps ss vol) (maps_picked ss vol) (bytes_eq s.vol vol) (bytes_eq s.of vol)
  where
    by : (picked maps : List ℕ) → picked ≡ maps → (a b : Bool) → cons_option (cond a (Some s.map) (cond b (Some s.ofmap) None)) picked ≡ cond a (s.map ∷ maps) (cond b (s.ofmap ∷ maps) maps)
    by picked maps same true b = ap (λ ms. s.map ∷ ms) same
    by picked maps same false true = ap (λ ms. s.ofmap ∷ ms) same
    by picked maps same false false = same

-- ---- the first sector of a strip

first_place : (s : Strip) → 0 < s.count → has_place s (record { disk = s.disk; sector = s.start }) ≡ true
first_place s some = grind (arith, nat_tests)

-- ---- one volume

module _ (c other : Config) (v : Vol) (good good' : ℕ) (bytes bytes' : Sectors) (same : HaveSameRecords c other) (less : IsLess c v.name good good' bytes bytes') where
  there : (p : Plex) → IsIn other.plexes p → IsIn c.plexes p
  there = plex_here other c (turned c other same)

  -- the bytes of now on the disks that are good now, else those of before
  abbrev mixed : Sectors
  mixed disk sector = cond (has good' disk) (bytes' disk sector) (bytes disk sector)

  mixed_inside : SameInside c v.name bytes mixed
  mixed_inside place of = by (has good' place.disk) refl
    where
      by : (b : Bool) → has good' place.disk ≡ b → cond b (bytes' place.disk place.sector) (bytes place.disk place.sector) ≡ bytes place.disk place.sector
      by true is = less.same place of is
      by false is = refl

  mixed_good : (disk sector : ℕ) → has good' disk ≡ true → bytes' disk sector ≡ mixed disk sector
  mixed_good disk sector is = sym (cond-true (has good' disk) (bytes' disk sector) (bytes disk sector) is)

  abbrev old : Image
  old = image_of c good mixed v

  abbrev new : Image
  new = image_of other good' bytes' v

  -- ---- plexes

  held_before : (p : Plex) → IsIn c.plexes p → refers p.vol v.name ≡ true → is_held other good' p ≡ true → is_held c good p ≡ true
  held_before p here own held = all_from_each (λ s. not (refers s.plex p.name) || has good (slot_of c.disks s.disk)) c.subdisks (λ s one. by s (is_in c.subdisks s one) (refers s.plex p.name) refl)
    where
      good_before : (s : Subdisk) → IsIn c.subdisks s → refers s.plex p.name ≡ true → has good (slot_of c.disks s.disk) ≡ true
      good_before s one of =
          let place : Place = record { disk = slot_of c.disks s.disk; sector = s.off } in
          let now : has good' (slot_of c.disks s.disk) ≡ true = subst (λ n. has good' n ≡ true) (slot_same c other same s one) (good_slot other good' p held s (subdisk_here c other same s one) of) in
          let strip = contains (strips_of c p) (strip_of c.disks s) (strip_in c p here s one of) in
          less.good place (p, contains c.plexes p here, own, (strip_of c.disks s, strip, first_place (strip_of c.disks s) (filled c (config_valid c) s one))) now

      by : (s : Subdisk) → IsIn c.subdisks s → (b : Bool) → refers s.plex p.name ≡ b → (not b || has good (slot_of c.disks s.disk)) ≡ true
      by s one true of = good_before s one of
      by s one false of = refl

  same_contents : (p : Plex) → IsIn c.plexes p → is_held other good' p ≡ true → plex_contents other bytes' p ≡ plex_contents c mixed p
  same_contents p here held =
      same_functions (plex_contents other bytes' p) (λ b. bytes_at mixed (place_of p.unit (columns_of other p) b)) (same_at other good' p held mixed bytes' mixed_good)
      ∙ ap (λ columns. λ b. bytes_at mixed (place_of p.unit columns b)) (columns_same c other same p here)

  is_less : (p : Plex) → IsIn c.plexes p → refers p.vol v.name ≡ true → IsLessPlex (plex_image c good mixed p) (plex_image other good' bytes' p)
  is_less p here own = record { name = refl; map = refl; available = refl; held = held_before p here own; values = same_contents p here }

  before : (y : PlexImage) → Contains new.plexes y → (x : PlexImage) × Contains old.plexes x × IsLessPlex x y
  before y one =
      let q = from_map (plex_image other good' bytes') (filter (is_data_plex_of v.name) other.plexes) y (is_in new.plexes y one) in
      let r = from_filter (is_data_plex_of v.name) other.plexes q.0 (contains (filter (is_data_plex_of v.name) other.plexes) q.0 q.1) in
      let here = there q.0 (is_in other.plexes q.0 r.0) in
      let own = (and_parts (refers q.0.vol v.name) (is_data q.0.kind) r.1).0 in
      let was = into_filter (is_data_plex_of v.name) c.plexes q.0 (contains c.plexes q.0 here) r.1 in (
        plex_image c good mixed q.0,
        contains old.plexes (plex_image c good mixed q.0) (in_map (plex_image c good mixed) (filter (is_data_plex_of v.name) c.plexes) q.0 (is_in (filter (is_data_plex_of v.name) c.plexes) q.0 was)),
        subst (IsLessPlex (plex_image c good mixed q.0)) (sym q.2) (is_less q.0 here own),
      )

  after : (x : PlexImage) → Contains old.plexes x → (y : PlexImage) × Contains new.plexes y × (y.map ≡ x.map)
  after x one =
      let p = from_map (plex_image c good mixed) (filter (is_data_plex_of v.name) c.plexes) x (is_in old.plexes x one) in
      let r = from_filter (is_data_plex_of v.name) c.plexes p.0 (contains (filter (is_data_plex_of v.name) c.plexes) p.0 p.1) in
      let here = plex_here c other same p.0 (is_in c.plexes p.0 r.0) in
      let is = into_filter (is_data_plex_of v.name) other.plexes p.0 (contains other.plexes p.0 here) r.1 in (
        plex_image other good' bytes' p.0,
        contains new.plexes (plex_image other good' bytes' p.0) (in_map (plex_image other good' bytes') (filter (is_data_plex_of v.name) other.plexes) p.0 (is_in (filter (is_data_plex_of v.name) other.plexes) p.0 is)),
        ap (λ (z : PlexImage). z.map) (sym p.2),
      )

  -- ---- copies of the log

  same_marks : (p : Plex) → IsIn c.plexes p → is_held other good' p ≡ true → plex_marks other bytes' v p ≡ plex_marks c mixed v p
  same_marks p here held =
      let shown : Contents → LogCopy = λ contents r k. marks (region_count v.len v.region) contents k r in
      ap shown (same_contents p here held)

  -- a log plex that counts now is held, and counted before
  counted : (p : Plex) → IsIn c.plexes p → is_log_copy other good' bytes' v p ≡ true → (is_held other good' p ≡ true) × (is_log_copy c good mixed v p ≡ true)
  counted p here counts =
      let now = is_headed v.len v.region (plex_contents other bytes' p) in
      let first = and_parts (is_log_plex_of v.name p) (is_active p.state && (is_held other good' p && now)) counts in
      let second = and_parts (is_active p.state) (is_held other good' p && now) first.1 in
      let third = and_parts (is_held other good' p) now second.1 in
      let own = (and_parts (refers p.vol v.name) (is_log p.kind) first.0).0 in
      let headed = sym (ap (is_headed v.len v.region) (same_contents p here third.0)) ∙ third.1 in
      (third.0, and_from _ _ first.0 (and_from _ _ second.0 (and_from _ _ (held_before p here own third.0) headed)))

  copy_before : (dco : Option Word) (x : LogCopy) → IsIn (log_copies dco other good' bytes' v) x → IsIn (log_copies dco c good mixed v) x
  copy_before None x one = one
  copy_before (Some dco) x one =
      let q = from_map (plex_marks other bytes' v) (filter (is_log_copy other good' bytes' v) other.plexes) x one in
      let r = from_filter (is_log_copy other good' bytes' v) other.plexes q.0 (contains (filter (is_log_copy other good' bytes' v) other.plexes) q.0 q.1) in
      let here = there q.0 (is_in other.plexes q.0 r.0) in
      let counts = counted q.0 here r.1 in
      let was = into_filter (is_log_copy c good mixed v) c.plexes q.0 (contains c.plexes q.0 here) counts.1 in
      subst (IsIn (log_copies (Some dco) c good mixed v)) (sym (q.2 ∙ same_marks q.0 here counts.0))
      (in_map (plex_marks c mixed v) (filter (is_log_copy c good mixed v) c.plexes) q.0 (is_in (filter (is_log_copy c good mixed v) c.plexes) q.0 was))

  -- ---- relations

  map_before : (m : ℕ) → IsIn (relation_maps other.snaps v.name) m → IsIn (relation_maps c.snaps v.name) m
  map_before m one =
      subst (λ ms. IsIn ms m) (maps_picked c.snaps v.name)
      (picked_more (relation_map v.name) other.snaps c.snaps (snap_here other c (turned c other same)) m (subst (λ ms. IsIn ms m) (sym (maps_picked other.snaps v.name)) one))

  pub image_less : IsLessImage (image_of c good bytes v) new
  image_less = subst (λ (i : Image). IsLessImage i new) (image_own c good v bytes mixed mixed_inside) (record {
    state = refl;
    length = refl;
    region = refl;
    before = before;
    after = after;
    snaps = λ m one. contains old.snaps m (map_before m (is_in new.snaps m one));
    copies = λ x one. contains old.copies x (copy_before v.dco x (is_in new.copies x one));
  })

-- its image says no more than that by the first configuration
pub less_image : (c other : Config) (v : Vol) (good good' : ℕ) (bytes bytes' : Sectors) → HaveSameRecords c other → IsLess c v.name good good' bytes bytes' → IsLessImage (image_of c good bytes v) (image_of other good' bytes' v)
less_image c other v good good' bytes bytes' same less = image_less c other v good good' bytes bytes' same less

pub reading_sound : EachReadingIsAsSound
reading_sound c other v good good' bytes bytes' of same less = less_sound (image_of c good bytes v) (image_of other good' bytes' v) (less_image c other v good good' bytes bytes' same less)

-- Where nothing but sectors of the copies of a log changes on the disks of a volume, its data plexes hold what they did.
use Rattle.std.proofs.Common.{◌≡◌, ℕ, ◌+◌, ◌<◌, Bool, true, false, Option, Some, None, List, [], length, map, refl, sym, ap, ◌∙◌, subst, arith, inl, inr, ◌∷◌}
use Rattle.std.specs.Prelude.{◌&&◌, ◌==◌, nat_le, slice_index, slice_index_or}
use Rattle.std.specs.List.{filter, list_all, list_any}
use Rattle.std.proofs.lemmas.Bool.{and_parts, eqb-true, false≢true}
use Rattle.std.proofs.lemmas.Bool.Decides.{nat_tests}
use Rattle.std.proofs.lemmas.List.Elements.{All-contains}
use Rattle.vx_base.specs.Blocks.{Contents}
use Rattle.vx_base.specs.Named.{Word}
use Rattle.vx_mask.specs.Mask.{has}
use Rattle.vx_piece.specs.Seen.{Seen}
use Rattle.vx_carve.specs.Carved.{HaveNumbers}
use Rattle.vx_carve.specs.Together.{covers}
use Rattle.vx_layout.specs.declared.place.Place.{Place}
use Rattle.vx_layout.specs.declared.strip.Strip.{Strip}
use Rattle.vx_layout.specs.Columns.{column_of, has_place, place_of, sector_of}
use Rattle.vx_layout.specs.Valid.{is_apart}
use Rattle.vx_config_parts.specs.declared.disk.Disk.{Disk}
use Rattle.vx_config_parts.specs.declared.plex.Plex.{Plex}
use Rattle.vx_config_parts.specs.declared.plex.PlexKind.{PlexKind}
use Rattle.vx_config_parts.specs.declared.plex.PlexKind.TheVariants.{Data, Log}
use Rattle.vx_config_parts.specs.declared.vol.Vol.{Vol}
use Rattle.vx_config_parts.specs.Objects.{is_data, is_data_plex_of, is_log, is_log_plex_of, refers}
use Rattle.vx_objects.specs.declared.config.Config.{Config}
use Rattle.vx_image.specs.Lies.{columns_of, is_on_disk, strips_of}
use Rattle.vx_image.proofs.Apart.{columns_inside, plexes_apart}
use Rattle.vx_image.proofs.PlexMembers.{IsIn, any_in}
use Rattle.vx_image.proofs.Plexes.{config_valid}
use Rattle.vx_image.specs.Bytes.{Sectors, bytes_at, is_held, map_or_zero, plex_contents, plex_image}
use Rattle.vx_image.specs.Own.{IsOfPlex}
use Rattle.vx_image.proofs.Members.{contains, each_from_all, in_filtered, into_filter}
use Rattle.vx_lending.specs.declared.form.VolumeForm.{VolumeForm}
use Rattle.vx_lending.specs.Form.{IsFormOf}
use Rattle.vx_lending.specs.FormLaws.{AreNumbered, good_disks}
use Rattle.vx_lending.proofs.Places.{columns_lie, log_taken}
use Rattle.vx_lending.proofs.Rules.{one_plex}
use Rattle.vx_lending.specs.Pieces.{copy_pieces}
use Rattle.vx_lending.specs.Pieces.{own_pieces as own_copy}
use Rattle.vx_lending.specs.Taken.{AreTakenCopies, log_sectors}
use Rattle.vx_volume_laws.specs.Contents.{AreSectorsOf}
use Rattle.vx_volume_laws.proofs.OpenedImages.{some_of}
use Rattle.vx_group_volumes.specs.Places.{IsSlotOf}
use Rattle.vx_group_volumes.proofs.Spots.{IsAtBlock, any_flat, mapped_at}
use Rattle.vx_group_volumes.proofs.Strips.{in_columns, place_own}
use Rattle.vx_group_volumes.proofs.Taken.{at_block, laid_at, plex_at}

-- ---- two plexes

data_or_log : (k : PlexKind) → is_data k ≡ true → is_log k ≡ true → ⊥
data_or_log Data a b = false≢true b
data_or_log Log a b = false≢true a

-- a place is in one of two strips that are apart
not_in_both : (x y : Strip) (place : Place) → is_apart x y ≡ true → has_place x place ≡ true → has_place y place ≡ true → ⊥
not_in_both x y place apart one other = grind (arith, nat_tests)

-- no place is both of a data plex and of a log plex
log_apart : (c : Config) (vol : Word) (p q : Plex) (place : Place) → IsIn c.plexes p → IsIn c.plexes q → is_data_plex_of vol p ≡ true → is_log_plex_of vol q ≡ true → IsOfPlex c p place → IsOfPlex c q place → ⊥
log_apart c vol p q place here there kind log one other =
    let kind_of = λ (same : p.name ≡ q.name). subst (λ (x : Plex). is_data x.kind ≡ true) (one_plex c p q here there same) (and_parts (refers p.vol vol) (is_data p.kind) kind).1 in
    let differ = λ (same : p.name ≡ q.name). data_or_log q.kind (kind_of same) (and_parts (refers q.vol vol) (is_log q.kind) log).1 in
    let rows = each_from_all (λ x. list_all (is_apart x) (strips_of c q)) (strips_of c p) one.0 (plexes_apart c p q differ) one.1 in
    not_in_both one.0 other.0 place (each_from_all (is_apart one.0) (strips_of c q) other.0 rows other.1) one.2 other.2

-- ---- where they lie

-- the place of a block is the plex's, on a disk of the configuration
block_own : (c : Config) (p : Plex) (b : ℕ) (place : Place) → place_of p.unit (columns_of c p) b ≡ Some place → IsOfPlex c p place × IsSlotOf c.disks place.disk
block_own c p b place e =
    let on = in_columns (is_on_disk c.disks) (columns_of c p) (column_of p.unit (columns_of c p) b) (sector_of p.unit (columns_of c p) b) place (columns_inside c (config_valid c) p.ncol p.name 0) e in
    let s = on.strip in
    let d = any_in (λ (d : Disk). d.slot == s.disk && nat_le (s.start + s.count) d.publen) c.disks on.passes in
    let same = eqb-true d.0.slot s.disk (and_parts (d.0.slot == s.disk) _ d.2).0 in
    let there = and_parts (s.disk == place.disk && nat_le s.start place.sector) _ on.has in
    let here = eqb-true s.disk place.disk (and_parts (s.disk == place.disk) _ there.0).0 in
    ((s, contains (strips_of c p) s on.there, on.has), (d.0, contains c.disks d.0 d.1, same ∙ here))

-- The sector of the device is one of a log plex of the volume, on a good disk.
record IsLogSector (c : Config) (good : ℕ) (vol : Word) (numbers : List ℕ) (device k : ℕ) : Type 0 where
  pub plex : Plex
  pub there : IsIn c.plexes plex
  pub log_is : is_log_plex_of vol plex ≡ true
  pub place : Place
  pub place_is : k ≡ 2048 + place.sector
  pub number_is : slice_index numbers place.disk ≡ device
  pub of : IsOfPlex c plex place
  pub on : IsSlotOf (good_disks good c.disks) place.disk

module _ (c : Config) (good : ℕ) (v : Vol) (form : VolumeForm) (is : IsFormOf c good v false form) (numbers : List ℕ) (copies : List (List Seen))
    (taken : AreTakenCopies numbers form.logs.items (log_sectors form.shape.geometry) copies) where
  -- so is each sector of a copy
  log_sector : (device k : ℕ) → list_any (covers device k) (copy_pieces copies) ≡ true → IsLogSector c good v.name numbers device k
  log_sector device k any =
      let r = any_flat (covers device k) own_copy copies any in
      let n = r.0 in
      let laid = laid_at c good v false form is numbers copies taken n r.1 in
      let d = some_of form.logs.items n laid in
      let l = slice_index_or form.logs.items n d in
      let p = plex_at c good v false form is numbers copies taken n r.1 d in
      let t = log_taken c good v false v.dco p.0 p.1 in
      let block = at_block c good v false form is numbers copies taken n laid d device k (subst (λ ps. list_any (covers device k) ps ≡ true) (mapped_at own_copy [] copies n refl) r.2) in
      let at : IsAtBlock numbers p.0.unit (columns_of c p.0) device k =
      subst (λ u. IsAtBlock numbers u (columns_of c p.0) device k) p.2.unit (subst (λ columns. IsAtBlock numbers l.unit columns device k) p.2.columns block) in
      let own = place_own c (good_disks good c.disks) p.0 at.block at.place (columns_lie c good p.0 t.0.held p.0.ncol 0) at.at in
      record { plex = p.0; there = t.0.there; log_is = t.1; place = at.place; place_is = at.place_is; number_is = at.number_is; of = own.0; on = own.1 }

  module _ (have : HaveNumbers numbers) (numbered : AreNumbered numbers good c.disks) where
    has_number : (slot : ℕ) → IsSlotOf (good_disks good c.disks) slot → slot < length numbers
    has_number slot on = subst (λ n. n < length numbers) on.2 (All-contains (λ (d : Disk). d.slot < length numbers) (good_disks good c.disks) on.0 numbered on.1)

    -- no copy has a sector of a data plex
    none_covers : (p : Plex) (place : Place) → IsIn c.plexes p → is_data_plex_of v.name p ≡ true → IsOfPlex c p place → IsSlotOf (good_disks good c.disks) place.disk →
        list_any (covers (slice_index numbers place.disk) (2048 + place.sector)) (copy_pieces copies) ≡ false
    none_covers p place there kind of on = by (list_any (covers (slice_index numbers place.disk) (2048 + place.sector)) (copy_pieces copies)) refl
      where
        no_log : IsLogSector c good v.name numbers (slice_index numbers place.disk) (2048 + place.sector) → ⊥
        no_log q =
            let disk : q.place.disk ≡ place.disk = have q.place.disk place.disk (has_number q.place.disk q.on) (has_number place.disk on) q.number_is in
            let sector : q.place.sector ≡ place.sector = let e = q.place_is in omega (arith, e) in
            log_apart c v.name p q.plex place there q.there kind q.log_is of
            (subst (λ (s : ℕ). IsOfPlex c q.plex (record { disk = place.disk; sector = s })) sector (subst (λ (d : ℕ). IsOfPlex c q.plex (record { disk = d; sector = q.place.sector })) disk q.of))

        by : (b : Bool) → list_any (covers (slice_index numbers place.disk) (2048 + place.sector)) (copy_pieces copies) ≡ b → list_any (covers (slice_index numbers place.disk) (2048 + place.sector)) (copy_pieces copies) ≡ false
        by true e = absurd (no_log (log_sector (slice_index numbers place.disk) (2048 + place.sector) e))
        by false e = e

-- ---- what they hold

map_same : {X Y : Type 0} (f g : X → Y) (xs : List X) → ((x : X) → IsIn xs x → f x ≡ g x) → map f xs ≡ map g xs
map_same f g [] each = refl
map_same f g (x ∷ xs) each = rw (each x (inl refl), map_same f g xs (λ y one. each y (inr one))) refl

same_functions : {X Y : Type 0} (f g : X → Y) → ((x : X) → f x ≡ g x) → f ≡ g
same_functions f g h = λ i x. h x i

-- the disks and sectors as they are read before, and after
module _ (c : Config) (good : ℕ) (v : Vol) (form : VolumeForm) (is : IsFormOf c good v false form) (numbers : List ℕ) (have : HaveNumbers numbers) (numbered : AreNumbered numbers good c.disks) (copies : List (List Seen))
    (taken : AreTakenCopies numbers form.logs.items (log_sectors form.shape.geometry) copies)
    (old new : ℕ → Contents) (stay : (device k : ℕ) → list_any (covers device k) (copy_pieces copies) ≡ false → new device k ≡ old device k)
    (before after : Sectors) (was : AreSectorsOf good numbers old before) (now : AreSectorsOf good numbers new after) (idle : (slot sector : ℕ) → has good slot ≡ false → after slot sector ≡ before slot sector) where
  same_sector : (p : Plex) (place : Place) → IsIn c.plexes p → is_data_plex_of v.name p ≡ true → IsOfPlex c p place → IsSlotOf c.disks place.disk → after place.disk place.sector ≡ before place.disk place.sector
  same_sector p place there kind of on = by (has good place.disk) refl
    where
      on_good : has good place.disk ≡ true → IsSlotOf (good_disks good c.disks) place.disk
      on_good e = (on.0, into_filter (λ (d : Disk). has good d.slot) c.disks on.0 on.1 (subst (λ n. has good n ≡ true) (sym on.2) e), on.2)

      by : (b : Bool) → has good place.disk ≡ b → after place.disk place.sector ≡ before place.disk place.sector
      by true e =
          now place.disk place.sector e
          ∙ stay (slice_index numbers place.disk) (2048 + place.sector) (none_covers c good v form is numbers copies taken have numbered p place there kind of (on_good e))
          ∙ sym (was place.disk place.sector e)
      by false e = idle place.disk place.sector e

  same_block : (p : Plex) → IsIn c.plexes p → is_data_plex_of v.name p ≡ true → (o : Option Place) → ((place : Place) → o ≡ Some place → IsOfPlex c p place × IsSlotOf c.disks place.disk) → bytes_at after o ≡ bytes_at before o
  same_block p there kind None own = refl
  same_block p there kind (Some place) own = let r = own place refl in same_sector p place there kind r.0 r.1

  same_contents : (p : Plex) → IsIn c.plexes p → is_data_plex_of v.name p ≡ true → plex_contents c after p ≡ plex_contents c before p
  same_contents p there kind = same_functions (plex_contents c after p) (plex_contents c before p) (λ b. same_block p there kind (place_of p.unit (columns_of c p) b) (λ place e. block_own c p b place e))

  same_plex : (p : Plex) → IsIn c.plexes p → is_data_plex_of v.name p ≡ true → plex_image c good after p ≡ plex_image c good before p
  same_plex p there kind = ap (λ (values : Contents). record { name = p.name; map = map_or_zero p.map; state = p.state; held = is_held c good p; values = values }) (same_contents p there kind)

  -- the data plexes of the image stay
  pub same_plexes : map (plex_image c good after) (filter (is_data_plex_of v.name) c.plexes) ≡ map (plex_image c good before) (filter (is_data_plex_of v.name) c.plexes)
  same_plexes =
      map_same (plex_image c good after) (plex_image c good before) (filter (is_data_plex_of v.name) c.plexes) (λ p one.
      let x = in_filtered (is_data_plex_of v.name) c.plexes p one in
      same_plex p x.0 x.1)

-- Each sector of a running volume's pieces is one of the volume's.
use Rattle.std.proofs.Common.{◌≡◌, inl, inr, ℕ, zero, suc, ◌+◌, ◌<◌, Bool, true, List, [], ◌∷◌, length, map, refl, sym, ap, ◌∙◌, subst, arith}
use Rattle.std.specs.Prelude.{Contains, slice_index, slice_index_or}
use Rattle.std.specs.List.{flat_map, list_any}
use Rattle.std.proofs.lemmas.Bool.{or_cases}
use Rattle.std.proofs.lemmas.List.{length-map}
use Rattle.std.proofs.lemmas.List.Folds.{list_any-append}
use Rattle.vx_base.specs.Named.{Word}
use Rattle.vx_piece.specs.Seen.{Seen}
use Rattle.vx_carve.specs.Together.{covers}
use Rattle.vx_cell.specs.Plexes.{PlexSeen}
use Rattle.vx_layout.specs.declared.layout.Layout.{Layout}
use Rattle.vx_layout.specs.declared.place.Place.{Place}
use Rattle.vx_layout.specs.declared.strip.Strip.{Strip}
use Rattle.vx_layout.specs.Columns.{has_place}
use Rattle.vx_config_parts.specs.declared.plex.Plex.{Plex}
use Rattle.vx_config_parts.specs.declared.vol.Vol.{Vol}
use Rattle.vx_config_parts.specs.Objects.{refers}
use Rattle.vx_objects.specs.declared.config.Config.{Config}
use Rattle.vx_image.specs.Lies.{columns_of}
use Rattle.vx_image.proofs.PlexMembers.{IsIn}
use Rattle.vx_image.specs.Bytes.{map_or_zero}
use Rattle.vx_image.specs.Own.{IsOfPlex}
use Rattle.vx_image.proofs.Members.{contains}
use Rattle.vx_volume.specs.Volume.{VolumeSeen}
use Rattle.vx_lending.specs.RegionPieces.{all_pieces, own_pieces, pieces_of}
use Rattle.vx_lending.specs.RegionsTaken.{own_map}
use Rattle.vx_lending.specs.declared.form.VolumeForm.{VolumeForm}
use Rattle.vx_lending.specs.Form.{AreLayouts, IsFormOf, IsLayoutOf}
use Rattle.vx_lending.specs.FormLaws.{good_disks}
use Rattle.vx_image.specs.UsedPlexes.{held_plexes, used_logs}
use Rattle.vx_lending.proofs.Places.{IsTaken, columns_lie, held_taken, log_taken}
use Rattle.vx_lending.proofs.Zips.{zip_length}
use Rattle.vx_lending.specs.Left.{region_plexes}
use Rattle.vx_lending.specs.Pieces.{copy_pieces}
use Rattle.vx_lending.specs.Pieces.{own_pieces as own_copy}
use Rattle.vx_volume_laws.proofs.OpenedImages.{some_of}
use Rattle.vx_volume_laws.specs.Lying.{LiesAs, pieces_in}
use Rattle.vx_volume_laws.proofs.Spots.{cut_lies, cut_long}
use Rattle.vx_group_volumes.specs.Places.{IsOwnSector, IsSlotOf, KeepsPlaces}
use Rattle.vx_group_volumes.proofs.Spots.{IsAtBlock, any_flat, mapped_at, on_block}
use Rattle.vx_group_volumes.proofs.Strips.{place_own}

-- the plex of a layout
pub layout_plex : (c : Config) (plexes : List Plex) (layouts : List Layout) (j : ℕ) (d : Layout) → AreLayouts c plexes layouts → j < length layouts → (p : Plex) × IsIn plexes p × IsLayoutOf c p (slice_index_or layouts j d)
layout_plex c [] [] j d are lt = absurd (omega (arith, lt))
layout_plex c [] (l ∷ ls) j d are lt = absurd are
layout_plex c (p ∷ ps) [] j d are lt = absurd are
layout_plex c (p ∷ ps) (l ∷ ls) zero d are lt = (p, inl refl, are.0)
layout_plex c (p ∷ ps) (l ∷ ls) (suc j) d are lt = let r = layout_plex c ps ls j d are.1 (omega (arith, lt)) in (r.0, inr r.1, r.2)

-- A plex of the volume of which all disks are good has the sector of the device.
pub record IsSectorOfPlex (c : Config) (good : ℕ) (v : Vol) (numbers : List ℕ) (device k : ℕ) : Type 0 where
  pub plex : Plex
  pub there : IsIn c.plexes plex
  pub own : refers plex.vol v.name ≡ true
  pub slot : ℕ
  pub sector : ℕ
  pub place_is : k ≡ 2048 + sector
  pub number_is : slice_index numbers slot ≡ device
  pub of : IsOfPlex c plex (record { disk = slot; sector = sector })
  pub on : IsSlotOf (good_disks good c.disks) slot

module _ (c : Config) (good : ℕ) (v : Vol) (fresh : Bool) (form : VolumeForm) (is : IsFormOf c good v fresh form) (numbers : List ℕ) (device k : ℕ) where
  pub of_layout : (p : Plex) (l : Layout) → IsTaken c good v p → IsLayoutOf c p l → IsAtBlock numbers l.unit l.columns device k → IsSectorOfPlex c good v numbers device k
  of_layout p l taken lay block =
      let at : IsAtBlock numbers p.unit (columns_of c p) device k =
      subst (λ u. IsAtBlock numbers u (columns_of c p) device k) lay.unit (subst (λ columns. IsAtBlock numbers l.unit columns device k) lay.columns block) in
      let r = place_own c (good_disks good c.disks) p at.block at.place (columns_lie c good p taken.held p.ncol 0) at.at in
      record { plex = p; there = taken.there; own = taken.of; slot = at.place.disk; sector = at.place.sector; place_is = at.place_is; number_is = at.number_is; of = r.0; on = r.1 }

  module _ (volume : VolumeSeen) (copies : List (List Seen)) (lies : LiesAs numbers form volume copies) where
    abbrev regions : List (List PlexSeen)
    regions = region_plexes volume.cells

    -- a sector of a region
    of_regions : list_any (covers device k) (all_pieces regions) ≡ true → IsSectorOfPlex c good v numbers device k
    of_regions any =
        let r = any_flat (covers device k) pieces_of regions any in
        let plexes = slice_index_or regions r.0 [] in
        let taken = lies.regions r.0 r.1 in
        let s = any_flat (covers device k) own_pieces plexes (subst (λ ps. list_any (covers device k) ps ≡ true) (mapped_at pieces_of [] regions r.0 refl) r.2) in
        let j = s.0 in
        let there = s.1 in
        let own = length-map plexes own_map in
        let all = length-map (held_plexes c good v.name) (λ (x : Plex). map_or_zero x.map) in
        let many = ap length (taken.maps_are ∙ is.maps) in
        let long = zip_length (IsLayoutOf c) (held_plexes c good v.name) form.layouts.items is.layouts in
        let laid : j < length form.layouts.items = omega (arith, own, all, many, long, there) in
        let d = some_of form.layouts.items j laid in
        let l = slice_index_or form.layouts.items j d in
        let ps = slice_index_or (map own_pieces plexes) j [] in
        let cut = taken.cut j d laid in
        let p = layout_plex c (held_plexes c good v.name) form.layouts.items j d is.layouts laid in
        of_layout p.0 l (held_taken c good v p.0 p.1).0 p.2 (on_block numbers l.unit l.columns _ _ ps (cut_lies numbers l.unit l.columns _ _ ps cut) (cut_long numbers l.unit l.columns _ _ ps cut) device k s.2)

    -- a sector of a copy of the log
    of_copies : list_any (covers device k) (copy_pieces copies) ≡ true → IsSectorOfPlex c good v numbers device k
    of_copies any =
        let r = any_flat (covers device k) own_copy copies any in
        let n = r.0 in
        let there = r.1 in
        let long = lies.logs.long in
        let laid : n < length form.logs.items = omega (arith, long, there) in
        let d = some_of form.logs.items n laid in
        let l = slice_index_or form.logs.items n d in
        let ps = slice_index_or copies n [] in
        let sectors = lies.logs.sectors n laid in
        let p = layout_plex c (used_logs v.dco c good fresh v.name) form.logs.items n d is.logs laid in
        of_layout p.0 l (log_taken c good v fresh v.dco p.0 p.1).0 p.2
        (on_block numbers l.unit l.columns 0 _ ps (lies.logs.each n d laid) (omega (arith, sectors)) device k (subst (λ ps. list_any (covers device k) ps ≡ true) (mapped_at own_copy [] copies n refl) r.2))

    pub of_pieces : list_any (covers device k) (pieces_in volume copies) ≡ true → IsSectorOfPlex c good v numbers device k
    of_pieces any = elim (or_cases (list_any (covers device k) (all_pieces regions)) (list_any (covers device k) (copy_pieces copies)) (sym (list_any-append (covers device k) (all_pieces regions) (copy_pieces copies)) ∙ any)) [
      | inl a ↦ of_regions a
      | inr b ↦ of_copies b
    ]

-- a strip of the columns has the place
abbrev IsOnColumns : Place → List (List Strip) → Type 0
IsOnColumns place columns = (strip : Strip) × Contains (flat_map (λ strips. strips) columns) strip × (has_place strip place ≡ true)

-- so the volume has it, by the configuration that it was opened by, ..
pub own_sector : (c : Config) (good : ℕ) (v : Vol) (numbers : List ℕ) (device k : ℕ) → IsSectorOfPlex c good v numbers device k → IsOwnSector c v.name (good_disks good c.disks) numbers device k
own_sector c good v numbers device k r = record { slot = r.slot; sector = r.sector; place_is = r.place_is; number_is = r.number_is; of = (r.plex, contains c.plexes r.plex r.there, r.own, r.of); on = r.on }

-- .. and by each that keeps where its plexes lie
pub kept_sector : (c0 : Config) (good0 : ℕ) (v0 : Vol) (numbers : List ℕ) (device k : ℕ) (c : Config) (vol : Word) → KeepsPlaces c0 v0.name c vol → IsSectorOfPlex c0 good0 v0 numbers device k →
    IsOwnSector c vol (good_disks good0 c0.disks) numbers device k
kept_sector c0 good0 v0 numbers device k c vol keeps r =
    let q = keeps r.plex (contains c0.plexes r.plex r.there) r.own in
    record {
      slot = r.slot;
      sector = r.sector;
      place_is = r.place_is;
      number_is = r.number_is;
      of = (q.plex, q.there, q.own, moved (record { disk = r.slot; sector = r.sector }) (columns_of c0 r.plex) (columns_of c q.plex) (sym q.lies.columns) r.of);
      on = r.on;
    }
  where
    moved : (place : Place) (old new : List (List Strip)) → old ≡ new → IsOnColumns place old → IsOnColumns place new
    moved place old new same on = subst (λ columns. IsOnColumns place columns) same on

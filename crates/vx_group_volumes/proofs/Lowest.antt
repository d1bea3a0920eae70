-- The maps that a new log marks are those of all data plexes of the volume but the lowest.
use Rattle.std.proofs.Common.{◌≡◌, ◌≢◌, inl, inr, ℕ, ◌<◌, ◌≤◌, ◌^◌, Bool, true, false, not, List, refl, sym, ap, ◌∙◌, subst, arith}
use Rattle.std.specs.Prelude.{◌&&◌, ◌==◌, nat_le, is_some, Contains}
use Rattle.std.specs.Int.{bit_at, w64}
use Rattle.std.specs.Str.{bytes_eq}
use Rattle.std.proofs.lemmas.Bool.{cases_lt, false≢true, le-leb, leb-true, lt-ltb}
use Rattle.std.proofs.lemmas.List.Folds.{list_all-map}
use Rattle.std.proofs.lemmas.Nat.Bits.{bit_at-trailing_zeros}
use Rattle.vx_base.proofs.NamedLemmas.{bytes_eq_same}
use Rattle.vx_mask.specs.Mask.{above_lowest, has, lowest, only}
use Rattle.vx_mask.proofs.MaskLemmas.{has-lowest, has-only_other, has-only_same, has-without, lowest-lt, not_empty, union-lt}
use Rattle.vx_mask.proofs.Sets.{in_union, union_cases, without_parts}
use Rattle.vx_config_parts.specs.declared.plex.Plex.{Plex}
use Rattle.vx_config_parts.specs.declared.vol.Vol.{Vol}
use Rattle.vx_config_parts.specs.Objects.{is_data_plex_of}
use Rattle.vx_objects.specs.declared.config.Config.{Config}
use Rattle.vx_image.proofs.PlexMembers.{IsIn}
use Rattle.vx_image.specs.Image.{PlexImage}
use Rattle.vx_image.specs.Bytes.{Sectors, image_of, map_or_zero, plex_image}
use Rattle.vx_image.proofs.Members.{all_from_each, contains, each_from_all, is_in}
use Rattle.vx_volume.specs.declared.volume.VolumeShape.{VolumeShape}
use Rattle.vx_image.specs.UsedPlexes.{IsVolOf, is_on}
use Rattle.vx_lending.specs.Form.{IsShapeOf}
use Rattle.vx_lending.proofs.Bits.{held_on, kept, low, off_plex, on_plex}
use Rattle.vx_lending.proofs.Distinct.{filtered}
use Rattle.vx_lending.proofs.Maps.{one_without}
use Rattle.vx_lending.proofs.Rules.{one_plex, plex_low}
use Rattle.vx_lending.specs.Logs.{marked_maps}
use Rattle.vx_volume_laws.proofs.Held.{of_image}
use Rattle.vx_volume_laws.specs.Keeping.{data_plexes}
use Rattle.vx_volume_laws.specs.Recorded.{HasOthers, is_lowest}
use Rattle.vx_group_start.specs.Fresh.{all_maps, maps_to_copy}
use Rattle.vx_group_volumes.proofs.Begun.{is_low}

-- ---- masks

none_there : (b : Bool) → b ≡ true → b ≡ false → ⊥
none_there b h k = false≢true (sym k ∙ h)

-- no map of a mask is below its lowest
lowest_least : (mask k : ℕ) → mask < 2 ^ 64 → has mask k ≡ true → lowest mask ≤ k
unfolding has lowest
lowest_least mask k fits there =
    elim (cases_lt k (lowest mask)) [
      | inr le ↦ le
      | inl less ↦
          let some : mask ≢ 0 = not_empty mask k there in
          let zero_is : bit_at mask k ≡ 0 = (bit_at-trailing_zeros w64 mask (omega (arith, some)) fits).2 k less in
          absurd (none_there (bit_at mask k == 1) there (ap (λ (n : ℕ). n == 1) zero_is))
    ]

-- of a mask all but the lowest are above it
above_is : (mask k : ℕ) → mask < 2 ^ 64 → has mask k ≡ true → (b : Bool) → (b ≡ true → k ≡ lowest mask) → (b ≡ false → k ≢ lowest mask) → has (above_lowest mask) k ≡ not b
above_is mask k fits there true same other =
    let low : lowest mask < 64 = lowest-lt mask (not_empty mask k there) fits in
    has-without mask (only (lowest mask)) k ∙ ap (λ (b : Bool). has mask k && not b) (subst (λ n. has (only (lowest mask)) n ≡ true) (sym (same refl)) (has-only_same (lowest mask) low)) ∙ ap (λ (b : Bool). b && false) there
above_is mask k fits there false same other =
    has-without mask (only (lowest mask)) k ∙ ap (λ (b : Bool). has mask k && not b) (has-only_other (lowest mask) k (other refl)) ∙ ap (λ (b : Bool). b && true) there

-- ---- the maps of a form

module _ (c : Config) (good : ℕ) (v : Vol) (of : IsVolOf c v) (shape : VolumeShape) (is : IsShapeOf c good v shape) where
  abbrev ps : List Plex
  ps = data_plexes c v.name

  maps_fit : all_maps shape < 2 ^ 64
  maps_fit = union-lt shape.on shape.off is.on.fits is.off.fits

  plex_there : (p : Plex) → IsIn ps p → has (all_maps shape) (map_or_zero p.map) ≡ true
  plex_there p there =
      let w = filtered (is_data_plex_of v.name) c.plexes p there in
      in_union shape.on shape.off (map_or_zero p.map) (held_on c good v of shape is p (is_on c good p) refl w.0 w.1)

  there_plex : (k : ℕ) → has (all_maps shape) k ≡ true → (p : Plex) × IsIn ps p × (map_or_zero p.map ≡ k)
  there_plex k h = elim (union_cases shape.on shape.off k h) [
    | inl on ↦ let p = on_plex c good v of shape is k on in (p.plex, kept (is_data_plex_of v.name) c.plexes p.plex p.there p.own, p.map_is)
    | inr off ↦ let p = off_plex c good v of shape is k off in (p.plex, kept (is_data_plex_of v.name) c.plexes p.plex p.there p.own, p.map_is)
  ]

  -- the lowest plex has the lowest map, ..
  lowest_map : (p : Plex) → IsIn ps p → is_lowest ps p ≡ true → map_or_zero p.map ≡ lowest (all_maps shape)
  lowest_map p there h =
      let own = plex_there p there in
      let least : lowest (all_maps shape) ≤ map_or_zero p.map = lowest_least (all_maps shape) (map_or_zero p.map) maps_fit own in
      let q = there_plex (lowest (all_maps shape)) (has-lowest (all_maps shape) (not_empty (all_maps shape) (map_or_zero p.map) own) maps_fit) in
      let le = leb-true (map_or_zero p.map) (map_or_zero q.0.map) (each_from_all (λ (x : Plex). nat_le (map_or_zero p.map) (map_or_zero x.map)) ps q.0 h (contains ps q.0 q.1)) in
      let same = q.2 in
      omega (arith, least, le, same)

  -- .. and no other has
  other_map : (p : Plex) → IsIn ps p → is_lowest ps p ≡ false → map_or_zero p.map ≢ lowest (all_maps shape)
  other_map p there h same =
      none_there (is_lowest ps p)
      (all_from_each (λ (x : Plex). nat_le (map_or_zero p.map) (map_or_zero x.map)) ps
      (λ q one.
      let least : lowest (all_maps shape) ≤ map_or_zero q.map = lowest_least (all_maps shape) (map_or_zero q.map) maps_fit (plex_there q (is_in ps q one)) in
      le-leb (map_or_zero p.map) (map_or_zero q.map) (omega (arith, least, same))))
      h

  -- the mask of the maps to copy has all but the lowest
  pub copied_others : HasOthers (maps_to_copy shape) ps
  copied_others p one =
      let there = is_in ps p one in
      above_is (all_maps shape) (map_or_zero p.map) maps_fit (plex_there p there) (is_lowest ps p) (lowest_map p there) (other_map p there)

  -- it has not the map of the dirty regions
  pub copied_clean : marked_maps (maps_to_copy shape) 30 ≡ false
  copied_clean = by (has (maps_to_copy shape) 30) refl
    where
      by : (b : Bool) → has (maps_to_copy shape) 30 ≡ b → b ≡ false
      by true h =
          let all = (without_parts (all_maps shape) (only (lowest (all_maps shape))) 30 h).0 in
          let lt : 30 < 30 = low c good v of shape is 30 (in_union (all_maps shape) shape.snaps 30 (inl all)) in
          absurd (omega (arith, lt))
      by false h = refl

  module _ (bytes : Sectors) where
    low_plex : (p : Plex) → is_low (image_of c good bytes v).plexes (plex_image c good bytes p) ≡ is_lowest ps p
    low_plex p = list_all-map (λ (y : PlexImage). nat_le (map_or_zero p.map) y.map) (plex_image c good bytes) ps

    -- the maps that a new log marks, ..
    pub logged_others : (p : PlexImage) → Contains (image_of c good bytes v).plexes p → marked_maps (maps_to_copy shape) p.map ≡ not (is_low (image_of c good bytes v).plexes p)
    logged_others p one =
        let x = of_image c good bytes v p one in
        let there = kept (is_data_plex_of v.name) c.plexes x.plex x.there x.of in
        let small = plex_low c v of x.plex x.there x.of in
        subst (λ (y : PlexImage). marked_maps (maps_to_copy shape) y.map ≡ not (is_low (image_of c good bytes v).plexes y)) (sym x.is)
        (ap (λ (b : Bool). b && has (maps_to_copy shape) (map_or_zero x.plex.map)) (lt-ltb (map_or_zero x.plex.map) 32 (omega (arith, small)))
        ∙ copied_others x.plex (contains ps x.plex there) ∙ ap not (sym (low_plex x.plex)))

    -- .. and without one the one plex is the lowest
    pub plain_others : is_some v.dco ≡ false → (p : PlexImage) → Contains (image_of c good bytes v).plexes p → false ≡ not (is_low (image_of c good bytes v).plexes p)
    plain_others plain p one =
        let x = of_image c good bytes v p one in
        let alone : is_lowest ps x.plex ≡ true =
        all_from_each (λ (y : Plex). nat_le (map_or_zero x.plex.map) (map_or_zero y.map)) ps
        (λ q one_q.
        let w = filtered (is_data_plex_of v.name) c.plexes q (is_in ps q one_q) in
        let same : x.plex ≡ q = one_without c v of x.plex q x.there w.0 x.of w.1 plain in
        let equal = ap (λ (y : Plex). map_or_zero y.map) same in
        le-leb (map_or_zero x.plex.map) (map_or_zero q.map) (omega (arith, equal))) in
        subst (λ (y : PlexImage). false ≡ not (is_low (image_of c good bytes v).plexes y)) (sym x.is) (sym (ap not (low_plex x.plex ∙ alone)))

    -- no two plexes of the image have one name
    pub own_names : (p q : PlexImage) → Contains (image_of c good bytes v).plexes p → Contains (image_of c good bytes v).plexes q → bytes_eq q.name p.name ≡ true → q ≡ p
    own_names p q one other same =
        let x = of_image c good bytes v p one in
        let y = of_image c good bytes v q other in
        let named : y.plex.name ≡ x.plex.name = ap (λ (z : PlexImage). z.name) (sym y.is) ∙ bytes_eq_same q.name p.name same ∙ ap (λ (z : PlexImage). z.name) x.is in
        y.is ∙ ap (plex_image c good bytes) (one_plex c y.plex x.plex y.there x.there named) ∙ sym x.is

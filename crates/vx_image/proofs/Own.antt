-- The image of a volume is what its own sectors hold.
use Rattle.std.proofs.Common.{◌≡◌, inl, inr, ℕ, zero, suc, ◌+◌, ◌-◌, Bool, true, false, refl, ◌∙◌, subst, ap, cond, List, [], ◌∷◌, map, arith, Option, Some, None}
use Rattle.std.specs.Prelude.{◌&&◌, ◌==◌, nat_lt, nat_le, slice_index_or}
use Rattle.std.specs.List.{filter, flat_map}
use Rattle.std.proofs.lemmas.Bool.Decides.{nat_tests}
use Rattle.vx_base.specs.Blocks.{Contents}
use Rattle.vx_base.specs.Named.{Word}
use Rattle.vx_block.specs.Regions.{region_count}
use Rattle.vx_mask.proofs.Tests.{both_parts}
use Rattle.vx_layout.specs.declared.strip.Strip.{Strip}
use Rattle.vx_layout.specs.declared.place.Place.{Place}
use Rattle.vx_layout.specs.Columns.{place_in, place_of, column_of, sector_of, has_place}
use Rattle.vx_mapfmt.specs.Bits.{marks, is_headed}
use Rattle.vx_config_parts.specs.declared.plex.Plex.{Plex}
use Rattle.vx_config_parts.specs.declared.vol.Vol.{Vol}
use Rattle.vx_config_parts.specs.Objects.{refers, is_data, is_log, is_data_plex_of, is_log_plex_of}
use Rattle.vx_objects.specs.declared.config.Config.{Config}
use Rattle.vx_image.specs.Lies.{columns_of, strips_of}
use Rattle.vx_image.proofs.PlexMembers.{IsIn, in_left, in_right}
use Rattle.vx_image.specs.Image.{PlexImage, LogCopy}
use Rattle.vx_image.specs.Bytes.{Sectors, bytes_at, plex_contents, is_held, map_or_zero, plex_image, is_active, is_log_copy, plex_marks, log_copies, relation_maps, image_of}
use Rattle.vx_image.specs.Own.{IsOfPlex, IsOfVolume, SameInside, EachImageIsItsOwn}
use Rattle.vx_image.proofs.Members.{contains, in_filtered}

-- ---- where the blocks of a plex lie

all_three : (a b c : Bool) → a ≡ true → b ≡ true → c ≡ true → (a && b && c) ≡ true
all_three a b c p q r = rw (p, q, r) refl

-- the sector that lies so far behind the beginning of a strip is the strip's
place_there : (s : Strip) (sector : ℕ) → nat_lt sector s.count ≡ true → has_place s (record { disk = s.disk; sector = s.start + sector }) ≡ true
place_there s sector lt =
    all_three (s.disk == s.disk) (nat_le s.start (s.start + sector)) (nat_lt (s.start + sector - s.start) s.count) (grind (arith, nat_tests)) (grind (arith, nat_tests)) (grind (arith, nat_tests, lt))

-- some strip of a column has the place of a sector
place_has : (strips : List Strip) (sector : ℕ) (place : Place) → place_in strips sector ≡ Some place → (s : Strip) × IsIn strips s × (has_place s place ≡ true)
place_has [] sector place e = cc
place_has (s ∷ ss) sector place e = by (nat_lt sector s.count) refl (λ e. place_has ss (sector - s.count) place e) e
  where
    by : (b : Bool) → nat_lt sector s.count ≡ b → (place_in ss (sector - s.count) ≡ Some place → (s : Strip) × IsIn ss s × (has_place s place ≡ true)) →
        cond b (Some (record { disk = s.disk; sector = s.start + sector })) (place_in ss (sector - s.count)) ≡ Some place → (t : Strip) × IsIn (s ∷ ss) t × (has_place t place ≡ true)
    by true lt rest e =
        let same : record { disk = s.disk; sector = s.start + sector } ≡ place = cc in
        (s, inl refl, subst (λ (p : Place). has_place s p ≡ true) same (place_there s sector lt))
    by false lt rest e = let r = rest e in (r.0, inr r.1, r.2)

in_columns : (columns : List (List Strip)) (k : ℕ) (s : Strip) → IsIn (slice_index_or columns k []) s → IsIn (flat_map (λ strips. strips) columns) s
in_columns [] k s h = absurd h
in_columns (strips ∷ rest) zero s h = in_left strips (flat_map (λ strips. strips) rest) s h
in_columns (strips ∷ rest) (suc k) s h = in_right strips (flat_map (λ strips. strips) rest) s (in_columns rest k s h)

-- the place of a block of the plex is the plex's
place_own : (c : Config) (p : Plex) (b : ℕ) (place : Place) → place_of p.unit (columns_of c p) b ≡ Some place → IsOfPlex c p place
place_own c p b place e =
    let column = column_of p.unit (columns_of c p) b in
    let r = place_has (slice_index_or (columns_of c p) column []) (sector_of p.unit (columns_of c p) b) place e in
    (r.0, contains (strips_of c p) r.0 (in_columns (columns_of c p) column r.0 r.1), r.2)

-- ---- lists

map_same : {X Y : Type 0} (f g : X → Y) (xs : List X) → ((x : X) → IsIn xs x → f x ≡ g x) → map f xs ≡ map g xs
map_same f g [] each = refl
map_same f g (x ∷ xs) each = rw (each x (inl refl), map_same f g xs (λ y one. each y (inr one))) refl

filter_same : {X : Type 0} (f g : X → Bool) (xs : List X) → ((x : X) → IsIn xs x → f x ≡ g x) → filter f xs ≡ filter g xs
filter_same f g [] each = refl
filter_same f g (x ∷ xs) each = rw (each x (inl refl), filter_same f g xs (λ y one. each y (inr one))) refl

same_functions : {X Y : Type 0} (f g : X → Y) → ((x : X) → f x ≡ g x) → f ≡ g
same_functions f g h = λ i x. h x i

-- ---- one volume

module _ (c : Config) (good : ℕ) (v : Vol) (old new : Sectors) (same : SameInside c v.name old new) where
  same_place : (o : Option Place) → ((place : Place) → o ≡ Some place → IsOfVolume c v.name place) → bytes_at new o ≡ bytes_at old o
  same_place None own = refl
  same_place (Some place) own = same place (own place refl)

  same_contents : (p : Plex) → IsIn c.plexes p → refers p.vol v.name ≡ true → plex_contents c new p ≡ plex_contents c old p
  same_contents p one of =
      same_functions (plex_contents c new p) (plex_contents c old p)
      (λ b. same_place (place_of p.unit (columns_of c p) b) (λ place e. (p, contains c.plexes p one, of, place_own c p b place e)))

  same_plex : (p : Plex) → IsIn c.plexes p → refers p.vol v.name ≡ true → plex_image c good new p ≡ plex_image c good old p
  same_plex p one of =
      ap (λ (values : Contents). record { name = p.name; map = map_or_zero p.map; state = p.state; held = is_held c good p; values = values }) (same_contents p one of)

  same_copy : (p : Plex) → IsIn c.plexes p → is_log_copy c good new v p ≡ is_log_copy c good old v p
  same_copy p one = by (is_log_plex_of v.name p) refl
    where
      by : (b : Bool) → is_log_plex_of v.name p ≡ b →
          (b && (is_active p.state && (is_held c good p && is_headed v.len v.region (plex_contents c new p)))) ≡ (b && (is_active p.state && (is_held c good p && is_headed v.len v.region (plex_contents c old p))))
      by true log = ap (λ (contents : Contents). is_active p.state && (is_held c good p && is_headed v.len v.region contents)) (same_contents p one (both_parts (refers p.vol v.name) (is_log p.kind) log).0)
      by false log = refl

  same_marks : (p : Plex) → IsIn c.plexes p → refers p.vol v.name ≡ true → plex_marks c new v p ≡ plex_marks c old v p
  same_marks p one of =
      let shown : Contents → LogCopy = λ contents r k. marks (region_count v.len v.region) contents k r in
      ap shown (same_contents p one of)

  same_copies : (dco : Option Word) → log_copies dco c good new v ≡ log_copies dco c good old v
  same_copies None = refl
  same_copies (Some dco) =
      ap (λ (ps : List Plex). map (plex_marks c new v) ps) (filter_same (is_log_copy c good new v) (is_log_copy c good old v) c.plexes same_copy)
      ∙ map_same (plex_marks c new v) (plex_marks c old v) (filter (is_log_copy c good old v) c.plexes)
      (λ p one.
      let x = in_filtered (is_log_copy c good old v) c.plexes p one in
      same_marks p x.0 (both_parts (refers p.vol v.name) (is_log p.kind) (both_parts (is_log_plex_of v.name p) (is_active p.state && (is_held c good p && is_headed v.len v.region (plex_contents c old p))) x.1).0).0)

  same_plexes : map (plex_image c good new) (filter (is_data_plex_of v.name) c.plexes) ≡ map (plex_image c good old) (filter (is_data_plex_of v.name) c.plexes)
  same_plexes =
      map_same (plex_image c good new) (plex_image c good old) (filter (is_data_plex_of v.name) c.plexes)
      (λ p one.
      let x = in_filtered (is_data_plex_of v.name) c.plexes p one in
      same_plex p x.0 (both_parts (refers p.vol v.name) (is_data p.kind) x.1).0)

  pub same_image : image_of c good new v ≡ image_of c good old v
  same_image =
      ap (λ (ps : List PlexImage). record { state = v.state; length = v.len; region = v.region; plexes = ps; snaps = relation_maps c.snaps v.name; copies = log_copies v.dco c good new v }) same_plexes
      ∙ ap (λ (cs : List LogCopy). record { state = v.state; length = v.len; region = v.region; plexes = map (plex_image c good old) (filter (is_data_plex_of v.name) c.plexes); snaps = relation_maps c.snaps v.name; copies = cs }) (same_copies v.dco)

pub image_own : EachImageIsItsOwn
image_own c good v old new same = same_image c good v old new same

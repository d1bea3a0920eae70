-- The places of a plex's blocks are on its strips, and these on good disks.
use Rattle.std.proofs.Common.{◌≡◌, inl, inr, ℕ, zero, suc, ◌+◌, ◌-◌, Bool, true, false, refl, sym, ◌∙◌, subst, ap, cond, List, [], ◌∷◌, map, arith, Some}
use Rattle.std.specs.Prelude.{◌&&◌, ◌==◌, nat_lt, nat_le, slice_index_or}
use Rattle.std.specs.List.{flat_map, list_all}
use Rattle.std.proofs.lemmas.Bool.{and_parts, eqb-true}
use Rattle.std.proofs.lemmas.Bool.Decides.{nat_tests}
use Rattle.vx_layout.specs.declared.strip.Strip.{Strip}
use Rattle.vx_layout.specs.declared.place.Place.{Place}
use Rattle.vx_layout.specs.Columns.{place_in, place_of, column_of, sector_of, has_place}
use Rattle.vx_carve.specs.Strips.{all_lie_in, lies_in}
use Rattle.vx_config_parts.specs.declared.disk.Disk.{Disk}
use Rattle.vx_config_parts.specs.declared.plex.Plex.{Plex}
use Rattle.vx_objects.specs.declared.config.Config.{Config}
use Rattle.vx_image.specs.Lies.{columns_of, strips_of}
use Rattle.vx_image.specs.Room.{public_of}
use Rattle.vx_image.proofs.PlexMembers.{IsIn, any_in, from_map, in_left, in_right}
use Rattle.vx_image.specs.Own.{IsOfPlex}
use Rattle.vx_image.proofs.Members.{contains}
use Rattle.vx_group_volumes.specs.Places.{IsSlotOf}

-- a strip that passes a test has the place
pub record IsOnStrip (test : Strip → Bool) (strips : List Strip) (place : Place) : Type 0 where
  pub strip : Strip
  pub there : IsIn strips strip
  pub passes : test strip ≡ true
  pub has : has_place strip place ≡ true

all_three : (a b c : Bool) → a ≡ true → b ≡ true → c ≡ true → (a && b && c) ≡ true
all_three a b c p q r = rw (p, q, r) refl

place_there : (s : Strip) (sector : ℕ) → nat_lt sector s.count ≡ true → has_place s (record { disk = s.disk; sector = s.start + sector }) ≡ true
place_there s sector lt =
    all_three (s.disk == s.disk) (nat_le s.start (s.start + sector)) (nat_lt (s.start + sector - s.start) s.count) (grind (arith, nat_tests)) (grind (arith, nat_tests)) (grind (arith, nat_tests, lt))

module _ (test : Strip → Bool) where
  in_column : (strips : List Strip) (sector : ℕ) (place : Place) → list_all test strips ≡ true → place_in strips sector ≡ Some place → IsOnStrip test strips place
  in_column [] sector place all e = cc
  in_column (s ∷ ss) sector place all e = by (nat_lt sector s.count) refl (λ f. in_column ss (sector - s.count) place parts.1 f) e
    where
      parts : (test s ≡ true) × (list_all test ss ≡ true)
      parts = and_parts (test s) (list_all test ss) all

      by : (b : Bool) → nat_lt sector s.count ≡ b → (place_in ss (sector - s.count) ≡ Some place → IsOnStrip test ss place) →
          cond b (Some (record { disk = s.disk; sector = s.start + sector })) (place_in ss (sector - s.count)) ≡ Some place → IsOnStrip test (s ∷ ss) place
      by true lt rest e =
          let same : record { disk = s.disk; sector = s.start + sector } ≡ place = cc in
          record { strip = s; there = inl refl; passes = parts.0; has = subst (λ (p : Place). has_place s p ≡ true) same (place_there s sector lt) }
      by false lt rest e = let r = rest e in record { strip = r.strip; there = inr r.there; passes = r.passes; has = r.has }

  pub in_columns : (columns : List (List Strip)) (k sector : ℕ) (place : Place) → list_all (λ strips. list_all test strips) columns ≡ true → place_in (slice_index_or columns k []) sector ≡ Some place →
      IsOnStrip test (flat_map (λ strips. strips) columns) place
  in_columns [] k sector place all e = cc
  in_columns (strips ∷ rest) zero sector place all e =
      let r = in_column strips sector place (and_parts (list_all test strips) (list_all (λ strips. list_all test strips) rest) all).0 e in
      record { strip = r.strip; there = in_left strips (flat_map (λ strips. strips) rest) r.strip r.there; passes = r.passes; has = r.has }
  in_columns (strips ∷ rest) (suc k) sector place all e =
      let r = in_columns rest k sector place (and_parts (list_all test strips) (list_all (λ strips. list_all test strips) rest) all).1 e in
      record { strip = r.strip; there = in_right strips (flat_map (λ strips. strips) rest) r.strip r.there; passes = r.passes; has = r.has }

-- the place of a block is the plex's, and on one of the disks in whose public regions the plex lies
pub place_own : (c : Config) (disks : List Disk) (p : Plex) (b : ℕ) (place : Place) → all_lie_in (map public_of disks) (columns_of c p) ≡ true → place_of p.unit (columns_of c p) b ≡ Some place →
    IsOfPlex c p place × IsSlotOf disks place.disk
place_own c disks p b place lie e =
    let on = in_columns (lies_in (map public_of disks)) (columns_of c p) (column_of p.unit (columns_of c p) b) (sector_of p.unit (columns_of c p) b) place lie e in
    let s = on.strip in
    let r = any_in (λ r. r.disk == s.disk && nat_le r.sector s.start && nat_le (s.start + s.count) (r.sector + r.count)) (map public_of disks) on.passes in
    let d = from_map public_of disks r.0 r.1 in
    let first = and_parts (r.0.disk == s.disk && nat_le r.0.sector s.start) _ r.2 in
    let same = eqb-true r.0.disk s.disk (and_parts (r.0.disk == s.disk) _ first.0).0 in
    let there = and_parts (s.disk == place.disk && nat_le s.start place.sector) _ on.has in
    let here = eqb-true s.disk place.disk (and_parts (s.disk == place.disk) _ there.0).0 in
    let slot : d.0.slot ≡ r.0.disk = ap (λ y. y.disk) (sym d.2) in
    ((s, contains (strips_of c p) s on.there, on.has), (d.0, contains disks d.0 d.1, slot ∙ same ∙ here))

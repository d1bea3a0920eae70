-- The pieces of the runs of a plex hold what its places do.
use Rattle.std.proofs.Common.{◌≡◌, ℕ, zero, suc, ◌+◌, ◌-◌, ◌<◌, ◌≤◌, Bool, true, false, cond, Option, Some, None, List, [], ◌∷◌, map, refl, sym, ap, ◌∙◌, subst, arith}
use Rattle.std.specs.Prelude.{◌&&◌, ◌==◌, nat_lt, nat_le, slice_index}
use Rattle.std.specs.List.{All, list_all}
use Rattle.std.proofs.lemmas.Bool.{and_parts, ltb-true, ltb-false, eqb-true}
use Rattle.std.proofs.lemmas.List.Elements.{All-head, All-tail}
use Rattle.vx_base.specs.Blocks.{Contents}
use Rattle.vx_mask.specs.Mask.{has}
use Rattle.vx_piece.specs.Seen.{Seen}
use Rattle.vx_runs.specs.Part.{told_or}
use Rattle.vx_runs.specs.Run.{run_contents}
use Rattle.vx_layout.specs.declared.run.Run.{Run}
use Rattle.vx_layout.specs.declared.strip.Strip.{Strip}
use Rattle.vx_layout.specs.declared.place.Place.{Place}
use Rattle.vx_layout.specs.Columns.{column_at, column_of, sector_of, place_in, place_of}
use Rattle.vx_layout.specs.Runs.{AreRuns, IsRun}
use Rattle.vx_carve.specs.Carved.{ArePieces, AreCut}
use Rattle.vx_carve.specs.Strips.{lies_in, all_lie_in}
use Rattle.vx_carve.specs.Together.{Holds, HoldsTold, IsRunOf}
use Rattle.vx_config_parts.specs.declared.disk.Disk.{Disk}
use Rattle.vx_image.specs.Room.{public_of}
use Rattle.vx_image.proofs.PlexMembers.{any_in, from_map}
use Rattle.vx_image.proofs.Members.{contains, from_filter}
use Rattle.vx_image.specs.Bytes.{Sectors, bytes_at}
use Rattle.vx_lending.specs.FormLaws.{good_disks}
use Rattle.vx_volume_laws.specs.Contents.{AreSectorsOf}

-- ---- places are on strips

module _ (test : Strip → Bool) where
  pub record IsOnStrip (place : Place) : Type 0 where
    pub strip : Strip
    pub passes : test strip ≡ true
    pub disk : place.disk ≡ strip.disk

  in_strips : (strips : List Strip) (sector : ℕ) (place : Place) → list_all test strips ≡ true → place_in strips sector ≡ Some place → IsOnStrip place
  in_strips [] sector place all at = absurd cc
  in_strips (x ∷ strips) sector place all at = by (λ rest. in_strips strips (sector - x.count) place (and_parts (test x) (list_all test strips) all).1 rest) (nat_lt sector x.count) at
    where
      parts : (test x ≡ true) × (list_all test strips ≡ true)
      parts = and_parts (test x) (list_all test strips) all

      by : (place_in strips (sector - x.count) ≡ Some place → IsOnStrip place) → (b : Bool) → cond b (Some (record { disk = x.disk; sector = x.start + sector })) (place_in strips (sector - x.count)) ≡ Some place → IsOnStrip place
      by rest true at = record { strip = x; passes = parts.0; disk = ap (λ o. disk_in o x.disk) (sym at) }
        where
          disk_in : Option Place → ℕ → ℕ
          disk_in None d = d
          disk_in (Some p) d = p.disk
      by rest false at = rest at

  in_columns : (columns : List (List Strip)) (k sector : ℕ) (place : Place) → list_all (λ strips. list_all test strips) columns ≡ true → place_in (column_at columns k) sector ≡ Some place → IsOnStrip place
  in_columns [] k sector place all at = absurd cc
  in_columns (strips ∷ columns) zero sector place all at = in_strips strips sector place (and_parts (list_all test strips) (list_all (λ strips. list_all test strips) columns) all).0 at
  in_columns (strips ∷ columns) (suc k) sector place all at = in_columns columns k sector place (and_parts (list_all test strips) (list_all (λ strips. list_all test strips) columns) all).1 at

-- a place in the public regions of good disks is on a good disk
pub good_place : (good : ℕ) (disks : List Disk) (unit : ℕ) (columns : List (List Strip)) (b : ℕ) (place : Place) → all_lie_in (map public_of (good_disks good disks)) columns ≡ true → place_of unit columns b ≡ Some place → has good place.disk ≡ true
good_place good disks unit columns b place lie at =
    let on = in_columns (lies_in (map public_of (good_disks good disks))) columns (column_of unit columns b) (sector_of unit columns b) place lie at in
    let r = any_in (λ r. r.disk == on.strip.disk && nat_le r.sector on.strip.start && nat_le (on.strip.start + on.strip.count) (r.sector + r.count)) (map public_of (good_disks good disks)) on.passes in
    let d = from_map public_of (good_disks good disks) r.0 r.1 in
    let first = and_parts (r.0.disk == on.strip.disk && nat_le r.0.sector on.strip.start) _ r.2 in
    let same = eqb-true r.0.disk on.strip.disk (and_parts (r.0.disk == on.strip.disk) _ first.0).0 in
    let slot : d.0.slot ≡ r.0.disk = ap (λ y. y.disk) (sym d.2) in
    let passes = (from_filter (λ e. has good e.slot) disks d.0 (contains (good_disks good disks) d.0 d.1)).1 in
    subst (λ n. has good n ≡ true) (slot ∙ same ∙ sym on.disk) passes

-- ---- runs

told_in : (contents : ℕ → Contents) (device start count : ℕ) (told : Option Contents) (k : ℕ) → HoldsTold contents device start count told → k < count → told_or told k ≡ contents device (start + k)
told_in contents device start count None k h lt = absurd h
told_in contents device start count (Some t) k h lt = h k lt

piece_holds : (contents : ℕ → Contents) (p : Seen) (device start count k : ℕ) → IsRunOf device start count p → Holds contents p → k < count → told_or p.told k ≡ contents device (start + k)
piece_holds contents p device start count k is h lt =
    let same = is.count_is in
    told_in contents p.device p.start p.sectors p.told k h (omega (arith, same, lt)) ∙ ap (λ n. contents n (p.start + k)) is.device_is ∙ ap (λ n. contents device (n + k)) is.start_is

module _ (good : ℕ) (disks : List Disk) (numbers : List ℕ) (contents : ℕ → Contents) (bytes : Sectors) (sectors : AreSectorsOf good numbers contents bytes) (unit : ℕ) (columns : List (List Strip)) (lie : all_lie_in (map public_of (good_disks good disks)) columns ≡ true) where
  -- a sector of a run is that of the block there
  run_holds : (run : Run) (i : ℕ) → IsRun unit columns run → i < run.count → contents (slice_index numbers run.disk) (2048 + run.sector + i) ≡ bytes_at bytes (place_of unit columns (run.block + i))
  run_holds run i is lt =
      let at = is.places i lt in
      let there = good_place good disks unit columns (run.block + i) (record { disk = run.disk; sector = run.sector + i }) lie at in
      let sum : 2048 + run.sector + i ≡ 2048 + (run.sector + i) = omega arith in
      ap (contents (slice_index numbers run.disk)) sum ∙ sym (sectors run.disk (run.sector + i) there) ∙ ap (bytes_at bytes) (sym at)

  -- what the pieces of runs hold is what the blocks are
  pub runs_hold : (runs : List Run) (ps : List Seen) (start end i : ℕ) → AreRuns unit columns start end runs → ArePieces numbers runs ps → All (Holds contents) ps → start + i < end → run_contents ps i ≡ bytes_at bytes (place_of unit columns (start + i))
  runs_hold [] [] start end i are pieces hold lt = let same : start ≡ end = are in absurd (omega (arith, same, lt))
  runs_hold [] (p ∷ ps) start end i are pieces hold lt = absurd pieces
  runs_hold (run ∷ runs) [] start end i are pieces hold lt = absurd pieces
  runs_hold (run ∷ runs) (p ∷ ps) start end i are pieces hold lt =
      by (λ j more. runs_hold runs ps (start + run.count) end j are.3 pieces.1 (All-tail (Holds contents) p ps hold) more) (nat_lt i p.sectors) refl
    where
      count : p.sectors ≡ run.count
      count = pieces.0.count_is

      here : i < p.sectors → told_or p.told i ≡ bytes_at bytes (place_of unit columns (start + i))
      here low =
          let same = count in
          let lt' : i < run.count = omega (arith, low, same) in
          piece_holds contents p (slice_index numbers run.disk) (2048 + run.sector) run.count i pieces.0 (All-head (Holds contents) p ps hold) lt' ∙ run_holds run i are.1 lt' ∙ ap (λ n. bytes_at bytes (place_of unit columns (n + i))) are.0

      later : ((j : ℕ) → start + run.count + j < end → run_contents ps j ≡ bytes_at bytes (place_of unit columns (start + run.count + j))) → p.sectors ≤ i → run_contents ps (i - p.sectors) ≡ bytes_at bytes (place_of unit columns (start + i))
      later rest high =
          let same = count in
          let at : start + run.count + (i - p.sectors) ≡ start + i = omega (arith, high, same) in
          rest (i - p.sectors) (omega (arith, at, lt)) ∙ ap (λ n. bytes_at bytes (place_of unit columns n)) at

      by : ((j : ℕ) → start + run.count + j < end → run_contents ps j ≡ bytes_at bytes (place_of unit columns (start + run.count + j))) → (b : Bool) → nat_lt i p.sectors ≡ b →
          cond b (told_or p.told i) (run_contents ps (i - p.sectors)) ≡ bytes_at bytes (place_of unit columns (start + i))
      by rest true e = here (ltb-true i p.sectors e)
      by rest false e = later rest (ltb-false i p.sectors e)

  pub cut_holds : (ps : List Seen) (start end i : ℕ) → AreCut numbers unit columns start end ps → All (Holds contents) ps → start + i < end → run_contents ps i ≡ bytes_at bytes (place_of unit columns (start + i))
  cut_holds ps start end i cut hold lt = runs_hold cut.runs ps start end i cut.are_runs cut.pieces hold lt

-- How many regions are copied to a plex that went on: those that it missed as the command began.
use Rattle.std.proofs.Common.{◌≡◌, ◌≢◌, ◌∙◌, ℕ, zero, suc, ◌+◌, ◌<◌, ◌==◌, ◌^◌, Bool, true, false, cond, not, List, [], ◌∷◌, length, map, refl, sym, ap, subst, inl, arith}
use Rattle.std.specs.Prelude.{◌&&◌, Contains, count_by}
use Rattle.std.specs.List.{filter}
use Rattle.std.proofs.lemmas.Bool.{false≢true}
use Rattle.std.proofs.lemmas.Bool.Decides.{nat_tests}
use Rattle.std.proofs.lemmas.List.Sums.{sum_by-cons}
use Rattle.vx_base.specs.Named.{Word}
use Rattle.vx_block.specs.Regions.{region_count}
use Rattle.vx_mask.specs.Mask.{has, lowest, only, without}
use Rattle.vx_mask.proofs.MaskLemmas.{has-lowest, has-only_same, has-union, has-without, not_empty, only-lt, same_as_only, without-lt}
use Rattle.vx_mask.proofs.Tests.{or_from_right}
use Rattle.vx_piece.specs.Seen.{Seen}
use Rattle.vx_pages.specs.declared.local_piece.LocalPiece.{Ghosts}
use Rattle.vx_pages.specs.Items.{item_at}
use Rattle.vx_core.specs.declared.stage.Stage.{Stage}
use Rattle.vx_cell.specs.Changes.{CellSeen}
use Rattle.vx_copies.specs.Disks.{DiskSeen}
use Rattle.vx_config_parts.specs.declared.plex.Plex.{Plex}
use Rattle.vx_config_parts.specs.Objects.{is_data_plex_of}
use Rattle.vx_image.specs.Bytes.{Sectors, map_or_zero, plex_image}
use Rattle.vx_image.specs.Counts.{IsSizeBetween, number_in}
use Rattle.vx_image.specs.Image.{PlexImage}
use Rattle.vx_image.proofs.Members.{contains, into_filter, is_in}
use Rattle.vx_image.proofs.PlexMembers.{in_map}
use Rattle.vx_group_start.specs.Copying.{common, misses, missed, missed_regions}
use Rattle.vx_moments.specs.World.{Group, Volume}
use Rattle.vx_lending.specs.declared.public.Running.{Running}
use Rattle.vx_volume.specs.Switching.{Switches}
use Rattle.vx_volume.specs.Volume.{VolumeSeen, cell_at, no_cell, volume_seen}
use Rattle.vx_volume_laws.specs.Running.{RunsAsVolume}
use Rattle.vx_house.specs.Runs.{IsRunOf}

-- ---- one region

in_both : (a b : Bool) → a ≡ true → b ≡ true → (a && not (a && not b)) ≡ true
in_both true true e f = refl
in_both true false e f = absurd (false≢true f)
in_both false b e f = e

both_of : (a b : Bool) → (a && not (a && not b)) ≡ true → (a ≡ true) × (b ≡ true)
both_of true true e = (refl, refl)
both_of true false e = absurd (false≢true e)
both_of false b e = absurd (false≢true e)

has_common : (a b k : ℕ) → has (common a b) k ≡ (has a k && not (has a k && not (has b k)))
has_common a b k = has-without a (without a b) k ∙ ap (λ (x : Bool). has a k && not x) (has-without a b k)

in_common : (a b k : ℕ) → has a k ≡ true → has b k ≡ true → has (common a b) k ≡ true
in_common a b k e f = has_common a b k ∙ in_both (has a k) (has b k) e f

of_common : (a b k : ℕ) → has (common a b) k ≡ true → (has a k ≡ true) × (has b k ≡ true)
of_common a b k e = both_of (has a k) (has b k) (sym (has_common a b k) ∙ e)

some_left : (n : ℕ) → n ≢ 0 → not (n == 0) ≡ true
some_left zero some = absurd (some refl)
some_left (suc n) some = grind (arith, nat_tests)

none_left : (n : ℕ) → not (n == 0) ≡ true → n ≢ 0
none_left n some none = false≢true (sym (ap (λ (k : ℕ). not (k == 0)) none) ∙ some)

-- a plex that is on and marked is missed
missed_there : (m : ℕ) (s : Stage) → m < 64 → has s.on m ≡ true → has s.bits m ≡ true → misses (only m) s ≡ true
missed_there m s low on marked = some_left _ (not_empty _ m (in_common (common (only m) s.on) s.bits m (in_common (only m) s.on m (has-only_same m low) on) marked))

-- what is missed of one plex is marked
marked_there : (m : ℕ) (s : Stage) → misses (only m) s ≡ true → has s.bits m ≡ true
marked_there m s some =
    let x = missed (only m) s in
    let fits : x < 2 ^ 64 = without-lt (common (only m) s.on) (without (common (only m) s.on) s.bits) (without-lt (only m) (without (only m) s.on) (only-lt m)) in
    let at : has x (lowest x) ≡ true = has-lowest x (none_left x some) fits in
    let parts = of_common (common (only m) s.on) s.bits (lowest x) at in
    let same = same_as_only m (lowest x) (of_common (only m) s.on (lowest x) parts.0).0 in
    subst (λ k. has s.bits k ≡ true) same parts.1

-- ---- all regions

number_front : (n : ℕ) (set : ℕ → Bool) → number_in (suc n) set ≡ cond (set 0) 1 0 + number_in n (λ r. set (suc r))
number_front zero set = omega arith
number_front (suc n) set = let e = number_front n set in omega (arith, e)

number_of : (test : CellSeen → Bool) (cells : List CellSeen) → number_in (length cells) (λ r. test (item_at no_cell cells r)) ≡ count_by test cells
number_of test [] = refl
number_of test (x ∷ cells) =
    let first = number_front (length cells) (λ r. test (item_at no_cell (x ∷ cells) r)) in
    let rest = number_of test cells in
    let sum = sum_by-cons (λ (y : CellSeen). cond (test y) 1 0) x cells in
    omega (arith, first, rest, sum)

module _ {P : Type 0} {ghosts : Ghosts P} (see : P → Seen) (hs : List DiskSeen) (g : Group) (vol : Word) (before after : Running P ghosts) (w : Volume) (run : IsRunOf see hs g vol before w) (p : Plex) (there : Contains g.config.plexes p) (own : is_data_plex_of vol p ≡ true)
    (low : map_or_zero p.map < 64) (switches : Switches (map_or_zero p.map) true (volume_seen see before.volume) (volume_seen see after.volume)) where
  abbrev m : ℕ
  m = map_or_zero p.map

  abbrev was : VolumeSeen
  was = volume_seen see before.volume

  abbrev now : VolumeSeen
  now = volume_seen see after.volume

  image_of_plex : (q : PlexImage) × Contains run.plexes q × (q.name ≡ p.name) × (q.map ≡ m)
  image_of_plex =
      let bytes : Sectors = λ slot k. [] in
      let image : PlexImage = plex_image g.config g.good bytes p in
      let of_volume : is_data_plex_of run.of.name p ≡ true = ap (λ n. is_data_plex_of n p) run.named ∙ own in
      let here = in_map (plex_image g.config g.good bytes) (filter (is_data_plex_of run.of.name) g.config.plexes) p
      (is_in (filter (is_data_plex_of run.of.name) g.config.plexes) p (into_filter (is_data_plex_of run.of.name) g.config.plexes p there of_volume)) in
      run.plexes_of bytes image (contains (map (plex_image g.config g.good bytes) (filter (is_data_plex_of run.of.name) g.config.plexes)) image here)

  -- in each region it is on, and marked as it was
  on_there : (r : ℕ) → r < length was.cells → has (cell_at now r).stage.on m ≡ true
  on_there r lt =
      ap (λ (c : CellSeen). has c.stage.on m) (switches.cells.each r lt)
      ∙ has-union (cell_at was r).stage.on (only m) m ∙ or_from_right (has (cell_at was r).stage.on m) (has (only m) m) (has-only_same m low)

  bits_there : (r : ℕ) → r < length was.cells → has (cell_at now r).stage.bits m ≡ has (cell_at was r).stage.bits m
  bits_there r lt = ap (λ (c : CellSeen). has c.stage.bits m) (switches.cells.each r lt)

  pub count_fits : w.sound ≡ true → IsSizeBetween (missed_regions (only m) now) (region_count w.length w.region) (w.tracks p.name).sure (w.tracks p.name).possible
  count_fits sound =
      let runs : RunsAsVolume run.plexes was w = run.runs_as sound in
      let q = image_of_plex in
      let regions : region_count w.length w.region ≡ length was.cells =
      ap (λ n. region_count n w.region) runs.length_is ∙ ap (λ n. region_count was.length n) runs.region_is ∙ sym run.placed.runs.whole.count in
      let below : (r : ℕ) → r < region_count w.length w.region → r < length was.cells = λ r lt. subst (λ n. r < n) regions lt in
      record {
        set = λ r. misses (only m) (cell_at now r).stage;
        size =
            ap (λ n. number_in n (λ r. misses (only m) (cell_at now r).stage)) (regions ∙ sym switches.cells.size)
            ∙ number_of (λ (cell : CellSeen). misses (only m) cell.stage) now.cells;
        least = λ r lt sure.
            let inside = below r lt in
            let surely : (w.tracks q.0.name).sure r ≡ true = ap (λ (t : Word). (w.tracks t).sure r) q.2 ∙ sure in
            let bits : has (cell_at was r).stage.bits q.0.map ≡ true = ((runs.each r inside).tracks q.0 q.1).sure (run.sure sound q.0 q.1 r inside surely) surely in
            missed_there m (cell_at now r).stage low (on_there r inside) (bits_there r inside ∙ ap (has (cell_at was r).stage.bits) (sym q.3) ∙ bits);
        most = λ r lt missed_so.
            let inside = below r lt in
            let bits : has (cell_at was r).stage.bits q.0.map ≡ true = ap (has (cell_at was r).stage.bits) q.3 ∙ sym (bits_there r inside) ∙ marked_there m (cell_at now r).stage missed_so in
            ap (λ (t : Word). (w.tracks t).possible r) (sym q.2) ∙ ((runs.each r inside).tracks q.0 q.1).possible (inl bits);
      }

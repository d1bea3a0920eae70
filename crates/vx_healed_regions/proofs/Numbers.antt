-- The numbers of regions that a recovery tells are sizes of sets between what all copies of the log mark and what some copy does.
use Rattle.std.proofs.Common.{◌≡◌, ◌≢◌, inl, inr, ℕ, zero, suc, ◌+◌, ◌%◌, ◌<◌, ◌^◌, Bool, true, false, cond, not, min, List, [], ◌∷◌, length, Ok, refl, sym, ap, ◌∙◌, subst, arith}
use Rattle.std.specs.Prelude.{◌==◌, ◌&&◌, ◌||◌, bit_and, bit_xor, count_by, Contains}
use Rattle.std.specs.List.{list_any}
use Rattle.std.proofs.lemmas.Bool.{and_from}
use Rattle.std.proofs.lemmas.Bool.Decides.{nat_tests}
use Rattle.std.proofs.lemmas.List.Sums.{sum_by-cons}
use Rattle.std.proofs.lemmas.Nat.{and_le_r}
use Rattle.std.proofs.lemmas.Nat.Bits.{bit_at-lt, bit_at_and, bit_at_xor, same_from_bits}
use Rattle.std.specs.Int.{bit_at}
use Rattle.vx_base.specs.Named.{Word}
use Rattle.vx_mask.specs.Mask.{has, lowest, without}
use Rattle.vx_mask.proofs.MaskLemmas.{has-lowest, has-without, not_empty}
use Rattle.vx_mask.proofs.Sets.{out_without, without_parts}
use Rattle.vx_mask.proofs.Tests.{both_parts, not_both, or_from_left, or_from_right, true_or_false}
use Rattle.vx_core.specs.declared.stage.Phase.{Phase}
use Rattle.vx_core.specs.declared.stage.Phase.TheVariants.{Settled, Unsettled, Dead, Busy}
use Rattle.vx_core.specs.declared.stage.Stage.{Stage}
use Rattle.vx_core.specs.History.{NoCall}
use Rattle.vx_core.specs.Region.{Fixed, RegionState}
use Rattle.vx_core.specs.Schedule.{IsIdle}
use Rattle.vx_core.specs.Soundness.{freeing}
use Rattle.vx_core_laws.specs.Tracking.{IsMarkable, IsSeen, IsTracked, Notes, no_notes, notes_of}
use Rattle.vx_core_laws.proofs.Tracks.{each_track_holds}
use Rattle.vx_pages.specs.declared.local_piece.LocalPiece.{Ghosts}
use Rattle.vx_pages.specs.Items.{item_at}
use Rattle.vx_cell.specs.Changes.{CellSeen}
use Rattle.vx_cell.specs.Plexes.{PlexRose}
use Rattle.vx_cell.specs.Region.{StandsFor, state_of}
use Rattle.vx_cell.proofs.Changes.{rose_still}
use Rattle.vx_config_parts.specs.declared.vol.Vol.{Vol}
use Rattle.vx_objects.specs.declared.config.Config.{Config}
use Rattle.vx_image.specs.Bytes.{Sectors, image_of}
use Rattle.vx_image.specs.Counts.{IsSizeBetween, is_possibly_behind, is_surely_behind, number_in}
use Rattle.vx_image.specs.Image.{LogCopy, PlexImage, has_no_copy, is_available, is_marked_by_all, is_marked_by_some, regions_of}
use Rattle.vx_image.specs.Meaning.{candidates_read, dirty_read, sure_read}
use Rattle.vx_image.specs.Soundness.{IsSoundImage}
use Rattle.vx_image.proofs.Members.{any_from_one, each_from_all, one_from_any}
use Rattle.vx_image.proofs.Readings.{read_stands}
use Rattle.vx_moments.specs.Tracks.{TrackOwner, has_failed}
use Rattle.vx_volume.specs.Laws.{GoesOn}
use Rattle.vx_volume.specs.Volume.{VolumeSeen, cell_at, no_cell, region_at}
use Rattle.vx_volume.proofs.Notes.{course_noted}
use Rattle.vx_volume.proofs.PassHistories.{settle_pass}
use Rattle.vx_lending.specs.declared.public.Public.{Public}
use Rattle.vx_lending.specs.declared.public.Running.{Running}
use Rattle.vx_volume_laws.specs.Opened.{IsFixedOf}
use Rattle.vx_volume_laws.specs.Opening.{IsOpened}
use Rattle.vx_volume_laws.specs.RunLaws.{FailuresAreTold, OwnersFit}
use Rattle.vx_volume_laws.proofs.OpenedImages.{opened_stands}
use Rattle.vx_group_recover.specs.declared.healing.Healed.{Healed}
use Rattle.vx_group_start.specs.Copying.{common, missed, misses}
use Rattle.vx_group_volumes.proofs.Rests.{settled_volume}
use Rattle.vx_healed_volumes.specs.Healed.{AreSectorsAround, IsHealedBy}
use Rattle.vx_healed_regions.specs.Laws.{some_failed}
use Rattle.vx_healed_regions.proofs.Healings.{Stays, rest_stays, settles_stays}
use Rattle.vx_healed_regions.proofs.Marks.{settles_more}
use Rattle.vx_healed_regions.proofs.Openings.{recovered_filled}
use Rattle.vx_healed_regions.proofs.Spared.{as_image, count_is, loaded, now, opened, told, was}

-- ---- how many regions of a volume pass a test

number_front : (n : ℕ) (set : ℕ → Bool) → number_in (suc n) set ≡ cond (set 0) 1 0 + number_in n (λ r. set (suc r))
number_front zero set = omega arith
number_front (suc n) set = let e = number_front n set in omega (arith, e)

number_of : (test : CellSeen → Bool) (cells : List CellSeen) → number_in (length cells) (λ r. test (item_at no_cell cells r)) ≡ count_by test cells
number_of test [] = refl
number_of test (x ∷ cells) =
    let first = number_front (length cells) (λ r. test (item_at no_cell (x ∷ cells) r)) in
    let rest = number_of test cells in
    let sum = sum_by-cons (λ (y : CellSeen). cond (test y) 1 0) x cells in
    omega (arith, first, rest, sum)

any_at : (test : CellSeen → Bool) (cells : List CellSeen) (r : ℕ) → r < length cells → test (item_at no_cell cells r) ≡ true → list_any test cells ≡ true
any_at test [] r lt there = absurd (omega (arith, lt))
any_at test (x ∷ cells) zero lt there = or_from_left (test x) (list_any test cells) there
any_at test (x ∷ cells) (suc r) lt there = or_from_right (test x) (list_any test cells) (any_at test cells r (omega (arith, lt)) there)

-- ---- what is in two masks

both_bits : (a b : ℕ) → a < 2 → b < 2 → min a ((a + min a ((a + b) % 2)) % 2) ≡ min a b
both_bits a b low high = grind arith

common_is : (a b : ℕ) → common a b ≡ bit_and a b
unfolding without
common_is a b = same_from_bits _ _ (λ i.
    rw (bit_at_and a (bit_xor a (bit_and a (bit_xor a b))) i, bit_at_xor a (bit_and a (bit_xor a b)) i, bit_at_and a (bit_xor a b) i, bit_at_xor a b i, bit_at_and a b i)
    (both_bits (bit_at a i) (bit_at b i) (bit_at-lt a i) (bit_at-lt b i)))

common_lt : (a b : ℕ) → b < 2 ^ 64 → common a b < 2 ^ 64
common_lt a b fits = let e = common_is a b in let le = and_le_r a b in omega (arith, e, le, fits)

common_parts : (a b k : ℕ) → has (common a b) k ≡ true → (has a k ≡ true) × (has b k ≡ true)
common_parts a b k there =
    let x = without_parts a (without a b) k there in
    (x.0, out_without a b k x.1 x.0)

in_common : (a b k : ℕ) → has a k ≡ true → has b k ≡ true → has (common a b) k ≡ true
in_common a b k e f = has-without a (without a b) k ∙ ap (λ (x : Bool). has a k && not x) (has-without a b k) ∙ by (has a k) (has b k) e f
  where
    by : (x y : Bool) → x ≡ true → y ≡ true → (x && not (x && not y)) ≡ true
    by true true e f = refl
    by true false e f = cc
    by false y e f = cc

some_missed : (n k : ℕ) → has n k ≡ true → not (n == 0) ≡ true
some_missed n k there = elim (true_or_false (n == 0)) [ inl none ↦ absurd (not_empty n k there (empty n none)) | inr some ↦ ap not some ]
  where
    empty : (n : ℕ) → (n == 0) ≡ true → n ≡ 0
    empty n none = grind (arith, nat_tests)

not_none : (n : ℕ) → not (n == 0) ≡ true → n ≢ 0
not_none n some none = not_both some (ap (λ (m : ℕ). not (m == 0)) none)

-- a map that is missed
pub record IsMissed (mask : ℕ) (s : Stage) (k : ℕ) : Type 0 where
  pub on : has s.on k ≡ true
  pub marked : has s.bits k ≡ true

one_missed : (mask : ℕ) (s : Stage) → s.bits < 2 ^ 64 → misses mask s ≡ true → (k : ℕ) × IsMissed mask s k
one_missed mask s fits some =
    let k = lowest (missed mask s) in
    let there : has (missed mask s) k ≡ true = has-lowest (missed mask s) (not_none (missed mask s) some) (common_lt (common mask s.on) s.bits fits) in
    let x = common_parts (common mask s.on) s.bits k there in
    (k, record { on = (common_parts mask s.on k x.0).1; marked = x.1 })

-- ---- the volume

module _ {P : Type 0} {ghosts : Ghosts P} (c : Config) (good : ℕ) (v : Vol) (numbers : List ℕ) (old new : Public P ghosts) (running after : Running P ghosts) (healed : Healed)
    (is : IsHealedBy ghosts.seen c good v numbers old new running after (Ok healed)) (before behind : Sectors) (around : AreSectorsAround ghosts.seen good numbers old after before behind) where
  abbrev v0 : VolumeSeen
  v0 = was c good v numbers old new running after (Ok healed) is before behind around

  abbrev v1 : VolumeSeen
  v1 = now c good v numbers old new running after (Ok healed) is before behind around

  abbrev copy : LogCopy
  copy = (loaded c good v numbers old new running after (Ok healed) is before behind around).copy

  one_copy : Contains (image_of c good before v).copies copy
  one_copy = (loaded c good v numbers old new running after (Ok healed) is before behind around).one

  count : length v0.cells ≡ regions_of (image_of c good before v)
  count = count_is c good v numbers old new running after (Ok healed) is before behind around

  bits_are : (r k : ℕ) → r < length v0.cells → has (cell_at v0 r).stage.bits k ≡ copy r k
  bits_are r k low = (as_image c good v numbers old new running after (Ok healed) is before behind around r low).bits k

  -- what each copy marks is in the bits, ..
  from_all : (r k : ℕ) → r < length v0.cells → is_marked_by_all (image_of c good before v) r k ≡ true → has (cell_at v0 r).stage.bits k ≡ true
  from_all r k low all = bits_are r k low ∙ each_from_all (λ (d : LogCopy). d r k) (image_of c good before v).copies copy all one_copy

  -- .. and what is in the bits some copy marks
  to_some : (r k : ℕ) → r < length v0.cells → has (cell_at v0 r).stage.bits k ≡ true → is_marked_by_some (image_of c good before v) r k ≡ true
  to_some r k low bit = any_from_one (λ (d : LogCopy). d r k) (image_of c good before v).copies copy one_copy (sym (bits_are r k low) ∙ bit)

  below : (r : ℕ) → r < regions_of (image_of c good before v) → r < length v0.cells
  below r low = let e = count in omega (arith, e, low)

  pub dirty_fits : IsSizeBetween healed.dirty (regions_of (image_of c good before v)) (sure_read (image_of c good before v) 30) (dirty_read (image_of c good before v))
  dirty_fits = record {
    set = λ r. has (cell_at v0 r).stage.bits 30;
    size = ap (λ (n : ℕ). number_in n (λ r. has (cell_at v0 r).stage.bits 30)) (sym count) ∙ number_of (λ (cell : CellSeen). has cell.stage.bits 30) v0.cells ∙ sym is.heals.dirty_is;
    least = λ r low sure. from_all r 30 (below r low) (both_parts (not (has_no_copy (image_of c good before v))) (is_marked_by_all (image_of c good before v) r 30) sure).1;
    most = λ r low bit. to_some r 30 (below r low) bit;
  }

  -- ---- once all is settled

  abbrev mid : VolumeSeen
  mid = is.heals.mid

  abbrev mask : ℕ
  mask = is.heals.mask

  settled : Stays v0 mid
  settled = settles_stays v0 mid (Ok tt) is.heals.settled.settled

  low_mid : (r : ℕ) → r < length v0.cells → r < length mid.cells
  low_mid r low = let e = settled.places.count in omega (arith, e, low)

  -- a plex that is on and marked by all copies is missed
  sure_missed : (r : ℕ) → r < length v0.cells → is_surely_behind (image_of c good before v) r ≡ true → misses mask (cell_at mid r).stage ≡ true
  sure_missed r low sure =
      let p = one_from_any (λ (p : PlexImage). is_available p && is_marked_by_all (image_of c good before v) r p.map) (image_of c good before v).plexes
      (both_parts (not (has_no_copy (image_of c good before v))) (list_any (λ (p : PlexImage). is_available p && is_marked_by_all (image_of c good before v) r p.map) (image_of c good before v).plexes) sure).1 in
      let x = both_parts (is_available p.0) (is_marked_by_all (image_of c good before v) r p.0.map) p.2 in
      let k : ℕ = p.0.map in
      let on : has (cell_at v0 r).stage.on k ≡ true = (as_image c good v numbers old new running after (Ok healed) is before behind around r low).on p.0 p.1 ∙ x.0 in
      let on_now : has (cell_at mid r).stage.on k ≡ true = ap (λ (m : ℕ). has m k) (settled.places.masks r low).0 ∙ on in
      let bit : has (cell_at mid r).stage.bits k ≡ true = settles_more (length v0.cells) v0 mid is.started.whole is.heals.settled.settled.0 r low k (from_all r k low x.1) in
      let in_mask : has mask k ≡ true = is.heals.settled.marks k ∙ any_at (λ (cell : CellSeen). has cell.stage.bits k) mid.cells r (low_mid r low) bit in
      some_missed (missed mask (cell_at mid r).stage) k (in_common (common mask (cell_at mid r).stage.on) (cell_at mid r).stage.bits k (in_common mask (cell_at mid r).stage.on k in_mask on_now) bit)

  module _ (sound : IsSoundImage (image_of c good before v)) (owners : Word → TrackOwner) (failed : Word → Bool) (fit : OwnersFit (image_of c good before v).plexes v0 owners)
      (failures : FailuresAreTold (image_of c good before v).plexes owners failed v0 v1) where
    module _ (r : ℕ) (low : r < length v0.cells) where
      -- the region as the core has it, with what is fixed of it
      abbrev region : (fixed : Fixed) × IsOpened (image_of c good before v) copy (candidates_read (image_of c good before v)) r (state_of (region_at v0 r) fixed [] NoCall (cell_at v0 r).number)
          × StandsFor (region_at v0 r) fixed [] NoCall × IsFixedOf (region_at v0 r) fixed
      region =
          opened_stands c good before v running.form copy v0 (opened c good v numbers old new running after (Ok healed) is before behind around) (candidates_read (image_of c good before v)) sound
          (read_stands (image_of c good before v)) (recovered_filled v.state is.state) one_copy r low

      abbrev fixed : Fixed
      fixed = region.0

      abbrev s : RegionState
      s = state_of (region_at v0 r) fixed [] NoCall (cell_at v0 r).number

      abbrev t : RegionState
      t = state_of (region_at mid r) fixed [] NoCall (cell_at mid r).number

      on : GoesOn (region_at v0 r) (region_at mid r) fixed [] []
      on =
          (settle_pass v0 mid (Ok tt) is.heals.settled.settled is.started.whole (told c good v numbers old new running after (Ok healed) is before behind around) (λ i. fixed) (λ i. [])).each r low

      abbrev notes : Notes
      notes = notes_of (copy r 30) on.course s no_notes

      idle : IsIdle s.stage.phase
      idle = (is.started.whole.each r low).idle

      unsettled : s.stage.phase ≡ Unsettled → copy r 30 ≡ true
      unsettled is_so = by (copy r 30) (sym region.1.phase ∙ is_so)
        where
          by : (b : Bool) → cond b Unsettled Settled ≡ Unsettled → b ≡ true
          by true e = refl
          by false e = cc

      tracked : IsTracked (copy r 30) s t notes
      tracked = subst (λ (x : RegionState). IsTracked (copy r 30) s x notes) on.ends (each_track_holds s (copy r 30) on.course region.2 idle unsettled on.fits)

      not_freed : (phase : Phase) → IsIdle phase → (k : ℕ) → freeing phase k ≡ false
      not_freed Settled quiet k = refl
      not_freed Unsettled quiet k = refl
      not_freed Dead quiet k = refl
      not_freed (Busy w) never k = absurd never

      -- what a copy may show as the region is opened is in its bits
      seen_then : (k : ℕ) → IsSeen s k → has s.stage.bits k ≡ true
      seen_then k (inl bit) = bit
      seen_then k (inr (inl loose)) = not_both loose (region.1.tight k)
      seen_then k (inr (inr freed)) = not_both freed (not_freed s.stage.phase idle k)

      -- what is marked since then was marked for a failure, in a dirty region
      pub record IsMarkedSince (k : ℕ) : Type 0 where
        pub dirty : copy r 30 ≡ true
        pub rose : PlexRose k (cell_at v0 r).plexes (cell_at mid r).plexes

      none_written : (notes.written || notes.torn) ≡ true → ⊥
      none_written some =
          let x = course_noted (region_at v0 r) (region_at mid r) fixed [] [] on (copy r 30) in
          not_both some (ap (λ (b : Bool). b || notes.torn) x.written ∙ x.torn)

      failed_then : (k : ℕ) → notes.possible k ≡ true → IsMarkedSince k
      failed_then k possible =
          let x = tracked.lacks k possible in
          record {
            dirty = elim x.1 [ inl dirty ↦ dirty | inr some ↦ absurd (none_written some) ];
            rose = (course_noted (region_at v0 r) (region_at mid r) fixed [] [] on (copy r 30)).failed k x.0;
          }

      marked_since : (k : ℕ) → IsMarkable t notes k → IsMarkedSince k
      marked_since k (inl (other, inl some)) = absurd (none_written some)
      marked_since k (inl (other, inr writing)) = absurd writing
      marked_since k (inr (inl possible)) = failed_then k possible
      marked_since k (inr (inr (failed, writing))) = absurd writing

      -- the plex of the map is available, and is marked by some copy, or has failed in a dirty region
      upper : (k : ℕ) → IsMissed mask (cell_at mid r).stage k →
          (is_possibly_behind (image_of c good before v) r || (some_failed (image_of c good before v) owners failed && dirty_read (image_of c good before v) r)) ≡ true
      upper k missing =
          let on_then : has (cell_at v0 r).stage.on k ≡ true = sym (ap (λ (m : ℕ). has m k) (settled.places.masks r low).0) ∙ missing.on in
          let p = region.1.held k (region.1.masks.held_on k on_then) in
          let available : is_available p.0 ≡ true = sym (region.1.on p.0 p.1) ∙ ap (λ (m : ℕ). has (cell_at v0 r).stage.on m) p.2 ∙ on_then in
          elim (tracked.seen k (inl missing.marked)) [
            | inl then ↦
                or_from_left (is_possibly_behind (image_of c good before v) r) (some_failed (image_of c good before v) owners failed && dirty_read (image_of c good before v) r)
                (any_from_one (λ (q : PlexImage). is_available q && is_marked_by_some (image_of c good before v) r q.map) (image_of c good before v).plexes p.0 p.1
                (and_from (is_available p.0) (is_marked_by_some (image_of c good before v) r p.0.map) available (subst (λ (m : ℕ). is_marked_by_some (image_of c good before v) r m ≡ true) (sym p.2) (to_some r k low (seen_then k then)))))
            | inr since ↦
                let x = marked_since k since in
                let rose : PlexRose k (cell_at v0 r).plexes (cell_at v1 r).plexes =
                rose_still k (cell_at v0 r).plexes (cell_at mid r).plexes (cell_at v1 r).plexes x.rose ((rest_stays v0 v1 healed is.heals).gone.kept.plexes r (low_mid r low)) in
                let fails : has_failed failed (owners p.0.name) ≡ true = failures p.0 p.1 r low (subst (λ (m : ℕ). PlexRose m (cell_at v0 r).plexes (cell_at v1 r).plexes) (sym p.2) rose) in
                or_from_right (is_possibly_behind (image_of c good before v) r) (some_failed (image_of c good before v) owners failed && dirty_read (image_of c good before v) r)
                (and_from (some_failed (image_of c good before v) owners failed) (dirty_read (image_of c good before v) r)
                (any_from_one (λ (q : PlexImage). is_available q && has_failed failed (owners q.name)) (image_of c good before v).plexes p.0 p.1 (and_from (is_available p.0) (has_failed failed (owners p.0.name)) available fails))
                (any_from_one (λ (d : LogCopy). d r 30) (image_of c good before v).copies copy one_copy x.dirty))
          ]

    pub copied_fits : IsSizeBetween healed.copied (regions_of (image_of c good before v)) (is_surely_behind (image_of c good before v))
        (λ r. is_possibly_behind (image_of c good before v) r || (some_failed (image_of c good before v) owners failed && dirty_read (image_of c good before v) r))
    copied_fits = record {
      set = λ r. misses mask (cell_at mid r).stage;
      size = ap (λ (n : ℕ). number_in n (λ r. misses mask (cell_at mid r).stage)) (sym count ∙ sym settled.places.count) ∙ number_of (λ (cell : CellSeen). misses mask cell.stage) mid.cells ∙ sym is.heals.copied_is;
      least = λ r low sure. sure_missed r (below r low) sure;
      most = λ r low some.
          let fits = ((settled_volume v0 mid is.heals.settled.settled is.started.whole).each r (low_mid r (below r low))).whole.formed.stage.bits_fit in
          let x = one_missed mask (cell_at mid r).stage fits some in
          upper r (below r low) x.0 x.1;
    }

-- What a volume leaves whose log is exact and of which no region is marked dirty.
use Rattle.std.proofs.Common.{◌≡◌, ℕ, ◌<◌, Bool, true, false, cond, inl, inr, sym, ◌∙◌, ap, subst, List, length, map}
use Rattle.std.specs.Prelude.{◌⊎◌, Contains, nat_lt}
use Rattle.vx_mask.proofs.Tests.{not_both, true_or_false}
use Rattle.vx_block.specs.Regions.{region_count}
use Rattle.vx_core.specs.declared.stage.Phase.TheVariants.{Dead}
use Rattle.vx_core.specs.Region.{RegionState}
use Rattle.vx_cell.specs.Region.{marks_or}
use Rattle.vx_volume.specs.Volume.{IsVolume, VolumeSeen, cell_at}
use Rattle.vx_moments.specs.World.{Volume}
use Rattle.vx_image.specs.Image.{Image, LogCopy, PlexImage}
use Rattle.vx_image.specs.Meaning.{dirty_read}
use Rattle.vx_image.proofs.Members.{contains, is_in, one_from_any}
use Rattle.vx_image.proofs.PlexMembers.{in_map}
use Rattle.vx_volume_laws.specs.Exact.{AreUndirtied, IsExactVolume}
use Rattle.vx_volume_laws.specs.ExactLaws.{EachCleanLogIsLeft}
use Rattle.vx_volume_laws.specs.Leaving.{IsLeftBy}
use Rattle.vx_volume_laws.specs.Regions.{IsCopyOfRegions, Regions}
use Rattle.vx_volume_laws.specs.Running.{RunsAsVolume, state_at, states_of}
use Rattle.vx_volume_laws.proofs.LivesLeft.{is_below}

module _ (plexes : List PlexImage) (v : VolumeSeen) (w : Volume) (is : IsVolume v) (run : RunsAsVolume plexes v w) (image : Image) (left : IsLeftBy plexes v w run image)
    (exact : IsExactVolume v) (alive : (r : ℕ) → r < length v.cells → (cell_at v r).stage.phase ≡ Dead → ⊥) (clean : AreUndirtied v) (r : ℕ) (lt : r < length v.cells) where
  abbrev regions : Regions
  regions = states_of v run.fixed w.life.entries

  abbrev at : RegionState
  at = state_at v run.fixed w.life.entries r

  here : regions r ≡ at
  here = ap (λ (b : Bool). cond b at (state_at v run.fixed w.life.entries 0)) (is_below r (length v.cells) lt)

  -- a copy as the regions of the volume tell it
  abbrev told_copy : LogCopy → LogCopy
  told_copy c i = c (cond (nat_lt i (length v.cells)) i 0)

  copy_there : (c : LogCopy) → Contains image.copies c → Contains (map told_copy image.copies) (told_copy c)
  copy_there c there = contains (map told_copy image.copies) (told_copy c) (in_map told_copy image.copies c (is_in image.copies c there))

  shows_none : (n : ℕ) → n < at.around.fixed.copies → at.around.disks.marks.shows n 30 ≡ false
  shows_none n few =
      ap (λ (i : ℕ). (marks_or v.log.told i).shows n 30) (is.each r lt).index ∙ (exact r n lt (alive r lt) (subst (λ (m : ℕ). n < m) (run.copies r lt) few)).shows 30 ∙ clean r lt

  copy_clean : (c : LogCopy) → Contains image.copies c → c r 30 ≡ false
  copy_clean c there =
      let of = left.leave.copies (told_copy c) (copy_there c there) in
      let own : told_copy c r 30 ≡ c r 30 = ap (λ (b : Bool). c (cond b r 0) 30) (is_below r (length v.cells) lt) in
      sym own ∙ by of (true_or_false at.stage.logged)
    where
      by : IsCopyOfRegions regions (told_copy c) → (at.stage.logged ≡ true) ⊎ (at.stage.logged ≡ false) → told_copy c r 30 ≡ false
      by of (inl log) =
          let h = of.logged r (subst (λ (s : RegionState). s.stage.logged ≡ true) (sym here) log) in
          h.1 30 ∙ ap (λ (s : RegionState). s.around.disks.marks.shows of.copy 30) here ∙ shows_none of.copy (subst (λ (s : RegionState). of.copy < s.around.fixed.copies) here h.0)
      by of (inr plain) = of.plain r (subst (λ (s : RegionState). s.stage.logged ≡ false) (sym here) plain) 30

  none_dirty : dirty_read image r ≡ false
  none_dirty =
      elim (true_or_false (dirty_read image r)) [
        | inl some ↦ let c = one_from_any (λ (c : LogCopy). c r 30) image.copies some in not_both c.2 (copy_clean c.0 c.1)
        | inr none ↦ none
      ]

pub clean_left : EachCleanLogIsLeft
clean_left plexes v w is run image left exact alive clean r lt =
    none_dirty plexes v w is run image left exact alive clean r
    (subst (λ (m : ℕ). r < m) (sym is.count) (subst (λ (m : ℕ). r < region_count m v.region) left.length_is (subst (λ (m : ℕ). r < region_count image.length m) left.region_is lt)))

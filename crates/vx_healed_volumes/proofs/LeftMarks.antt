-- What the copies of a log mark that a volume leaves, where the log is exact.
use Rattle.std.proofs.Common.{◌≡◌, ℕ, ◌<◌, Bool, true, false, cond, inl, inr, sym, ◌∙◌, ap, subst, List, length, map}
use Rattle.std.specs.Prelude.{◌⊎◌, Contains, nat_lt}
use Rattle.std.proofs.lemmas.Bool.{lt-ltb}
use Rattle.vx_mask.specs.Mask.{has}
use Rattle.vx_mask.proofs.Tests.{true_or_false}
use Rattle.vx_core.specs.declared.stage.Phase.TheVariants.{Dead}
use Rattle.vx_core.specs.Region.{RegionState}
use Rattle.vx_cell.specs.Region.{marks_or}
use Rattle.vx_volume.specs.Volume.{IsVolume, VolumeSeen, cell_at}
use Rattle.vx_moments.specs.World.{Volume}
use Rattle.vx_image.specs.Image.{Image, LogCopy, PlexImage}
use Rattle.vx_image.specs.Meaning.{possible_read}
use Rattle.vx_image.proofs.Members.{contains, is_in, one_from_any}
use Rattle.vx_image.proofs.PlexMembers.{in_map}
use Rattle.vx_volume_laws.specs.Exact.{IsExactVolume}
use Rattle.vx_volume_laws.specs.Leaving.{IsLeftBy}
use Rattle.vx_volume_laws.specs.Regions.{IsCopyOfRegions, Regions}
use Rattle.vx_volume_laws.specs.Running.{RunsAsVolume, state_at, states_of}

module _ (plexes : List PlexImage) (v : VolumeSeen) (w : Volume) (is : IsVolume v) (run : RunsAsVolume plexes v w) (image : Image) (left : IsLeftBy plexes v w run image)
    (exact : IsExactVolume v) (r : ℕ) (lt : r < length v.cells) (alive : (cell_at v r).stage.phase ≡ Dead → ⊥) where
  abbrev regions : Regions
  regions = states_of v run.fixed w.life.entries

  abbrev at : RegionState
  at = state_at v run.fixed w.life.entries r

  here : regions r ≡ at
  here = ap (λ (b : Bool). cond b at (state_at v run.fixed w.life.entries 0)) (lt-ltb r (length v.cells) lt)

  -- a copy as the regions of the volume tell it
  abbrev told_copy : LogCopy → LogCopy
  told_copy c i = c (cond (nat_lt i (length v.cells)) i 0)

  told_here : (c : LogCopy) (k : ℕ) → told_copy c r k ≡ c r k
  told_here c k = ap (λ (b : Bool). c (cond b r 0) k) (lt-ltb r (length v.cells) lt)

  copy_of : (c : LogCopy) → Contains image.copies c → IsCopyOfRegions regions (told_copy c)
  copy_of c there = left.leave.copies (told_copy c) (contains (map told_copy image.copies) (told_copy c) (in_map told_copy image.copies c (is_in image.copies c there)))

  shows_bits : (n k : ℕ) → n < at.around.fixed.copies → at.around.disks.marks.shows n k ≡ has at.stage.bits k
  shows_bits n k few =
      ap (λ (i : ℕ). (marks_or v.log.told i).shows n k) (is.each r lt).index ∙ (exact r n lt alive (subst (λ (m : ℕ). n < m) (run.copies r lt) few)).shows k

  -- where the region has a log each copy marks what the region does
  pub logged_mark : (c : LogCopy) → Contains image.copies c → (k : ℕ) → (cell_at v r).stage.logged ≡ true → c r k ≡ has (cell_at v r).stage.bits k
  logged_mark c there k log =
      let of = copy_of c there in
      let h = of.logged r (subst (λ (s : RegionState). s.stage.logged ≡ true) (sym here) log) in
      sym (told_here c k) ∙ h.1 k ∙ ap (λ (s : RegionState). s.around.disks.marks.shows of.copy k) here
      ∙ shows_bits of.copy k (subst (λ (s : RegionState). of.copy < s.around.fixed.copies) here h.0)

  -- what a copy marks is marked in the region
  pub seen_mark : (k : ℕ) → possible_read image k r ≡ true → has (cell_at v r).stage.bits k ≡ true
  seen_mark k seen =
      let c = one_from_any (λ (c : LogCopy). c r k) image.copies seen in
      by c.0 c.1 c.2 (true_or_false (cell_at v r).stage.logged)
    where
      by : (c : LogCopy) → Contains image.copies c → c r k ≡ true → ((cell_at v r).stage.logged ≡ true) ⊎ ((cell_at v r).stage.logged ≡ false) → has (cell_at v r).stage.bits k ≡ true
      by c there marked (inl log) = sym (logged_mark c there k log) ∙ marked
      by c there marked (inr plain) =
          let none = sym (told_here c k) ∙ (copy_of c there).plain r (subst (λ (s : RegionState). s.stage.logged ≡ false) (sym here) plain) k in
          cc

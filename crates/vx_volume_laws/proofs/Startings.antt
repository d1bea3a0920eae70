-- A volume that is opened over bytes runs as the volume of the world for which they stand.
use Rattle.std.proofs.Common.{◌≡◌, inl, inr, ℕ, ◌<◌, ◌/◌, Bool, true, false, refl, sym, ◌∙◌, ap, subst, cond, List, [], length, arith}
use Rattle.std.specs.Prelude.{◌&&◌, ◌==◌, nat_lt}
use Rattle.std.proofs.lemmas.Bool.Decides.{nat_tests}
use Rattle.vx_block.specs.Regions.{region_count}
use Rattle.vx_life.specs.Entry.{Entry}
use Rattle.vx_life.specs.Life.{Life}
use Rattle.vx_mask.proofs.Tests.{not_both, or_from_right}
use Rattle.vx_core.specs.declared.stage.Phase.{Phase}
use Rattle.vx_core.specs.declared.stage.Phase.TheVariants.{Settled, Unsettled}
use Rattle.vx_core.specs.History.{NoCall}
use Rattle.vx_core.specs.Region.{RegionState}
use Rattle.vx_core.specs.Soundness.{freeing}
use Rattle.vx_core.proofs.ScheduleLaws.{kept_from_fresh}
use Rattle.vx_core_laws.specs.Tracking.{IsSeen}
use Rattle.vx_cell.specs.Region.{state_of}
use Rattle.vx_volume.specs.Volume.{IsVolume, VolumeSeen, cell_at, region_at}
use Rattle.vx_moments.specs.World.{Volume}
use Rattle.vx_image.specs.Image.{LogCopy, Image, IsFilled, is_marked_by_some, regions_of}
use Rattle.vx_image.proofs.Members.{any_from_one, each_from_all}
use Rattle.vx_moments.specs.Volumes.{StandsForVolume}
use Rattle.vx_volume_laws.specs.Opening.{EachOpeningIsFresh, IsOpened, IsWellFormed}
use Rattle.vx_moments.specs.Tracks.{was_torn_in}
use Rattle.vx_volume_laws.specs.Running.{RegionRunsAs, entries_in, state_at}
use Rattle.vx_volume_laws.specs.Starting.{BeginsOver, EachOpeningRuns, IsOpenedOver}

not_freeing : {A : Type 0} (b : Bool) (phase : Phase) (k : ℕ) → phase ≡ cond b Unsettled Settled → freeing phase k ≡ true → A
not_freeing true phase k is h = not_both (sym (ap (λ (p : Phase). freeing p k) is) ∙ h) refl
not_freeing false phase k is h = not_both (sym (ap (λ (p : Phase). freeing p k) is) ∙ h) refl

is_unsettled : (b : Bool) (phase : Phase) → phase ≡ cond b Unsettled Settled → phase ≡ Unsettled → b ≡ true
is_unsettled true phase is h = refl
is_unsettled false phase is h = cc

block_test : (r n b blocks size : ℕ) → r < n → b < blocks → b / size ≡ r → (nat_lt r n && (nat_lt b blocks && b / size == r)) ≡ true
block_test r n b blocks size low lt at = rw (below r n low, below b blocks lt, same (b / size) r at) refl
  where
    below : (a b : ℕ) → a < b → nat_lt a b ≡ true
    below a b lt = grind (arith, nat_tests)

    same : (a b : ℕ) → a ≡ b → (a == b) ≡ true
    same a b e = grind (arith, nat_tests)

module _ (law : EachOpeningIsFresh) (image : Image) (v : VolumeSeen) (w : Volume) (is : IsVolume v) (over : IsOpenedOver image v w) (stands : StandsForVolume image w) (begins : BeginsOver image w) (filled : IsFilled image.state) (formed : IsWellFormed image) where
  module _ (r : ℕ) (lt : r < length v.cells) where
    abbrev s : RegionState
    s = state_at v over.fixed [] r

    opened : IsOpened image over.copy w.life.candidates r s
    opened = over.opened r lt

    low : r < regions_of image
    low = subst (λ (m : ℕ). r < region_count image.length m) over.region_is (subst (λ (m : ℕ). r < region_count m v.region) over.length_is (subst (λ (m : ℕ). r < m) is.count lt))

    -- what a copy may show, the one copy shows
    shown : (k : ℕ) → IsSeen s k → is_marked_by_some image r k ≡ true
    shown k seen = any_from_one (λ (c : LogCopy). c r k) image.copies over.copy over.copy_of (by seen)
      where
        by : IsSeen s k → over.copy r k ≡ true
        by (inl bit) = sym (opened.bits k) ∙ bit
        by (inr (inl loose)) = not_both loose (opened.tight k)
        by (inr (inr freed)) = not_freeing (over.copy r 30) s.stage.phase k opened.phase freed

    opened_runs : RegionRunsAs image.plexes s r w
    opened_runs =
        record {
          kept = kept_from_fresh s (law image w.life.candidates stands.sound stands.candidates filled formed over.copy over.copy_of r s opened);
          here = over.here r lt;
          candidates = λ b below at.
              sym (opened.first b (block_test r (regions_of image) b image.length image.region low (subst (λ (m : ℕ). b < m) begins.length_is below) (ap (λ (m : ℕ). b / m) (sym begins.region_is) ∙ at)));
          last = ap (λ (life : Life). life.last r) begins.life ∙ sym (over.number r lt);
          tracks = λ p one.
              record {
                sure = λ other h. opened.bits p.map ∙ each_from_all (λ (c : LogCopy). c r p.map) image.copies over.copy (stands.sure p one r low h) over.copy_of;
                possible = λ seen. stands.possible p one r low (shown p.map seen);
              };
          dirty = λ seen. stands.dirty r low (shown 30 seen);
          unsettled = λ phase.
              let marked = is_unsettled (over.copy r 30) s.stage.phase opened.phase phase in
              let dirty = stands.dirty r low (any_from_one (λ (c : LogCopy). c r 30) image.copies over.copy over.copy_of marked) in
              or_from_right (was_torn_in r w.life.entries) (w.dirty_began r) (ap (λ (set : ℕ → Bool). set r) begins.began ∙ dirty);
        }

    region_runs : RegionRunsAs image.plexes (state_at v over.fixed w.life.entries r) r w
    region_runs =
        subst (λ (es : List Entry). RegionRunsAs image.plexes (state_of (region_at v r) (over.fixed r) es NoCall (cell_at v r).number) r w)
        (sym (ap (λ (life : Life). entries_in r life.entries) begins.life)) opened_runs

pub each_opening_runs : EachOpeningIsFresh → EachOpeningRuns
each_opening_runs law image v w is over stands begins filled formed =
    record {
      fixed = over.fixed;
      some = over.some;
      sized = subst (λ (m : ℕ). 0 < m) (sym over.region_is) formed.region;
      length_is = begins.length_is ∙ sym over.length_is;
      region_is = begins.region_is ∙ sym over.region_is;
      epoch = λ r lt. over.epoch r lt ∙ sym (ap (λ (life : Life). life.epoch) begins.life);
      told = over.told;
      held = over.held;
      copies = over.copies;
      each = region_runs law image v w is over stands begins filled formed;
    }

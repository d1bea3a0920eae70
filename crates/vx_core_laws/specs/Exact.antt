-- Where no call on the log failed, each copy shows exactly the bits of the region.
use Rattle.std.specs.Prelude.{◌≡◌, ℕ, false, List, [], ◌∷◌}
use Rattle.vx_mask.specs.Mask.{has}
use Rattle.vx_core.specs.declared.stage.Event.TheVariants.{MarkFailed, UnmarkFailed, Cut}
use Rattle.vx_core.specs.Region.{RegionState}
use Rattle.vx_core.specs.Schedule.{Happening, Comes, Elsewhere, IsIdle}
use Rattle.vx_core.specs.Recovery.{region_after}
use Rattle.vx_core_laws.specs.Course.{IsKeptState, EachFits}

-- no mark or unmark failed, and the power was not cut
abbrev pub IsWell : Happening → Type 0
IsWell (Comes MarkFailed now call values) = ⊥
IsWell (Comes UnmarkFailed now call values) = ⊥
IsWell (Comes Cut now call values) = ⊥
IsWell (Comes event now call values) = Unit {0}
IsWell (Elsewhere marks) = Unit {0}

abbrev pub AreWell : List Happening → Type 0
AreWell [] = Unit {0}
AreWell (h ∷ hs) = IsWell h × AreWell hs

-- each copy shows exactly the bits, and no mark is loose
pub record IsExact (r : RegionState) : Type 0 where
  pub tight : (k : ℕ) → r.around.disks.marks.loose k ≡ false
  pub shows : (n k : ℕ) → r.around.disks.marks.shows n k ≡ has r.stage.bits k

-- From a moment at which no job is under way to another.
abbrev pub EachLogIsExact : Type 0
EachLogIsExact =
    (was : RegionState) (happenings : List Happening) →
    IsKeptState was → IsIdle was.stage.phase → IsExact was →
    EachFits happenings was → AreWell happenings → IsIdle (region_after happenings was).stage.phase →
    IsExact (region_after happenings was)

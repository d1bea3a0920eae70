-- The course of one region: the happenings in it, one after the other.
use Rattle.std.specs.Prelude.{ℕ, List, [], ◌∷◌}
use Rattle.vx_core.specs.Region.{RegionState}
use Rattle.vx_core.specs.Kept.{IsKept}
use Rattle.vx_core.specs.Schedule.{Happening, Fits, happens, run, AllFit}
use Rattle.vx_core.specs.Recovery.{region_after}

abbrev pub IsKeptState : RegionState → Type 0
IsKeptState r = IsKept r.stage r.stage.phase r.around

-- each happening fits the region as it is then
abbrev pub EachFits : List Happening → RegionState → Type 0
EachFits [] r = Unit {0}
EachFits (h ∷ hs) r = Fits r h × EachFits hs (happens r h)

-- what was kept is kept after each course
abbrev pub EachCourseKeeps : Type 0
EachCourseKeeps = (r : RegionState) (course : List Happening) → IsKeptState r → EachFits course r → IsKeptState (region_after course r)

-- and in each region after each schedule
abbrev pub EachScheduleKeeps : Type 0
EachScheduleKeeps =
    (regions : ℕ → RegionState) (happenings : List (ℕ × Happening)) →
    ((n : ℕ) → IsKeptState (regions n)) → AllFit happenings regions → (n : ℕ) → IsKeptState (run happenings regions n)

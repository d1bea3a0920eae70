-- What makes no call leaves the history.
use Rattle.std.specs.Prelude.{◌≡◌, ℕ, List, [], ◌∷◌}
use Rattle.vx_core.specs.declared.stage.Event.TheVariants.{Begin}
use Rattle.vx_core.specs.History.{NoCall}
use Rattle.vx_core.specs.Region.{RegionState}
use Rattle.vx_core.specs.Schedule.{Happening, Comes, Elsewhere, run}
use Rattle.vx_core.specs.Recovery.{region_after}

-- nothing but settlings, copies and clears, and what answers them
abbrev pub IsQuiet : Happening → Type 0
IsQuiet (Comes (Begin job) now call values) = call ≡ NoCall
IsQuiet (Comes event now call values) = Unit {0}
IsQuiet (Elsewhere marks) = Unit {0}

abbrev pub AreQuiet : List Happening → Type 0
AreQuiet [] = Unit {0}
AreQuiet (h ∷ hs) = IsQuiet h × AreQuiet hs

abbrev pub AllQuiet : List (ℕ × Happening) → Type 0
AllQuiet [] = Unit {0}
AllQuiet (h ∷ hs) = IsQuiet h.1 × AllQuiet hs

-- no call is pending, and the history and all that is fixed are as before; so each block has the candidates that it had
pub record IsStill (old now : RegionState) : Type 0 where
  pub fixed : now.around.fixed ≡ old.around.fixed
  pub no_call : now.around.pending ≡ NoCall
  pub entries : now.around.entries ≡ old.around.entries

abbrev pub EachQuietCourseStays : Type 0
EachQuietCourseStays = (r : RegionState) (course : List Happening) → r.around.pending ≡ NoCall → AreQuiet course → IsStill r (region_after course r)

abbrev pub EachQuietScheduleStays : Type 0
EachQuietScheduleStays =
    (regions : ℕ → RegionState) (happenings : List (ℕ × Happening)) →
    ((n : ℕ) → (regions n).around.pending ≡ NoCall) → AllQuiet happenings → (n : ℕ) → IsStill (regions n) (run happenings regions n)

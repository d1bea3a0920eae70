-- What is kept stays kept.
use Rattle.std.proofs.Common.{◌≡◌, refl, List, [], ◌∷◌, ◌++◌}
use Rattle.vx_core.specs.Region.{RegionState}
use Rattle.vx_core.specs.Schedule.{Happening, happens}
use Rattle.vx_core.specs.Recovery.{region_after}
use Rattle.vx_core.proofs.ScheduleLaws.{keeps_happening, keeps_run}
use Rattle.vx_core_laws.specs.Course.{EachFits, EachCourseKeeps, EachScheduleKeeps}

pub course_keeps : EachCourseKeeps
course_keeps r [] kept fits = kept
course_keeps r (h ∷ hs) kept fits = course_keeps (happens r h) hs (keeps_happening r h kept fits.0) fits.1

pub schedule_keeps : EachScheduleKeeps
schedule_keeps regions happenings kept fits n = keeps_run happenings regions kept fits n

-- a course and then another
pub after_both : (first then : List Happening) (r : RegionState) → region_after (first ++ then) r ≡ region_after then (region_after first r)
after_both [] then r = refl
after_both (h ∷ hs) then r = after_both hs then (happens r h)

pub fits_both : (first then : List Happening) (r : RegionState) → EachFits first r → EachFits then (region_after first r) → EachFits (first ++ then) r
fits_both [] then r fits more = more
fits_both (h ∷ hs) then r fits more = (fits.0, fits_both hs then (happens r h) fits.1 more)

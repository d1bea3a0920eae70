-- What the log of a started volume shows where no call on it failed.
use Rattle.std.specs.Prelude.{◌≡◌, ℕ, List, Contains}
use Rattle.vx_mask.specs.Mask.{has}
use Rattle.vx_core.specs.Schedule.{Happening, IsIdle}
use Rattle.vx_core.specs.Recovery.{region_after}
use Rattle.vx_core_laws.specs.Course.{IsKeptState, EachFits}
use Rattle.vx_core_laws.specs.Exact.{AreWell, IsExact}
use Rattle.vx_image.specs.Image.{LogCopy, Image}
use Rattle.vx_volume_laws.specs.Regions.{Regions, LeaveImage}

-- the regions after each has gone its course
abbrev pub after_courses : (ℕ → List Happening) → Regions → Regions
after_courses courses regions r = region_after (courses r) (regions r)

-- between two moments without a job each region goes a course in which no call on its log failed, from one at which the copies
-- show exactly its bits
pub record GoWell (courses : ℕ → List Happening) (regions : Regions) : Type 0 where
  pub kept : (r : ℕ) → IsKeptState (regions r)
  pub idle : (r : ℕ) → IsIdle (regions r).stage.phase
  pub exact : (r : ℕ) → IsExact (regions r)
  pub fits : (r : ℕ) → EachFits (courses r) (regions r)
  pub well : (r : ℕ) → AreWell (courses r)
  pub ended : (r : ℕ) → IsIdle (after_courses courses regions r).stage.phase

-- Then each copy of the log that is left shows exactly the bits of the regions.
abbrev pub EachLogIsLeftExact : Type 0
EachLogIsLeftExact =
    (regions : Regions) (courses : ℕ → List Happening) → GoWell courses regions →
    (v : Image) → LeaveImage (after_courses courses regions) v →
    (c : LogCopy) → Contains v.copies c → (r k : ℕ) → c r k ≡ has (after_courses courses regions r).stage.bits k

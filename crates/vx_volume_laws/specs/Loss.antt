-- What a started volume leaves on its disks, when the power goes, or when it is stopped.
use Rattle.std.specs.Prelude.{◌≡◌, ℕ, Bool, List, Contains}
use Rattle.vx_base.specs.Blocks.{Contents}
use Rattle.vx_life.specs.Life.{Life}
use Rattle.vx_core.specs.Schedule.{Happening, AllFit, IsFresh, run}
use Rattle.vx_image.specs.Image.{Image, WasStarted, IsFilled}
use Rattle.vx_image.specs.Meaning.{ReadsOneList, StandsForCandidates, IsMarkedInEach, IsMarkedWithin}
use Rattle.vx_image.specs.Soundness.{IsSoundImage, IsSoundPair}
use Rattle.vx_volume_laws.specs.Regions.{Regions, LeaveImage, IsLifeOf, AllSettled, GoWith}

-- The bytes that are left are sound, each value that is read from them is among the life's candidates, and their marks stand for
-- whatever went with the regions.
pub record StandsForLife (v : Image) (life : Life) (regions : Regions) : Type 0 where
  pub sound : IsSoundImage v
  pub candidates : StandsForCandidates v life.candidates
  pub sure : (k : ℕ) (lower upper : ℕ → Bool) → GoWith regions k lower upper → IsMarkedInEach v k lower
  pub possible : (k : ℕ) (lower upper : ℕ → Bool) → GoWith regions k lower upper → IsMarkedWithin v k upper

-- Whatever has happened in the regions of a started volume, and whenever the power goes: the bytes that are left stand for it.
abbrev pub EachLossStands : Type 0
EachLossStands =
    (regions : Regions) (happenings : List (ℕ × Happening)) →
    ((n : ℕ) → IsFresh (regions n)) →
    AllFit happenings regions →
    (v : Image) → LeaveImage (run happenings regions) v → WasStarted v.state →
    (life : Life) → IsLifeOf v.length v.region life (run happenings regions) →
    StandsForLife v life (run happenings regions)

-- A volume that is stopped has all regions settled. Its bytes are sound though it is recorded clean, and one list is read from
-- them, with each block among the life's candidates.
abbrev pub EachStopStands : Type 0
EachStopStands =
    (regions : Regions) (happenings : List (ℕ × Happening)) →
    ((n : ℕ) → IsFresh (regions n)) →
    AllFit happenings regions →
    AllSettled (run happenings regions) →
    (v : Image) → LeaveImage (run happenings regions) v → IsFilled v.state →
    (life : Life) → IsLifeOf v.length v.region life (run happenings regions) →
    StandsForLife v life (run happenings regions) × (list : Contents) × ReadsOneList v life.candidates list

-- Two started volumes in a relation hold one list of the break-off in both. The bytes that they leave together keep it.
abbrev pub EachPairStands : Type 0
EachPairStands =
    (one other : Regions) (happenings happenings' : List (ℕ × Happening)) →
    ((n : ℕ) → IsFresh (one n)) → AllFit happenings one →
    ((n : ℕ) → IsFresh (other n)) → AllFit happenings' other →
    (v w : Image) → LeaveImage (run happenings one) v → LeaveImage (run happenings' other) w → w.length ≡ v.length → w.region ≡ v.region →
    (m n : ℕ) → Contains v.snaps m → Contains w.snaps n →
    ((r b : ℕ) → (run happenings one r).around.fixed.base m b ≡ (run happenings' other r).around.fixed.base n b) →
    IsSoundPair v m w n

-- How a life of a volume begins: over the lowest plex of an empty volume, and over the one list of settled regions.
use Rattle.std.specs.Prelude.{◌≡◌, ℕ, ◌<◌, ◌/◌, false, List, [], Contains}
use Rattle.vx_base.specs.Blocks.{Contents}
use Rattle.vx_life.specs.Life.{begun}
use Rattle.vx_config_parts.specs.declared.state.VolState.TheVariants as vol
use Rattle.vx_core.specs.Schedule.{Happening, AllFit, IsFresh, run}
use Rattle.vx_core_laws.specs.Beginning.{begun_over}
use Rattle.vx_image.specs.Image.{PlexImage, LogCopy, Image, IsFilled, regions_of, has_no_copy}
use Rattle.vx_image.specs.Meaning.{lowest_of, candidates_read, StandsForCandidates}
use Rattle.vx_image.specs.Soundness.{IsSoundImage}
use Rattle.vx_volume_laws.specs.Regions.{Regions, AllSettled, IsLifeOf}
use Rattle.vx_volume_laws.specs.Opening.{IsWellFormed}

-- the same plex in another state
pub record IsSamePlex (old new : PlexImage) : Type 0 where
  pub map : new.map ≡ old.map
  pub held : new.held ≡ old.held
  pub values : (b : ℕ) → new.values b ≡ old.values b

-- An empty volume as its start is recorded: its plexes hold what they held, there is a copy of its log, and each copy marks
-- every plex but the lowest, in every region.
pub record IsStartOf (empty v : Image) : Type 0 where
  pub empty_is : empty.state ≡ vol.Empty
  pub filled : IsFilled v.state
  pub length : v.length ≡ empty.length
  pub region : v.region ≡ empty.region
  pub alone : v.snaps ≡ []
  pub plexes : (p : PlexImage) → Contains v.plexes p → (q : PlexImage) × Contains empty.plexes q × IsSamePlex q p
  pub low : (p : PlexImage) × Contains v.plexes p × ((c : LogCopy) → Contains v.copies c → (r : ℕ) → c r p.map ≡ false)
  pub copy : has_no_copy v ≡ false
  pub marked : (c : LogCopy) → Contains v.copies c → (r : ℕ) → r < regions_of v → (p : PlexImage) → Contains v.plexes p → c r p.map ≡ false →
      (q : PlexImage) × Contains (lowest_of empty.plexes) q × IsSamePlex q p

-- A start of an empty volume leaves sound bytes: its candidates are what the lowest plex holds.
abbrev pub EachEmptyBegins : Type 0
EachEmptyBegins = (empty v : Image) → IsStartOf empty v → IsWellFormed v → IsSoundImage v × StandsForCandidates v (candidates_read empty)

-- A life may begin over one list: each region is fresh over it, and the life speaks of these regions.
pub record BeginsOverList (length size : ℕ) (regions : Regions) : Type 0 where
  pub list : Contents
  -- what each region holds beyond its own blocks is of no account
  pub lists : ℕ → Contents
  pub own : (b : ℕ) → lists (b / size) b ≡ list b
  pub fresh : (r : ℕ) → IsFresh (begun_over (lists r) (regions r))
  pub life : IsLifeOf length size (begun list) (λ r. begun_over (lists r) (regions r))

-- Where all regions are settled a new life may begin.
abbrev pub EachSettledVolumeBegins : Type 0
EachSettledVolumeBegins =
    (regions : Regions) (happenings : List (ℕ × Happening)) →
    ((n : ℕ) → IsFresh (regions n)) → AllFit happenings regions →
    AllSettled (run happenings regions) →
    (length size : ℕ) → BeginsOverList length size (run happenings regions)

-- What a recovery makes of a volume, and what is there after a loss and a recovery.
use Rattle.std.specs.Prelude.{◌≡◌, ℕ, ◌<◌, ◌/◌, Bool, true, false, List, [], ◌∷◌, Contains}
use Rattle.vx_base.specs.Blocks.{Contents, is_in}
use Rattle.vx_life.specs.declared.EntryKind.{EntryKind}
use Rattle.vx_life.specs.declared.EntryKind.TheVariants as kinds
use Rattle.vx_life.specs.Candidates.{Candidates, IsChosen}
use Rattle.vx_life.specs.Entry.{Entry}
use Rattle.vx_mask.specs.Mask.{has}
use Rattle.vx_config_parts.specs.declared.state.VolState.{VolState}
use Rattle.vx_core.specs.declared.stage.Phase.TheVariants.{Settled}
use Rattle.vx_core.specs.Region.{RegionState, told}
use Rattle.vx_core.specs.Schedule.{Happening, AllFit, IsFresh, run}
use Rattle.vx_core_laws.specs.Quiet.{AllQuiet}
use Rattle.vx_image.specs.Image.{PlexImage, LogCopy, Image, WasStarted, IsFilled, is_available}
use Rattle.vx_image.specs.Meaning.{StandsForCandidates, candidates_read}
use Rattle.vx_image.specs.Soundness.{IsSoundImage}
use Rattle.vx_volume_laws.specs.Regions.{Regions, IsPlexOfRegions, LeaveImage}
use Rattle.vx_volume_laws.specs.Opening.{IsOpened, IsWellFormed}

-- the region is settled, and no plex that is on is marked
pub record IsSettledAndCopied (s : RegionState) : Type 0 where
  pub settled : s.stage.phase ≡ Settled
  pub copied : (k : ℕ) → has s.stage.on k ≡ true → has s.stage.bits k ≡ false

-- the available plexes hold this list, and each block is among the candidates
pub record HoldList (v : Image) (candidates : Candidates) (list : Contents) : Type 0 where
  pub among : IsChosen v.length candidates list
  pub hold : (p : PlexImage) → Contains v.plexes p → is_available p ≡ true → (b : ℕ) → b < v.length → p.values b ≡ list b

-- The bytes of the volume now are those of the regions, and the available plexes are on; it is as long as it was, with the
-- same regions.
pub record IsRecoveredAs (was now : Image) (regions : Regions) : Type 0 where
  pub length : now.length ≡ was.length
  pub region : now.region ≡ was.region
  pub plexes : (p : PlexImage) → Contains now.plexes p → IsPlexOfRegions now.length now.region regions p
  pub on : (p : PlexImage) → Contains now.plexes p → is_available p ≡ true → (r : ℕ) → has (regions r).stage.on p.map ≡ true

-- From sound bytes, by whichever copy of the log, and however the devices answer: once each region is settled and copied, the
-- available plexes hold one list, each block among the candidates.
abbrev pub EachRecoveryAgrees : Type 0
EachRecoveryAgrees =
    (v : Image) (candidates : Candidates) →
    IsSoundImage v → StandsForCandidates v candidates → IsFilled v.state → IsWellFormed v →
    (c : LogCopy) → Contains v.copies c →
    (opened : Regions) → ((r : ℕ) → IsOpened v c candidates r (opened r)) →
    (recovery : List (ℕ × Happening)) → AllFit recovery opened → AllQuiet recovery →
    ((r : ℕ) → IsSettledAndCopied (run recovery opened r)) →
    (now : Image) → IsRecoveredAs v now (run recovery opened) →
    (list : Contents) × HoldList now candidates list

-- ---- the headline

-- the newest entry that writes the block is a write that was done, and this is its value
abbrev pub IsLastIn : Bool → EntryKind → (value here : List ℕ) → Type 0 → Type 0
IsLastIn false kind value here Before = Before
IsLastIn true kinds.Read value here Before = Before
IsLastIn true kinds.Write value here Before = value ≡ here
IsLastIn true kinds.Torn value here Before = ⊥
IsLastIn true kinds.Missed value here Before = Before

abbrev pub IsLastWritten : ℕ → List ℕ → List Entry → Type 0
IsLastWritten b value [] = ⊥
IsLastWritten b value (e ∷ es) = IsLastIn (is_in e.start e.count b) e.kind value (e.values b) (IsLastWritten b value es)

-- A volume was started, and the power went at some moment. It is imported, so that its state is another, and recovered by
-- whichever copy of the log. Then the available plexes hold one list. Each block of it is among the candidates that were read,
-- and where the last call that wrote the block was acknowledged, it is what that call wrote.
abbrev pub EachLossIsRecovered : Type 0
EachLossIsRecovered =
    (started : Regions) (happenings : List (ℕ × Happening)) →
    ((n : ℕ) → IsFresh (started n)) → AllFit happenings started →
    (left : Image) → LeaveImage (run happenings started) left → WasStarted left.state → IsWellFormed left →
    (state : VolState) → WasStarted state →
    (v : Image) → v ≡ record left { state = state } →
    (c : LogCopy) → Contains v.copies c →
    (opened : Regions) → ((r : ℕ) → IsOpened v c (candidates_read v) r (opened r)) →
    (recovery : List (ℕ × Happening)) → AllFit recovery opened → AllQuiet recovery →
    ((r : ℕ) → IsSettledAndCopied (run recovery opened r)) →
    (now : Image) → IsRecoveredAs v now (run recovery opened) →
    (list : Contents) × HoldList now (candidates_read v) list
    × ((b : ℕ) (value : List ℕ) → b < v.length → IsLastWritten b value (told (run happenings started (b / v.region)).around) → list b ≡ value)

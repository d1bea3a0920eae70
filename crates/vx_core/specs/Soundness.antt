-- When a region is sound.
use Rattle.std.specs.Prelude.{◌≡◌, ◌≢◌, ℕ, ◌<◌, Bool, true, false, ◌⊎◌, List}
use Rattle.vx_core.specs.declared.stage.Step.{Step}
use Rattle.vx_core.specs.declared.stage.Work.{Work}
use Rattle.vx_core.specs.declared.stage.Phase.{Phase}
use Rattle.vx_core.specs.declared.stage.Stage.{Stage}
use Rattle.vx_core.specs.declared.stage.Step.TheVariants.{Write as AtWrite, MarkFailed as AtMarkFailed, Find as AtFind, Equal as AtEqual, Unmark as AtUnmark}
use Rattle.vx_core.specs.declared.stage.Phase.TheVariants.{Settled, Unsettled, Dead, Busy}
use Rattle.vx_life.specs.Candidates.{IsAmong}
use Rattle.vx_life.specs.Entry.{candidates_of}
use Rattle.vx_mask.specs.Mask.{has}
use Rattle.vx_core.specs.Table.{freed_by}
use Rattle.vx_core.specs.Region.{Around, told}

-- a value that block i may hold: a candidate, with the pending write taken as torn
abbrev pub MayHold : Around → ℕ → List ℕ → Type 0
MayHold a i v = IsAmong (candidates_of a.fixed.first (told a) i) v

-- the mark that is being taken away: it has left `bits`, and copies may still show it
abbrev pub freeing_at : Work → Step → ℕ → Bool
freeing_at w AtUnmark k = has (freed_by w.job) k
freeing_at w _ k = false

abbrev pub freeing : Phase → ℕ → Bool
freeing (Busy w) k = freeing_at w w.step k
freeing _ k = false

-- a mark that a copy may show beside `bits`
abbrev pub IsStray : Phase → Around → ℕ → Type 0
IsStray phase a k = (a.disks.marks.loose k ≡ true) ⊎ (freeing phase k ≡ true)

-- a set of maps between `bits` and what some copy may show beside
pub record IsBetween (s : Stage) (phase : Phase) (a : Around) (B : ℕ → Bool) : Type 0 where
  pub least : (k : ℕ) → has s.bits k ≡ true → B k ≡ true
  pub most : (k : ℕ) → B k ≡ true → (has s.bits k ≡ true) ⊎ IsStray phase a k

-- a held plex outside the set
abbrev pub IsUnmarked : Around → (ℕ → Bool) → ℕ → Type 0
IsUnmarked a B k = (a.fixed.held k ≡ true) × (B k ≡ false)

-- the unmarked plexes are equal
abbrev pub Agree : Around → (ℕ → Bool) → Type 0
Agree a B = (j k i : ℕ) → IsUnmarked a B j → IsUnmarked a B k → a.disks.blocks j i ≡ a.disks.blocks k i

-- a data plex
abbrev pub IsDataIn : (on off : ℕ) → ℕ → Type 0
IsDataIn on off k = (has on k ≡ true) ⊎ (has off k ≡ true)

abbrev pub IsData : Stage → ℕ → Type 0
IsData s k = IsDataIn s.on s.off k

-- the phases and steps in which unmarked plexes may differ
abbrev pub IsOpenStep : Step → Type 0
IsOpenStep AtWrite = Unit {0}
IsOpenStep AtMarkFailed = Unit {0}
IsOpenStep AtFind = Unit {0}
IsOpenStep AtEqual = Unit {0}
IsOpenStep _ = ⊥

abbrev pub IsOpen : Phase → Type 0
IsOpen Unsettled = Unit {0}
IsOpen Dead = Unit {0}
IsOpen (Busy w) = IsOpenStep w.step
IsOpen Settled = ⊥

-- there are two data plexes, the region is dirty, and no held plex that is off is unmarked
pub record IsDirtyIn (on others : ℕ) (held B : ℕ → Bool) : Type 0 where
  pub two : (j : ℕ) × (k : ℕ) × (j ≢ k) × IsDataIn on others j × IsDataIn on others k
  pub dirty : B 30 ≡ true
  pub off : (k : ℕ) → has others k ≡ true → held k ≡ true → B k ≡ true

abbrev pub IsDirty : Stage → (held B : ℕ → Bool) → Type 0
IsDirty s held B = IsDirtyIn s.on s.off held B

-- soundness, with the marks of the set
pub record IsSoundUnder (s : Stage) (phase : Phase) (a : Around) (B : ℕ → Bool) : Type 0 where
  -- some plex that is on is unmarked
  pub readable : (k : ℕ) × (has s.on k ≡ true) × (B k ≡ false)
  -- each block of each unmarked plex is among the candidates
  pub candidates : (k i : ℕ) → IsUnmarked a B k → MayHold a i (a.disks.blocks k i)
  -- the unmarked plexes are equal, or may differ
  pub agree : Agree a B ⊎ (IsOpen phase × IsDirty s a.fixed.held B)
  -- where a relation map is not in the set, each unmarked plex holds the blocks of the break-off
  pub tracked : (m k i : ℕ) → has s.snaps m ≡ true → B m ≡ false → IsUnmarked a B k → a.disks.blocks k i ≡ a.fixed.base m i

-- the marks that a write to a logged volume needs
abbrev pub AreMarkedForWrite : (off snaps bits : ℕ) (logged : Bool) → Type 0
AreMarkedForWrite off snaps bits logged =
    logged ≡ true →
    (has bits 30 ≡ true)
    × ((m : ℕ) → has snaps m ≡ true → has bits m ≡ true)
    × ((k : ℕ) → has off k ≡ true → has bits k ≡ true)

abbrev pub IsMarkedForWrite : Stage → Type 0
IsMarkedForWrite s = AreMarkedForWrite s.off s.snaps s.bits s.logged

abbrev pub MarkedAtStep : Stage → Step → Type 0
MarkedAtStep s AtWrite = IsMarkedForWrite s
MarkedAtStep s _ = Unit {0}

abbrev pub MarkedIn : Stage → Phase → Type 0
MarkedIn s (Busy w) = MarkedAtStep s w.step
MarkedIn s _ = Unit {0}

-- A region is sound: `bits` is within what each copy marks, a copy marks no more than that and the stray marks, and
-- whichever set between these one takes for the marks, the four facts hold. While a call is written, its marks are there.
pub record IsSound (s : Stage) (phase : Phase) (a : Around) : Type 0 where
  pub shown : (n k : ℕ) → n < a.fixed.copies → has s.bits k ≡ true → a.disks.marks.shows n k ≡ true
  pub bounded : (n k : ℕ) → n < a.fixed.copies → a.disks.marks.shows n k ≡ true → (has s.bits k ≡ true) ⊎ IsStray phase a k
  pub under : (B : ℕ → Bool) → IsBetween s phase a B → IsSoundUnder s phase a B
  pub marked : MarkedIn s phase

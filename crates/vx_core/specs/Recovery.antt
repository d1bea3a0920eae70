-- What becomes of a region after the power was cut.
use Rattle.std.specs.Prelude.{◌≡◌, ◌≢◌, ℕ, zero, suc, ◌<◌, ◌^◌, true, false, List, [], ◌∷◌, if◌then◌else◌}
use Rattle.vx_core.specs.declared.stage.Job.{Job}
use Rattle.vx_core.specs.declared.stage.Act.{Act}
use Rattle.vx_core.specs.declared.stage.Stage.{Stage}
use Rattle.vx_core.specs.declared.stage.Job.TheVariants.{Settle, Clear}
use Rattle.vx_core.specs.declared.stage.Event.TheVariants.{Begin, ReadFailed}
use Rattle.vx_core.specs.declared.stage.Act.TheVariants.{ReadRegion}
use Rattle.vx_core.specs.declared.stage.Phase.TheVariants.{Settled, Unsettled, Dead}
use Rattle.vx_base.specs.Blocks.{Contents}
use Rattle.vx_life.specs.Candidates.{IsAmong}
use Rattle.vx_life.specs.Entry.{candidates_of}
use Rattle.vx_mask.specs.Mask.{has, lowest, above_lowest}
use Rattle.vx_core.specs.Table.{current, next_of}
use Rattle.vx_core.specs.History.{NoCall}
use Rattle.vx_core.specs.Region.{RegionState}
use Rattle.vx_core.specs.Soundness.{IsSound, IsUnmarked}
use Rattle.vx_core.specs.Schedule.{Happening, Comes, Elsewhere, Fits, happens, run, AllFit, IsFresh}

-- the region once a copy of the log that shows these marks has been loaded, and the other copies have been written alike
abbrev pub loaded : RegionState → ℕ → RegionState
loaded r mask =
    record {
      stage = record r.stage { bits = mask; phase = if has mask 30 then Unsettled else Settled };
      around = record {
        disks = record { blocks = r.around.disks.blocks; marks = record { shows = λ n k. has mask k; loose = λ k. false } };
        fixed = r.around.fixed;
        entries = r.around.entries;
        pending = NoCall;
        last = r.around.last;
      };
    }

-- the region was cut, and this is what one copy of its log shows
pub record IsCutWith (r : RegionState) (copy mask : ℕ) : Type 0 where
  pub dead : r.stage.phase ≡ Dead
  pub logged : r.stage.logged ≡ true
  pub there : copy < r.around.fixed.copies
  pub fits : mask < 2 ^ 64
  pub shows : (k : ℕ) → has mask k ≡ r.around.disks.marks.shows copy k

-- after a cut, whichever copy is loaded, the region is sound: unsettled where the copy shows the dirty bit, else settled
abbrev pub EachCopyLoadsSound : Type 0
EachCopyLoadsSound =
    (regions : ℕ → RegionState) (happenings : List (ℕ × Happening)) →
    ((n : ℕ) → IsFresh (regions n)) →
    AllFit happenings regions →
    (n copy mask : ℕ) →
    IsCutWith (run happenings regions n) copy mask →
    IsSound (loaded (run happenings regions n) mask).stage (loaded (run happenings regions n) mask).stage.phase (loaded (run happenings regions n) mask).around

-- ---- recovery: a settling, and then a clear

-- the happening is part of a recovery: it begins a settling or a clear, or answers an act
abbrev pub IsRecovering : Happening → Type 0
IsRecovering (Comes (Begin Settle) now call values) = Unit {0}
IsRecovering (Comes (Begin Clear) now call values) = Unit {0}
IsRecovering (Comes (Begin job) now call values) = ⊥
IsRecovering (Comes event now call values) = Unit {0}
IsRecovering (Elsewhere marks) = Unit {0}

-- one region, after these happenings
abbrev pub region_after : List Happening → RegionState → RegionState
region_after [] r = r
region_after (h ∷ hs) r = region_after hs (happens r h)

-- each of them fits, and is part of a recovery
abbrev pub Recovers : List Happening → RegionState → Type 0
Recovers [] r = Unit {0}
Recovers (h ∷ hs) r = Fits r h × IsRecovering h × Recovers hs (happens r h)

-- the unmarked plexes hold one list of blocks, each among the candidates that the region had as it was cut
pub record IsRecovered (was now : RegionState) : Type 0 where
  pub blocks : Contents
  pub holds : (k i : ℕ) → IsUnmarked now.around (has now.stage.bits) k → now.around.disks.blocks k i ≡ blocks i
  pub among : (i : ℕ) → IsAmong (candidates_of was.around.fixed.first was.around.entries i) (blocks i)
  pub readable : (k : ℕ) × (has now.stage.on k ≡ true) × (has now.stage.bits k ≡ false)
  -- no call was made meanwhile
  pub entries : now.around.entries ≡ was.around.entries

-- After a cut, whichever copy is loaded, and however the devices answer a settling and a clear, the region is recovered
-- once it is settled.
abbrev pub EachRecovers : Type 0
EachRecovers =
    (regions : ℕ → RegionState) (happenings : List (ℕ × Happening)) →
    ((n : ℕ) → IsFresh (regions n)) →
    AllFit happenings regions →
    (n copy mask : ℕ) →
    IsCutWith (run happenings regions n) copy mask →
    (recovery : List Happening) →
    Recovers recovery (loaded (run happenings regions n) mask) →
    (region_after recovery (loaded (run happenings regions n) mask)).stage.phase ≡ Settled →
    IsRecovered (run happenings regions n) (region_after recovery (loaded (run happenings regions n) mask))

-- ---- the plex that a settling copies from

-- a mask without its lowest n maps
abbrev pub above : ℕ → ℕ → ℕ
above zero mask = mask
above (suc n) mask = above_lowest (above n mask)

-- an unsettled region in which a job begins, once the lowest n current plexes could not be read
abbrev pub after_failed_reads : ℕ → Stage → Job → Stage × Act
after_failed_reads zero s job = next_of s (Begin job)
after_failed_reads (suc n) s job = next_of (after_failed_reads n s job).0 (ReadFailed (lowest (above n (current s))))

-- a settling reads the current plexes in rising order until one answers
abbrev pub ReadsLowestFirst : Type 0
ReadsLowestFirst =
    (s : Stage) (job : Job) (n : ℕ) →
    s.phase ≡ Unsettled →
    above n (current s) ≢ 0 →
    (after_failed_reads n s job).1 ≡ ReadRegion (lowest (above n (current s)))

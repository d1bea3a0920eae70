-- What is written to the fronts of a group's disks is written to their whole devices.
use Rattle.std.specs.Prelude.{◌≡◌, ℕ, ◌+◌, Bool, List, ◌++◌, map, length, take, drop, None}
use Rattle.vx_base.specs.Named.{Word}
use Rattle.vx_copies.specs.Lists.{Each, AllOf, AnyOf}
use Rattle.vx_copies.specs.Disks.{DiskSeen, IsCut, IsReady, IsBelow, CommitGoes, good_mask}
use Rattle.vx_copies.specs.Config.{GivesOldOrNew, GivesNew, configuration}
use Rattle.vx_copies.specs.Chain.{AreInOrder, IsLed}
use Rattle.vx_copies.specs.Commit.{AllOffer, HasRisen}
use Rattle.vx_copies.specs.Written.{Recorded, IsDone, IsQuiet, WritesJust}
use Rattle.vx_confdb.specs.Groups.{IsMemberOf}
use Rattle.vx_confdb.specs.Create.{Joins}
use Rattle.vx_confdb.specs.Enlisted.{IsAddedTo, IsEnlisted}
use Rattle.vx_fronts.specs.Fronts.{Rests, whole_disk, HasPrivate}

-- the disks with their whole devices
abbrev pub whole_disks : Rests → List DiskSeen → List DiskSeen
whole_disks rests hs = map (whole_disk rests) hs

-- what a commit does to the disks of a group, however it ends
pub record Commits (group : Word) (before last : ℕ) (text : List ℕ) (old new : List DiskSeen) : Type 0 where
  pub goes : Each (CommitGoes (before + 1) last text) old new
  pub old_or_new : GivesOldOrNew group (before + 1) last text old new
  pub order : AreInOrder group before new
  pub recorded : Recorded (before + 1) last text old new

-- what one that is done leaves of them
pub record Carries (group : Word) (before last carriers : ℕ) (text : List ℕ) (new : List DiskSeen) : Type 0 where
  pub offers : AllOffer last text new
  pub gives : GivesNew group (before + 1) last text new
  pub ready : AllOf IsReady new
  pub headed : AllOf (IsMemberOf group) new
  pub below : AllOf (IsBelow group last) new
  pub done : IsDone carriers last text new

-- A commit to the fronts is one to the whole devices, ..
abbrev pub EachCommitIsWhole : Type 0
EachCommitIsWhole =
    (rests : Rests) (group : Word) (before last : ℕ) (text : List ℕ) (old new : List DiskSeen) → AllOf HasPrivate old →
    Commits group before last text old new → Commits group before last text (whole_disks rests old) (whole_disks rests new)

-- .. and so is what it leaves where it is done.
abbrev pub EachTextIsCarriedWhole : Type 0
EachTextIsCarriedWhole =
    (rests : Rests) (group : Word) (before last carriers : ℕ) (text : List ℕ) (new : List DiskSeen) → AllOf HasPrivate new →
    Carries group before last carriers text new → Carries group before last carriers text (whole_disks rests new)

-- A disk that was written once was so with its whole device.
abbrev pub EachWriteIsWhole : Type 0
EachWriteIsWhole =
    (rests : Rests) (first last : ℕ) (text : List ℕ) (n : ℕ) (old new : List DiskSeen) → AllOf HasPrivate old → Each (CommitGoes first last text) old new →
    (Each IsQuiet old new → Each (WritesJust n) old new) → Each IsQuiet (whole_disks rests old) (whole_disks rests new) → Each (WritesJust n) (whole_disks rests old) (whole_disks rests new)

-- A disk that has failed has failed with its device, and one that is cut is cut with it.
abbrev pub EachFailureIsWhole : Type 0
EachFailureIsWhole =
    (rests : Rests) (first last : ℕ) (text : List ℕ) (old new : List DiskSeen) → AllOf HasPrivate old → Each (CommitGoes first last text) old new →
    Each HasRisen old new → Each HasRisen (whole_disks rests old) (whole_disks rests new)

abbrev pub EachCutIsWhole : Type 0
EachCutIsWhole = (rests : Rests) (disks : List DiskSeen) → AnyOf IsCut disks → AnyOf IsCut (whole_disks rests disks)

-- The devices give what the fronts do, whichever can be read, and the good slots are the same.
abbrev pub EachConfigurationIsWhole : Type 0
EachConfigurationIsWhole =
    (rests : Rests) (group : Word) (readable : ℕ → Bool) (disks : List DiskSeen) → AllOf HasPrivate disks →
    configuration group readable (whole_disks rests disks) ≡ configuration group readable disks

abbrev pub EachMaskIsWhole : Type 0
EachMaskIsWhole = (rests : Rests) (disks : List DiskSeen) → good_mask (whole_disks rests disks) ≡ good_mask disks

-- The disks that carry a text lead it with their devices.
abbrev pub EachLeadIsWhole : Type 0
EachLeadIsWhole =
    (rests : Rests) (group : Word) (before carriers : ℕ) (disks : List DiskSeen) → AllOf HasPrivate disks →
    IsLed group before carriers disks → IsLed group before carriers (whole_disks rests disks)

-- ---- disks that join

-- no piece is behind the front of the disk
abbrev pub IsUnparted : Rests → DiskSeen → Type 0
IsUnparted rests h = rests h.seen.device ≡ None

-- these disks had a commit, and those behind them in the list joined
pub record Gains (rests : Rests) (group : Word) (first last : ℕ) (text : List ℕ) (old joiners now : List DiskSeen) : Type 0 where
  pub private : AllOf HasPrivate (old ++ joiners)
  pub alone : AllOf (IsUnparted rests) joiners
  pub goes : Each (CommitGoes first last text) old (take (length old) now)
  pub joins : Each (Joins group text) joiners (drop (length old) now)

-- What a call writes that adds whole disks is written to the whole devices, however it ends, ..
abbrev pub EachEntryIsWhole : Type 0
EachEntryIsWhole =
    (rests : Rests) (group : Word) (first last : ℕ) (text : List ℕ) (old joiners now : List DiskSeen) → Gains rests group first last text old joiners now →
    IsEnlisted group first last (length old) text (old ++ joiners) now → IsEnlisted group first last (length old) text (whole_disks rests old ++ joiners) (whole_disks rests now)

-- .. and so is what one leaves that is done.
abbrev pub EachAdditionIsWhole : Type 0
EachAdditionIsWhole =
    (rests : Rests) (group : Word) (first last : ℕ) (text : List ℕ) (old joiners now : List DiskSeen) → Gains rests group first last text old joiners now → AllOf HasPrivate now →
    IsAddedTo last (length old) text (old ++ joiners) now → IsAddedTo last (length old) text (whole_disks rests old ++ joiners) (whole_disks rests now)

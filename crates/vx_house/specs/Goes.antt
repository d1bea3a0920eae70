-- What a stage does to a house and its shelf, by its answer.
use Rattle.std.specs.Prelude.{◌≡◌, Bool, true, false, List, [], ◌∷◌, None, IfSome, Result, Ok, Err, OnOk}
use Rattle.vx_pages.specs.declared.local_piece.LocalPiece.{Ghosts}
use Rattle.vx_header.specs.Named.{header_of}
use Rattle.vx_piece.specs.Seen.{Seen}
use Rattle.vx_copies.specs.Lists.{AllOf, Each}
use Rattle.vx_script_words.specs.declared.value.DiskAt.{DiskAt}
use Rattle.vx_answers.specs.declared.answer.End.{End}
use Rattle.vx_answers.specs.declared.answer.End.TheVariants as ends
use Rattle.vx_moments.specs.Moment.{Moment, AreLater}
use Rattle.vx_stages.specs.Records.{devices_of}
use Rattle.vx_stages.specs.Stages.{IsDone, Stops, Wants}
use Rattle.vx_stages.specs.Tests.{fails}
use Rattle.vx_stages.specs.declared.stage.Change.TheVariants as changes
use Rattle.vx_stages.specs.declared.stage.Stage.{Stage}
use Rattle.vx_stages.specs.declared.stage.Stage.TheVariants as stage
use Rattle.vx_stages.specs.declared.test.Test.TheVariants as tests
use Rattle.vx_house.specs.Holders.{hand_names}
use Rattle.vx_house.specs.Plain.{plain}
use Rattle.vx_house.specs.Scene.{FaultsGoOn, IsBlamed}
use Rattle.vx_house.specs.View.{View, Keeps, KeepsButGroup, IsMoment, IsMomentButGroup, scene}
use Rattle.vx_house.specs.declared.house.House.{House}
use Rattle.vx_house.specs.declared.house.Taken.{Taken}
use Rattle.vx_house.specs.declared.stop.Stop.{Stop}
use Rattle.vx_house.specs.declared.stop.Stop.TheVariants as stops

-- from each moment that the house was there is one that it is now, to which it goes so
abbrev pub Goes : {P : Type 0} {ghosts : Ghosts P} → (P → Seen) → (Moment → Moment → Type 0) → View P ghosts → View P ghosts → Type 0
Goes see R old new = (m : Moment) → IsMoment see old m → (n : Moment) × IsMoment see new n × AreLater m.counts n.counts × R m n

-- where the group or the power is lost, the group of the house says nothing any more
abbrev pub GoesOff : {P : Type 0} {ghosts : Ghosts P} → (P → Seen) → (Moment → Moment → Type 0) → View P ghosts → View P ghosts → Type 0
GoesOff see R old new = (m : Moment) → IsMoment see old m → (n : Moment) × IsMomentButGroup see new n × AreLater m.counts n.counts × R m n

-- by the answer: it is done so, or has ended the command so, or for want of memory it was left so
abbrev pub GoesBy : {P T : Type 0} {ghosts : Ghosts P} → (P → Seen) → (Moment → Moment → Type 0) → (Moment → End → Moment → Type 0) → (Moment → Moment → Type 0) → Result T Stop → View P ghosts → View P ghosts → Type 0
GoesBy see Done Ends Left (Ok u) old new = Goes see Done old new
GoesBy see Done Ends Left (Err (stops.Ended ends.GroupLost)) old new = GoesOff see (λ m n. Ends m ends.GroupLost n) old new
GoesBy see Done Ends Left (Err (stops.Ended (ends.Lost parts))) old new = GoesOff see (λ m n. Ends m (ends.Lost parts) n) old new
GoesBy see Done Ends Left (Err (stops.Ended end)) old new = Goes see (λ m n. Ends m end n) old new
GoesBy see Done Ends Left (Err stops.OutOfMemory) old new = Goes see Left old new

-- by the answer: where the group or the power is lost, the group is kept no more
abbrev pub KeepsBy : {P T : Type 0} {ghosts : Ghosts P} → (P → Seen) → Result T Stop → View P ghosts → Type 0
KeepsBy see (Err (stops.Ended ends.GroupLost)) v = KeepsButGroup see v
KeepsBy see (Err (stops.Ended (ends.Lost parts))) v = KeepsButGroup see v
KeepsBy see result v = Keeps see v

-- this holds of how the command was ended
abbrev pub OnEnded : {T : Type 0} → Result T Stop → (End → Type 0) → Type 0
OnEnded (Ok u) Q = Unit {0}
OnEnded (Err (stops.Ended end)) Q = Q end
OnEnded (Err stops.OutOfMemory) Q = Unit {0}

-- where its sectors are told, the device has no header
abbrev pub IsBlankSeen : Seen → Type 0
IsBlankSeen seen = IfSome seen.told (λ contents. header_of (contents 0) ≡ None)

abbrev pub IsHandBlank : {P : Type 0} {ghosts : Ghosts P} → (P → Seen) → House P ghosts → Type 0
IsHandBlank see h = AllOf (λ t. IsBlankSeen (see t.piece)) h.hand.items

-- what a stage that is done leaves in the house for those behind it
abbrev pub Gives : {P : Type 0} {ghosts : Ghosts P} → (P → Seen) → Stage → List DiskAt → House P ghosts → Type 0
Gives see (stage.Gate test) disks h = fails test disks (plain see h) ≡ None
Gives see (stage.Take name) disks h = hand_names h ≡ name ∷ []
Gives see stage.TakeDisks disks h = hand_names h ≡ devices_of disks
Gives see (stage.LookBlank name) disks h = IsHandBlank see h
Gives see stage.LookDisks disks h = IsHandBlank see h
Gives see (stage.LookHeaded name) disks h = Unit {0}
Gives see (stage.Search dg) disks h = Unit {0}
Gives see (stage.MakeImage name sectors) disks h = Unit {0}
Gives see (stage.Wipe name) disks h = Unit {0}
Gives see (stage.StartBare vol name) disks h = Unit {0}
Gives see (stage.Change change) disks h = Unit {0}
Gives see (stage.Make text) disks h = Unit {0}
Gives see stage.Join disks h = Unit {0}
Gives see (stage.Create dg) disks h = Unit {0}
Gives see (stage.Import dg) disks h = Unit {0}
Gives see stage.LetGo disks h = Unit {0}
Gives see (stage.Start vol) disks h = Unit {0}
Gives see (stage.Mirror mirror) disks h = Unit {0}
Gives see (stage.Prepare logs) disks h = Unit {0}
Gives see (stage.Unprepare vol) disks h = Unit {0}
Gives see (stage.Detach plex) disks h = Unit {0}
Gives see (stage.Attach vol plex) disks h = Unit {0}
Gives see (stage.Dissociate plex remove) disks h = Unit {0}
Gives see (stage.Stop vol) disks h = Unit {0}

-- the stages of a command that must be done before this one
abbrev pub wanted : Stage → List Stage
wanted (stage.Gate (tests.Sized device)) = stage.Take device ∷ []
wanted (stage.Gate (tests.GroupLimits dg)) = stage.TakeDisks ∷ []
wanted (stage.Gate tests.JoinLimits) = stage.TakeDisks ∷ []
wanted (stage.Gate (tests.GroupRecords dg)) = stage.TakeDisks ∷ stage.Gate (tests.GroupLimits dg) ∷ []
wanted (stage.Gate other) = []
wanted (stage.Take name) = []
wanted stage.TakeDisks = []
wanted (stage.LookBlank name) = stage.Take name ∷ []
wanted stage.LookDisks = stage.TakeDisks ∷ []
wanted (stage.LookHeaded name) = stage.Take name ∷ []
wanted (stage.Search dg) = stage.TakeDisks ∷ []
wanted (stage.MakeImage name sectors) = []
wanted (stage.Wipe name) = stage.Take name ∷ []
wanted (stage.StartBare vol name) = stage.Take name ∷ stage.Gate (tests.Sized name) ∷ []
wanted (stage.Change (changes.Policy vol policy)) = []
wanted (stage.Change (changes.Remove vol)) = stage.Gate (tests.HasVolume vol) ∷ stage.Gate (tests.Stopped vol) ∷ []
wanted (stage.Make text) = []
wanted stage.Join = stage.TakeDisks ∷ stage.LookDisks ∷ stage.Gate tests.JoinLimits ∷ []
wanted (stage.Create dg) = stage.TakeDisks ∷ stage.LookDisks ∷ stage.Gate (tests.GroupLimits dg) ∷ stage.Gate (tests.GroupRecords dg) ∷ []
wanted (stage.Import dg) = []
wanted stage.LetGo = stage.Gate tests.NoneStarted ∷ []
wanted (stage.Start vol) = stage.Gate (tests.Stopped vol) ∷ []
wanted (stage.Mirror mirror) = []
wanted (stage.Prepare logs) = []
wanted (stage.Unprepare vol) = []
wanted (stage.Detach plex) = []
wanted (stage.Attach vol plex) = []
wanted (stage.Dissociate plex remove) = []
wanted (stage.Stop vol) = []

-- the stage takes devices into an empty hand
abbrev pub is_first : Stage → Bool
is_first (stage.Take name) = true
is_first stage.TakeDisks = true
is_first (stage.Import dg) = true
is_first other = false

-- the house has what the stage needs
pub record IsReady {P : Type 0} {ghosts : Ghosts P} (see : P → Seen) (s : Stage) (disks : List DiskAt) (h : House P ghosts) : Type 0 where
  pub wants : AllOf (λ t. Gives see t disks h) (wanted s)
  pub empty : is_first s ≡ true → h.hand.items ≡ []

-- a device in hand that was read at most
pub record IsStill {P : Type 0} (see : P → Seen) (old new : Taken P) : Type 0 where
  pub device : new.device ≡ old.device
  pub sectors : (see new.piece).sectors ≡ (see old.piece).sectors
  pub told : (see new.piece).told ≡ (see old.piece).told

-- the house is as before, but that devices in hand were read
pub record Still {P : Type 0} {ghosts : Ghosts P} (see : P → Seen) (old new : House P ghosts) : Type 0 where
  pub hand : Each (IsStill see) old.hand.items new.hand.items
  pub volumes : new.volumes ≡ old.volumes
  pub group : new.group ≡ old.group

-- the stage reads at most
abbrev pub only_reads : Stage → Bool
only_reads (stage.Gate test) = true
only_reads (stage.LookBlank name) = true
only_reads stage.LookDisks = true
only_reads (stage.LookHeaded name) = true
only_reads (stage.Search dg) = true
only_reads other = false

-- A stage keeps the house, does what it says, and leaves what those behind it need.
pub record StageGoes {P T : Type 0} {ghosts : Ghosts P} (see : P → Seen) (s : Stage) (disks : List DiskAt) (result : Result T Stop) (old new : View P ghosts) : Type 0 where
  pub keeps : KeepsBy see result new
  pub goes : GoesBy see (IsDone s disks) (Stops s disks) (Wants s) result old new
  pub gives : OnOk result (Gives see s disks new.house)
  pub still : only_reads s ≡ true → OnOk result (Still see old.house new.house)
  pub faults : FaultsGoOn (scene see old) (scene see new)
  pub blamed : OnEnded result (λ end. IsBlamed end (scene see old) (scene see new))

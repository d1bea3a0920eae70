-- A group, and what its calls leave.
use Rattle.std.specs.Prelude.{◌≡◌, ◌⊎◌, ℕ, ◌+◌, ◌<◌, ◌≤◌, IsTrue, List, length, map, take, Some, None, Result, Ok, Err, MatchOption, OnOk}
use Rattle.vx_base.specs.Named.{Word}
use Rattle.vx_piece.specs.Seen.{Seen}
use Rattle.vx_copies.specs.Lists.{Each, AllOf, AnyOf}
use Rattle.vx_copies.specs.Disks.{DiskSeen, disk_seen, HasSlot, IsCut, IsReady, IsBelow, CommitGoes}
use Rattle.vx_copies.specs.Config.{GivesOldOrNew, GivesNew}
use Rattle.vx_copies.specs.Chain.{AreInOrder, IsLed}
use Rattle.vx_copies.specs.Commit.{AllOffer, HasRisen}
use Rattle.vx_copies.specs.Written.{Recorded, IsDone, IsQuiet, WritesJust, sectors_of}
use Rattle.vx_copies.specs.declared.writing.Lost.TheVariants as lost
use Rattle.vx_confdb.specs.Prepare.{IsHeaded, Tells}
use Rattle.vx_confdb.specs.Texts.{text_of}
use Rattle.vx_confdb.specs.declared.fault.GroupFault.{GroupFault}
use Rattle.vx_confdb.specs.declared.fault.GroupFault.TheVariants as fault
use Rattle.vx_confdb.specs.declared.group.Group.{Group}

-- its disks, with what is seen of them
abbrev pub members : {P : Type 0} → (P → Seen) → Group P → List DiskSeen
members see g = map (disk_seen see) g.disks.items

-- where it is good, the disk is a member of the group
abbrev pub IsMemberOf : Word → DiskSeen → Type 0
IsMemberOf group h = IsTrue h.good → IsHeaded group h

-- a group whose next commit can be written
pub record IsAlive {P : Type 0} (see : P → Seen) (g : Group P) : Type 0 where
  pub ready : AllOf IsReady (members see g)
  pub headed : AllOf (IsMemberOf g.name) (members see g)
  pub below : AllOf (IsBelow g.name g.sequence) (members see g)
  pub few : length g.disks.items ≤ 32

-- where no commit was lost, the next can be written; in any case the slots are those of a mask
abbrev pub IsGroup : {P : Type 0} → (P → Seen) → Group P → Type 0
IsGroup see g = MatchOption g.lost (IsAlive see g) (λ l. AllOf HasSlot (members see g))

-- what any commit does
pub record IsCommitted {P : Type 0} (see : P → Seen) (text : List ℕ) (old new : Group P) : Type 0 where
  pub name : new.name ≡ old.name
  pub goes : Each (CommitGoes (old.sequence + 1) new.sequence text) (members see old) (members see new)
  pub old_or_new : GivesOldOrNew old.name (old.sequence + 1) new.sequence text (members see old) (members see new)
  pub order : AreInOrder old.name old.sequence (members see new)
  pub few : new.sequence ≤ old.sequence + 32

-- all good disks carry the text
pub record CarriesText {P : Type 0} (see : P → Seen) (first : ℕ) (text : List ℕ) (g : Group P) : Type 0 where
  pub lost : g.lost ≡ None
  pub holds : text_of g.text ≡ text
  pub offers : AllOffer g.sequence text (members see g)
  pub gives : GivesNew g.name first g.sequence text (members see g)
  pub alive : IsAlive see g

abbrev pub WrittenBy : {P : Type 0} → (P → Seen) → Result (Unit {0}) GroupFault → ℕ → List ℕ → Group P → Group P → Type 0
WrittenBy see (Ok u) carriers text old new = CarriesText see (old.sequence + 1) text new
WrittenBy see (Err fault.OutOfMemory) carriers text old new = ⊥
WrittenBy see (Err (fault.TooLong n)) carriers text old new = ⊥
WrittenBy see (Err fault.GroupLost) carriers text old new = (new.lost ≡ Some lost.GroupLost) × Each HasRisen (take carriers (members see old)) (take carriers (members see new))
WrittenBy see (Err fault.PowerLost) carriers text old new = (new.lost ≡ Some lost.PowerLost) × AnyOf IsCut (members see new)

pub record IsWritten {P : Type 0} (see : P → Seen) (result : Result (Unit {0}) GroupFault) (carriers : ℕ) (text : List ℕ) (old new : Group P) : Type 0 where
  pub committed : IsCommitted see text old new
  -- where the carriers tell what they hold
  pub lead : AllOf Tells (take carriers (members see old)) → IsLed old.name old.sequence carriers (members see new)
  pub ends : WrittenBy see result carriers text old new
  pub recorded : Recorded (old.sequence + 1) new.sequence text (members see old) (members see new)
  pub done : OnOk result (IsDone carriers new.sequence text (members see new))
  pub exact : OnOk result (Each IsQuiet (members see old) (members see new) → Each (WritesJust (sectors_of text)) (members see old) (members see new))

-- a commit is done, or refused and all is as before, or lost
abbrev pub CommitGives : {P : Type 0} → (P → Seen) → Result (Unit {0}) GroupFault → List ℕ → Group P → Group P → Type 0
CommitGives see (Ok u) text old new = IsCommitted see text old new × CarriesText see (old.sequence + 1) text new
CommitGives see (Err fault.OutOfMemory) text old new = new ≡ old
CommitGives see (Err (fault.TooLong n)) text old new = (n ≡ length text) × (522240 < n) × (new ≡ old)
CommitGives see (Err fault.GroupLost) text old new = ((old.lost ≡ Some lost.GroupLost) × (new ≡ old)) ⊎ (IsCommitted see text old new × (new.lost ≡ Some lost.GroupLost) × Each HasRisen (members see old) (members see new))
CommitGives see (Err fault.PowerLost) text old new = ((old.lost ≡ Some lost.PowerLost) × (new ≡ old)) ⊎ (IsCommitted see text old new × (new.lost ≡ Some lost.PowerLost) × AnyOf IsCut (members see new))

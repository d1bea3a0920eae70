-- What the taking of a disk into a group leaves.
use Rattle.std.specs.Prelude.{◌≡◌, ◌⊎◌, ℕ, ◌+◌, ◌<◌, ◌≤◌, List, [], ◌∷◌, ◌++◌, length, map, take, drop, Option, Some, None, Result, Ok, Err}
use Rattle.vx_piece.specs.Seen.{Seen}
use Rattle.vx_copies.specs.Lists.{Each, AllOf, AnyOf}
use Rattle.vx_copies.specs.Disks.{disk_seen, HasSlot, IsCut, IsBelow, CommitGoes}
use Rattle.vx_copies.specs.Config.{GivesOldOrNew}
use Rattle.vx_copies.specs.Chain.{Copy, copy_of, AreInOrder, IsChained, IsLed, IsSound}
use Rattle.vx_copies.specs.Commit.{HasRisen}
use Rattle.vx_copies.specs.declared.disk.Disk.{Disk}
use Rattle.vx_copies.specs.declared.writing.Lost.TheVariants as lost
use Rattle.vx_confdb.specs.Create.{Joins}
use Rattle.vx_confdb.specs.Groups.{members, IsAlive, CarriesText}
use Rattle.vx_confdb.specs.Prepare.{Tells}
use Rattle.vx_confdb.specs.declared.joining.Prepared.{Prepared}
use Rattle.vx_confdb.specs.declared.joining.Prepared.TheVariants.{Done, Cut}
use Rattle.vx_confdb.specs.declared.fault.GroupFault.{GroupFault}
use Rattle.vx_confdb.specs.declared.fault.GroupFault.TheVariants as fault
use Rattle.vx_confdb.specs.declared.group.Group.{Group}

-- the same group, though it may have taken room
pub record IsSame {P : Type 0} (old new : Group P) : Type 0 where
  pub name : new.name ≡ old.name
  pub disks : new.disks.items ≡ old.disks.items
  pub sequence : new.sequence ≡ old.sequence
  pub text : new.text ≡ old.text
  pub lost : new.lost ≡ old.lost

-- The disk is the last of the group, and the others go on as in a commit. Whichever disks can be read, they give what they
-- gave before, or the text, and the copies stay chained.
pub record IsTaken {P : Type 0} (see : P → Seen) (text : List ℕ) (disk : Disk P) (old new : Group P) : Type 0 where
  pub name : new.name ≡ old.name
  pub goes : Each (CommitGoes (old.sequence + 1) new.sequence text) (members see old) (take (length old.disks.items) (members see new))
  pub joins : Each (Joins old.name text) (disk_seen see disk ∷ []) (drop (length old.disks.items) (members see new))
  pub old_or_new : GivesOldOrNew old.name (old.sequence + 1) new.sequence text (members see old) (members see new)
  pub order : AreInOrder old.name old.sequence (members see new)
  -- one that was there leads, where they tell what they hold
  pub lead : AllOf Tells (members see old) → IsLed old.name old.sequence (length old.disks.items) (members see new)
  pub few : new.sequence ≤ old.sequence + 32
  pub chained : (missing : ℕ) (others : List Copy) → Tells (disk_seen see disk) → IsSound old.name missing others old.sequence (length old.disks.items) (members see old) → IsChained missing (others ++ map (copy_of old.name) (members see new))

abbrev pub TakenBy : {P : Type 0} → (P → Seen) → Result (Unit {0}) GroupFault → List ℕ → Disk P → Group P → Group P → Type 0
TakenBy see (Ok u) text disk old new =
    IsTaken see text disk old new × CarriesText see (old.sequence + 1) text new
    × ((missing : ℕ) (others : List Copy) → Tells (disk_seen see disk) → IsSound old.name missing others old.sequence (length old.disks.items) (members see old) → IsSound old.name missing others new.sequence (length new.disks.items) (members see new))
TakenBy see (Err fault.OutOfMemory) text disk old new = ⊥
TakenBy see (Err (fault.TooLong n)) text disk old new = ⊥
TakenBy see (Err fault.GroupLost) text disk old new = IsTaken see text disk old new × (new.lost ≡ Some lost.GroupLost) × Each HasRisen (members see old) (take (length old.disks.items) (members see new))
TakenBy see (Err fault.PowerLost) text disk old new = IsTaken see text disk old new × (new.lost ≡ Some lost.PowerLost) × AnyOf IsCut (members see new)

-- refused, with the disk given back
abbrev pub IsRefused : {P : Type 0} → Disk P → Option (Disk P) → Group P → Group P → Type 0
IsRefused disk back old new = (back ≡ Some disk) × IsSame old new

abbrev pub AddGives : {P : Type 0} → (P → Seen) → Result (Unit {0}) (GroupFault × Option (Disk P)) → List ℕ → Disk P → Group P → Group P → Type 0
AddGives see (Ok u) text disk old new = TakenBy see (Ok u) text disk old new
AddGives see (Err (fault.OutOfMemory, back)) text disk old new = IsRefused disk back old new
AddGives see (Err (fault.TooLong n, back)) text disk old new = (n ≡ length text) × (522240 < n) × IsRefused disk back old new
AddGives see (Err (fault.GroupLost, back)) text disk old new = ((old.lost ≡ Some lost.GroupLost) × IsRefused disk back old new) ⊎ ((back ≡ None) × TakenBy see (Err fault.GroupLost) text disk old new)
AddGives see (Err (fault.PowerLost, back)) text disk old new = ((old.lost ≡ Some lost.PowerLost) × IsRefused disk back old new) ⊎ ((back ≡ None) × TakenBy see (Err fault.PowerLost) text disk old new)

-- a new disk has joined, or a disk is cut; the others are those of a group
abbrev pub IsJoined : {P : Type 0} → (P → Seen) → Prepared → Group P → Type 0
IsJoined see Done g = IsAlive see g
IsJoined see Cut g = AllOf HasSlot (members see g) × AllOf (IsBelow g.name g.sequence) (members see g) × AnyOf IsCut (members see g)

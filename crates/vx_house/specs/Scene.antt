-- What is seen of all devices: a shelf, and the devices that were taken from it.
use Rattle.std.specs.Prelude.{◌≡◌, ◌⊎◌, ◌≤◌, ℕ, false, List, Option, Some, None, IsSome}
use Rattle.vx_base.specs.Counts.{Rose}
use Rattle.vx_base.specs.Named.{Word}
use Rattle.vx_piece.specs.Seen.{Seen}
use Rattle.vx_shelf.specs.Shelf.{Held}
use Rattle.vx_answers.specs.declared.answer.End.{End}
use Rattle.vx_answers.specs.declared.answer.End.TheVariants as ends
use Rattle.vx_moments.specs.Moment.{Counts}
use Rattle.vx_house.specs.Holders.{Holder, held_as}

-- a shelf: the devices that it tells, those that were taken, the faults that it has counted of each, and its own
pub record Shelved : Type 0 where
  pub free : Option (Word → Option Seen)
  pub held : Word → Option Held
  pub counted : Word → ℕ
  pub faults : ℕ

-- a shelf as it is seen
abbrev pub shelved : {S : Type 0} → (S → Option (Word → Option Seen)) → (S → Word → Option Held) → (S → Word → ℕ) → (S → ℕ) → S → Shelved
shelved free held counted faults shelf = record { free = free shelf; held = held shelf; counted = counted shelf; faults = faults shelf }

-- a shelf, and the devices that were taken from it
pub record Scene : Type 0 where
  pub shelf : Shelved
  pub taken : List Holder

-- what is seen of the device of a name, which was taken, or lies on the shelf
abbrev pub seen_in : Option Seen → Option (Word → Option Seen) → Word → Option Seen
seen_in (Some seen) free name = Some seen
seen_in None None name = None
seen_in None (Some devices) name = devices name

abbrev pub seen_at : Scene → Word → Option Seen
seen_at s name = seen_in (held_as s.taken name) s.shelf.free name

-- the faults of a device that was taken, or else those that the shelf has counted
abbrev pub faults_in : Option Seen → ℕ → ℕ
faults_in None counted = counted
faults_in (Some seen) counted = seen.faults

abbrev pub faults_at : Scene → Word → ℕ
faults_at s name = faults_in (held_as s.taken name) (s.shelf.counted name)

-- a count of the device, where one is seen
abbrev pub count_in : {X : Type 0} → (Seen → X) → X → Option Seen → X
count_in count none None = none
count_in count none (Some seen) = count seen

-- the sectors of the device that were read, where one is seen
abbrev pub reads_at : Scene → Word → ℕ
reads_at s name = count_in (λ seen. seen.reads) 0 (seen_at s name)

-- the counts of a moment are those that are seen
pub record AreCountsOf (s : Scene) (c : Counts) : Type 0 where
  pub faults : (name : Word) → c.faults name ≡ faults_at s name
  pub reads : (name : Word) → c.reads name ≡ count_in (λ seen. seen.reads) 0 (seen_at s name)
  pub writes : (name : Word) → c.writes name ≡ count_in (λ seen. seen.writes) 0 (seen_at s name)
  pub cut : (name : Word) → c.cut name ≡ count_in (λ seen. seen.cut) false (seen_at s name)
  pub shelf : c.shelf ≡ s.shelf.faults

-- the counts that are seen
abbrev pub counts_of : Scene → Counts
counts_of s = record {
  faults = faults_at s;
  reads = λ name. count_in (λ seen. seen.reads) 0 (seen_at s name);
  writes = λ name. count_in (λ seen. seen.writes) 0 (seen_at s name);
  cut = λ name. count_in (λ seen. seen.cut) false (seen_at s name);
  shelf = s.shelf.faults;
}

-- the same is seen of each device, by a shelf that tells its devices
pub record IsSame (old new : Scene) : Type 0 where
  pub told : IsSome new.shelf.free
  pub seen : (name : Word) → seen_at new name ≡ seen_at old name
  pub faults : (name : Word) → faults_at new name ≡ faults_at old name
  pub shelf : new.shelf.faults ≡ old.shelf.faults

-- no count of faults has fallen
pub record FaultsGoOn (old new : Scene) : Type 0 where
  pub devices : (name : Word) → faults_at old name ≤ faults_at new name
  pub shelf : old.shelf.faults ≤ new.shelf.faults

-- the device has failed, or the shelf
abbrev pub HasFailed : Word → Scene → Scene → Type 0
HasFailed name old new = Rose (faults_at old name) (faults_at new name) ⊎ Rose old.shelf.faults new.shelf.faults

-- a fault is told of a device that has failed, or of the shelf, whatever the shelf tells
abbrev pub IsBlamed : End → Scene → Scene → Type 0
IsBlamed (ends.Done copied parts blocks) old new = Unit {0}
IsBlamed (ends.Refused refusal) old new = Unit {0}
IsBlamed (ends.Fault told device parts) old new = HasFailed device old new
IsBlamed ends.ShelfFailed old new = Rose old.shelf.faults new.shelf.faults
IsBlamed ends.GroupLost old new = Unit {0}
IsBlamed (ends.Lost parts) old new = Unit {0}

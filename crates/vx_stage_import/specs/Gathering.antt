-- What the looking at devices leaves.
use Rattle.std.specs.Prelude.{◌≡◌, ◌⊎◌, ℕ, ◌+◌, ◌≤◌, true, List, [], ◌∷◌, ◌++◌, length, Some, None, IsSome}
use Rattle.vx_base.specs.Counts.{Rose, RoseBy}
use Rattle.vx_base.specs.Named.{Word}
use Rattle.vx_header.specs.Named.{Label}
use Rattle.vx_piece.specs.Seen.{Seen, Keeps, IsRead}
use Rattle.vx_copies.specs.Lists.{AllOf, AnyOf}
use Rattle.vx_import.specs.Looks.{Looked}
use Rattle.vx_moments.specs.Holding.{is_among}
use Rattle.vx_house.specs.Holders.{held_as, AreHeld}
use Rattle.vx_house.specs.Scene.{Shelved, Scene, seen_at, faults_at, reads_at}
use Rattle.vx_stage_import.specs.Finds.{IsFind, IsNaming, HasSlot}
use Rattle.vx_stage_import.specs.declared.gathering.Passed.{Passed}
use Rattle.vx_stage_import.specs.declared.gathering.Passed.TheVariants.{Done, Cut, OutOfMemory}
use Rattle.vx_house.specs.Reading.{OnlyRead, IsReturned}

-- one was put among others
pub record IsPut (find : Looked) (fs fs' : List Looked) : Type 0 where
  pub front : List Looked
  pub back : List Looked
  pub old : fs ≡ front ++ back
  pub new : fs' ≡ front ++ find ∷ back

-- one of these has the slot
abbrev pub IsSlotUsed : ℕ → List Looked → Type 0
IsSlotUsed slot fs = AnyOf (λ f. f.label.slot ≡ slot) fs

-- The device is kept.
pub record IsKept (name : Word) (label : Label) (seen : Seen) (fs fs' : List Looked) : Type 0 where
  pub find : Looked
  pub name_is : find.device ≡ name
  pub label_is : find.label ≡ label
  pub seen_is : find.seen ≡ seen
  pub readable : find.readable ≡ true
  pub put : IsPut find fs fs'

-- a device with a header that names the group and its size is kept, unless its slot is used
abbrev pub KeepEnds : Word → Word → Label → Seen → List Looked → List Looked → Shelved → Shelved → Type 0
KeepEnds group name label seen fs fs' old new =
    (IsReturned name seen old new × (fs' ≡ fs) × (label.group ≡ group → label.sectors ≡ seen.sectors → IsSlotUsed label.slot fs))
    ⊎ ((new ≡ old) × (label.group ≡ group) × (label.sectors ≡ seen.sectors) × IsKept name label seen fs fs')

-- why a device is given back
abbrev pub WhyBack : Passed → Word → Seen → Seen → List Looked → Type 0
WhyBack Done group seen after fs = (label : Label) → IsNaming group label seen → Rose seen.faults after.faults ⊎ IsSlotUsed label.slot fs
WhyBack Cut group seen after fs = after.cut ≡ true
WhyBack OutOfMemory group seen after fs = ⊥

-- a device of the group is kept
pub record IsFound (group name : Word) (seen after : Seen) (fs fs' : List Looked) : Type 0 where
  pub label : Label
  pub kept : IsKept name label after fs fs'
  pub is : IsFind group kept.find
  pub only : (other : Label) → IsNaming group other seen → other ≡ label

-- a device that was read is given back, or kept
abbrev pub LookBy : Passed → Word → Word → Seen → Seen → List Looked → List Looked → Shelved → Shelved → Type 0
LookBy result group name seen after fs fs' old new =
    (IsReturned name after old new × (fs' ≡ fs) × WhyBack result group seen after fs)
    ⊎ ((result ≡ Done) × (new ≡ old) × IsFound group name seen after fs fs')

-- a device that was taken is read, and then kept or given back
pub record LookEnds (result : Passed) (group name : Word) (seen : Seen) (fs fs' : List Looked) (old new : Shelved) : Type 0 where
  pub after : Seen
  pub kept : Keeps seen after
  pub same : IsRead seen after
  pub most : after.reads ≤ seen.reads + 1
  pub ends : LookBy result group name seen after fs fs' old new

-- a device that nobody held and that names the group has failed, or one of its slot is found
abbrev pub IsMet : Word → Word → Scene → Scene → List Looked → Type 0
IsMet group name old new fs =
    (seen : Seen) (label : Label) → held_as old.taken name ≡ None → seen_at old name ≡ Some seen → IsNaming group label seen
    → Rose (faults_at old name) (faults_at new name) ⊎ HasSlot label.slot name fs

-- some device is cut, where the shelf tells its devices
abbrev pub IsSomeCut : Scene → Scene → Type 0
IsSomeCut old new = IsSome old.shelf.free → (name : Word) × (seen : Seen) × (seen_at new name ≡ Some seen) × (seen.cut ≡ true)

-- the device was looked at, or the shelf has failed
abbrev pub PassedBy : Passed → Word → Word → Scene → Scene → List Looked → Type 0
PassedBy Done group name old new fs = Rose old.shelf.faults new.shelf.faults ⊎ IsMet group name old new fs
PassedBy Cut group name old new fs = IsSomeCut old new
PassedBy OutOfMemory group name old new fs = Unit {0}

-- the device was not read; or it is one of these, nobody held it, and one sector of it was read at most
abbrev pub IsHeaderRead : List Word → Scene → Scene → Word → Type 0
IsHeaderRead names old new name = (reads_at new name ≡ reads_at old name) ⊎ ((is_among name names ≡ true) × (held_as old.taken name ≡ None) × (reads_at new name ≤ reads_at old name + 1))

-- of each of these devices that nobody held one sector was read at most, and nothing of another
abbrev pub HeadersRead : List Word → Scene → Scene → Type 0
HeadersRead names old new = (name : Word) → IsHeaderRead names old new name

-- One device was passed: all that is held is held as whole devices, and each was only read.
pub record PassGoes (result : Passed) (group name : Word) (old new : Scene) (fs : List Looked) : Type 0 where
  pub held : AreHeld new.shelf.held new.taken
  pub reads : OnlyRead old new
  pub headers : IsSome old.shelf.free → HeadersRead (name ∷ []) old new
  pub ends : PassedBy result group name old new fs

-- Each device of these names was looked at, but for some, and for each of those the shelf has failed.
pub record AreMet (group : Word) (names : List Word) (old new : Scene) (fs : List Looked) : Type 0 where
  pub excused : List Word
  pub shelf : RoseBy (length excused) old.shelf.faults new.shelf.faults
  pub met : AllOf (λ name. (is_among name excused ≡ true) ⊎ IsMet group name old new fs) names

-- each device of these names was looked at; or some device is cut; or memory is wanting
abbrev pub GatheredBy : Passed → Word → List Word → Scene → Scene → List Looked → Type 0
GatheredBy Done group names old new fs = AreMet group names old new fs
GatheredBy Cut group names old new fs = IsSomeCut old new
GatheredBy OutOfMemory group names old new fs = Unit {0}

-- The devices of these names were passed, one after the other.
pub record GatherGoes (result : Passed) (group : Word) (names : List Word) (old new : Scene) (fs : List Looked) : Type 0 where
  pub held : AreHeld new.shelf.held new.taken
  pub reads : OnlyRead old new
  pub headers : IsSome old.shelf.free → HeadersRead names old new
  pub ends : GatheredBy result group names old new fs

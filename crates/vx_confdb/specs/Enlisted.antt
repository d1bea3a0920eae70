-- What a call writes to the disks that join a group by it, sector by sector and call by call.
use Rattle.std.specs.Prelude.{◌≡◌, ◌⊎◌, ℕ, ◌+◌, ◌-◌, ◌*◌, ◌≤◌, List, [], ◌∷◌, ◌++◌, length, map, take, drop, Option, Some, None, Result, Ok, Err}
use Rattle.vx_base.specs.Blocks.{Contents}
use Rattle.vx_base.specs.Named.{Word}
use Rattle.vx_sector.specs.Fields.{zeros}
use Rattle.vx_header.specs.Named.{Label, header_of}
use Rattle.vx_piece.specs.Seen.{Seen}
use Rattle.vx_copies.specs.Lists.{Each}
use Rattle.vx_copies.specs.Disks.{DiskSeen, disk_seen}
use Rattle.vx_copies.specs.Written.{BothTell, IsTurned, Touches, IsMaskOf, IsQuiet, WritesJust, IsDone, sectors_of, in_both}
use Rattle.vx_copies.specs.declared.disk.Disk.{Disk}
use Rattle.vx_confdb.specs.Prepare.{label_in}
use Rattle.vx_confdb.specs.Groups.{members}
use Rattle.vx_confdb.specs.declared.founding.Refused.{Refused}
use Rattle.vx_confdb.specs.declared.fault.GroupFault.{GroupFault}
use Rattle.vx_confdb.specs.declared.group.Group.{Group}

-- the toggle has a sequence of this call and one of its masks, and names a half that holds the text
pub record IsTurnedTo (first last : ℕ) (text : List ℕ) (Masks : ℕ → Type 0) (contents : Contents) : Type 0 where
  pub half : ℕ
  pub turned : IsTurned first last text Masks half contents

-- all is as before; or the header is, and the toggle is zero; or the header says the label, and the toggle is zero or of this call
abbrev pub Comes : Label → ℕ → ℕ → List ℕ → (ℕ → Type 0) → Contents → Contents → Type 0
Comes label first last text Masks old new =
    (new ≡ old) ⊎ ((new 0 ≡ old 0) × (new 1 ≡ zeros 512)) ⊎ ((header_of (new 0) ≡ Some label) × ((new 1 ≡ zeros 512) ⊎ IsTurnedTo first last text Masks new))

-- each sector behind the header and the toggle is as it was, or in a half the one of the text
abbrev pub BehindOldOrText : List ℕ → Contents → Contents → Type 0
BehindOldOrText text old new = (k : ℕ) → 2 ≤ k → (new k ≡ old k) ⊎ (new k ≡ in_both text old k)

-- what a call does to a disk that joins by it: a first toggle, a header, and the attempts of these sequences
pub record Enlists (group : Word) (first last : ℕ) (text : List ℕ) (Masks : ℕ → Type 0) (old new : DiskSeen) : Type 0 where
  pub comes : BothTell (Comes (label_in group old) first last text Masks) old.seen.told new.seen.told
  pub only : BothTell (BehindOldOrText text) old.seen.told new.seen.told
  pub reads : new.seen.reads ≡ old.seen.reads
  pub writes : new.seen.writes ≤ old.seen.writes + (2 + (last + 1 - first) * sectors_of text)

-- what the making of a group writes, with sequences up to this one
pub record AreEnlisted (group : Word) (last : ℕ) (text : List ℕ) (old new : List DiskSeen) : Type 0 where
  pub enlists : Each (Enlists group 1 last text (IsMaskOf old new)) old new
  pub once : Each IsQuiet old new → last ≤ 1

-- what is left where no group was made: some attempts came, up to 32
pub record AreBegun (group : Word) (text : List ℕ) (old new : List DiskSeen) : Type 0 where
  pub last : ℕ
  pub few : last ≤ 32
  pub are : AreEnlisted group last text old new

-- a group that was made has a good disk, and each good disk carries the text
pub record IsMadeOf (group : Word) (sequence : ℕ) (text : List ℕ) (old new : List DiskSeen) : Type 0 where
  pub are : AreEnlisted group sequence text old new
  pub done : IsDone (length new) sequence text new
  pub exact : Each IsQuiet old new → Each (WritesJust (2 + sectors_of text)) old new

-- a group is made and writes so, or the disks that are given back have this
abbrev pub CreateWrites : {P : Type 0} → (P → Seen) → Result (Group P) (Refused P) → Word → List ℕ → List (Disk P) → Type 0
CreateWrites see (Ok g) name text old = IsMadeOf name g.sequence text (map (disk_seen see) old) (members see g)
CreateWrites see (Err r) name text old = AreBegun name text (map (disk_seen see) old) (map (disk_seen see) r.disks.items)

-- what the taking of a disk writes to it and to the others; the masks have slots of those that were good and of the new one
pub record IsEnlisted (group : Word) (first last count : ℕ) (text : List ℕ) (old new : List DiskSeen) : Type 0 where
  pub touches : Each (Touches first last text (IsMaskOf old new)) (take count old) (take count new)
  pub enlists : Each (Enlists group first last text (IsMaskOf old new)) (drop count old) (drop count new)
  pub once : Each IsQuiet old new → last ≤ first

-- a disk is left that was good, each good disk carries the text, and each write came once
pub record IsAddedTo (sequence count : ℕ) (text : List ℕ) (old new : List DiskSeen) : Type 0 where
  pub done : IsDone count sequence text new
  pub exact : Each IsQuiet old new → Each (WritesJust (sectors_of text)) (take count old) (take count new) × Each (WritesJust (2 + sectors_of text)) (drop count old) (drop count new)

-- the members, and behind them the disk that joins
abbrev pub with_disk : {P : Type 0} → (P → Seen) → Group P → Disk P → List DiskSeen
with_disk see g disk = members see g ++ disk_seen see disk ∷ []

-- what `AddGives` tells of a disk that is given back is all there is to say
abbrev pub AddWrites : {P : Type 0} → (P → Seen) → Result (Unit {0}) (GroupFault × Option (Disk P)) → List ℕ → Disk P → Group P → Group P → Type 0
AddWrites see (Ok u) text disk old new =
    IsEnlisted old.name (old.sequence + 1) new.sequence (length old.disks.items) text (with_disk see old disk) (members see new)
    × IsAddedTo new.sequence (length old.disks.items) text (with_disk see old disk) (members see new)
AddWrites see (Err (f, None)) text disk old new = IsEnlisted old.name (old.sequence + 1) new.sequence (length old.disks.items) text (with_disk see old disk) (members see new)
AddWrites see (Err (f, Some back)) text disk old new = Unit {0}

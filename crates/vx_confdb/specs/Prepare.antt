-- How a disk becomes a member of a group.
use Rattle.std.specs.Prelude.{◌≡◌, ◌⊎◌, ℕ, ◌+◌, ◌<◌, ◌≤◌, ◌^◌, true, IsTrue, List, Option, Some, None, MatchOption}
use Rattle.vx_base.specs.Blocks.{Contents}
use Rattle.vx_base.specs.Named.{Word}
use Rattle.vx_header.specs.Named.{Label, header_of}
use Rattle.vx_header.specs.Sectors.{is_short_name}
use Rattle.vx_piece.specs.Seen.{Seen, Keeps}
use Rattle.vx_copies.specs.Lists.{Each, AllOf, AnyOf}
use Rattle.vx_sector.specs.Fields.{zeros}
use Rattle.vx_copies.specs.Image.{offer_told}
use Rattle.vx_copies.specs.Disks.{DiskSeen, IsCut, IsReady, Drops, RestStays}
use Rattle.vx_copies.specs.Written.{BothTell, WritesJust}
use Rattle.vx_copies.specs.declared.disk.Disk.{Disk}
use Rattle.vx_confdb.specs.declared.joining.Prepared.{Prepared}
use Rattle.vx_confdb.specs.declared.joining.Prepared.TheVariants.{Done, Cut}

-- the private region of a disk that may become a member of the group
pub record IsFresh {P : Type 0} (see : P → Seen) (group : Word) (d : Disk P) : Type 0 where
  pub good : d.good ≡ true
  pub slot : d.slot < 32
  pub half : d.half < 2
  pub private : 2048 ≤ (see d.piece).sectors
  pub group_short : IsTrue (is_short_name group)
  pub name_short : IsTrue (is_short_name d.name)
  pub public : 2048 < d.sectors
  pub at_most : d.sectors ≤ 2 ^ 40

-- the sector of the toggle is zero
abbrev pub IsBlank : Option Contents → Type 0
IsBlank None = Unit {0}
IsBlank (Some contents) = contents 1 ≡ zeros 512

-- what the header of a member says
abbrev pub label_in : Word → DiskSeen → Label
label_in group h = record { group = group; disk = h.name; slot = h.slot; sectors = h.sectors }

-- the header says this
abbrev pub Says : Label → Option Contents → Type 0
Says label None = Unit {0}
Says label (Some contents) = header_of (contents 0) ≡ Some label

-- the header names the group, the disk, its slot and the sectors of its device
abbrev pub IsHeaded : Word → DiskSeen → Type 0
IsHeaded group h = Says (label_in group h) h.seen.told

-- The private region is as before; or its toggle is zero, and its header the old one or the label's. What is behind the
-- halves stays.
abbrev pub Begins : Label → Option Contents → Option Contents → Type 0
Begins label None None = Unit {0}
Begins label None (Some new) = ⊥
Begins label (Some old) None = ⊥
Begins label (Some old) (Some new) =
    ((new ≡ old) ⊎ ((new 0 ≡ old 0) × (new 1 ≡ zeros 512)) ⊎ ((header_of (new 0) ≡ Some label) × (new 1 ≡ zeros 512))) × RestStays old new

-- the sectors behind those of the header and the toggle stay
abbrev pub OnlyFront : Contents → Contents → Type 0
OnlyFront old new = (k : ℕ) → 2 ≤ k → new k ≡ old k

-- the header and the toggle alone are written, in so many sectors at most
pub record Fronts (most : ℕ) (old new : DiskSeen) : Type 0 where
  pub only : BothTell OnlyFront old.seen.told new.seen.told
  pub reads : new.seen.reads ≡ old.seen.reads
  pub writes : new.seen.writes ≤ old.seen.writes + most

pub record Prepares (group : Word) (old new : DiskSeen) : Type 0 where
  pub slot : new.slot ≡ old.slot
  pub name : new.name ≡ old.name
  pub device : new.device ≡ old.device
  pub size : new.sectors ≡ old.sectors
  pub half : new.half ≡ old.half
  pub kept : Keeps old.seen new.seen
  pub good : Drops old.good new.good old.seen new.seen
  pub told : Begins (label_in group old) old.seen.told new.seen.told

-- ready for a commit, and a member without a configuration, where it is good
pub record IsPrepared (group : Word) (h : DiskSeen) : Type 0 where
  pub ready : IsReady h
  pub blank : IsTrue h.good → IsBlank h.seen.told
  pub headed : IsTrue h.good → IsHeaded group h

abbrev pub PrepareEnds : Prepared → Word → DiskSeen → Type 0
PrepareEnds Done group h = IsPrepared group h
PrepareEnds Cut group h = IsCut h

abbrev pub AllPrepared : Prepared → Word → List DiskSeen → Type 0
AllPrepared Done group hs = AllOf (IsPrepared group) hs
AllPrepared Cut group hs = AnyOf IsCut hs

pub record AreJoined (result : Prepared) (group : Word) (old new : List DiskSeen) : Type 0 where
  pub prepares : Each (Prepares group) old new
  pub ends : AllPrepared result group new
  pub fronts : Each (Fronts 2) old new
  pub just : result ≡ Done → Each (WritesJust 2) old new

-- the device offers nothing in the group
abbrev pub OffersNone : Word → DiskSeen → Type 0
OffersNone group h = offer_told group h.seen.told ≡ None

-- the disk tells what it holds
abbrev pub Tells : DiskSeen → Type 0
Tells h = MatchOption h.seen.told ⊥ (λ contents. Unit {0})

-- What the making of a group leaves.
use Rattle.std.specs.Prelude.{◌≡◌, ◌⊎◌, ℕ, ◌<◌, ◌≤◌, Bool, List, length, map, Option, Some, None, Result, Ok, Err, MatchOption}
use Rattle.vx_base.specs.Blocks.{Contents}
use Rattle.vx_base.specs.Named.{Word}
use Rattle.vx_sector.specs.Fields.{zeros}
use Rattle.vx_header.specs.Named.{Label, header_of}
use Rattle.vx_piece.specs.Seen.{Seen, Keeps}
use Rattle.vx_copies.specs.Lists.{Each, AnyOf}
use Rattle.vx_copies.specs.Image.{Offer, offer_of}
use Rattle.vx_copies.specs.Disks.{DiskSeen, disk_seen, Drops, IsCut, RestStays}
use Rattle.vx_copies.specs.Config.{configuration}
use Rattle.vx_copies.specs.Chain.{AreInOrder}
use Rattle.vx_copies.specs.Commit.{HasRisen}
use Rattle.vx_copies.specs.declared.disk.Disk.{Disk}
use Rattle.vx_confdb.specs.Prepare.{label_in}
use Rattle.vx_confdb.specs.Groups.{members, CarriesText}
use Rattle.vx_confdb.specs.declared.founding.Refused.{Refused}
use Rattle.vx_confdb.specs.declared.fault.GroupFault.{GroupFault}
use Rattle.vx_confdb.specs.declared.fault.GroupFault.TheVariants as fault
use Rattle.vx_confdb.specs.declared.group.Group.{Group}

-- what the private region offers is the text
abbrev pub OffersText : List ℕ → Contents → Type 0
OffersText text contents = MatchOption (offer_of contents) ⊥ (λ o. o.text ≡ text)

-- The private region is as before; or its header stays and its toggle is zero; or its header says the label, and its toggle
-- is zero or it offers the text. What is behind the halves stays.
abbrev pub Enters : Label → List ℕ → Option Contents → Option Contents → Type 0
Enters label text None None = Unit {0}
Enters label text None (Some new) = ⊥
Enters label text (Some old) None = ⊥
Enters label text (Some old) (Some new) =
    ((new ≡ old) ⊎ ((new 0 ≡ old 0) × (new 1 ≡ zeros 512)) ⊎ ((header_of (new 0) ≡ Some label) × ((new 1 ≡ zeros 512) ⊎ OffersText text new))) × RestStays old new

-- a disk that joins a group keeps its slot and its piece, and is good unless it failed
pub record Joins (group : Word) (text : List ℕ) (old new : DiskSeen) : Type 0 where
  pub slot : new.slot ≡ old.slot
  pub name : new.name ≡ old.name
  pub device : new.device ≡ old.device
  pub size : new.sectors ≡ old.sectors
  pub kept : Keeps old.seen new.seen
  pub good : Drops old.good new.good old.seen new.seen
  pub told : Enters (label_in group old) text old.seen.told new.seen.told

-- whichever disks can be read, they give no configuration of the group, or the text
abbrev pub GivesNoneOrText : Word → List ℕ → List DiskSeen → Type 0
GivesNoneOrText name text hs = (readable : ℕ → Bool) → (configuration name readable hs ≡ None) ⊎ ((o : Offer) × (configuration name readable hs ≡ Some o) × (o.text ≡ text))

-- what a group that was begun leaves of the disks
pub record IsBegun (name : Word) (text : List ℕ) (old new : List DiskSeen) : Type 0 where
  pub joins : Each (Joins name text) old new
  pub none_or_text : GivesNoneOrText name text new
  pub order : AreInOrder name 0 new

abbrev pub RefusedBy : {P : Type 0} → (P → Seen) → GroupFault → Word → List ℕ → List (Disk P) → List (Disk P) → Type 0
RefusedBy see fault.OutOfMemory name text old new = new ≡ old
RefusedBy see (fault.TooLong n) name text old new = (n ≡ length text) × (522240 < n) × (new ≡ old)
RefusedBy see fault.GroupLost name text old new = IsBegun name text (map (disk_seen see) old) (map (disk_seen see) new) × Each HasRisen (map (disk_seen see) old) (map (disk_seen see) new)
RefusedBy see fault.PowerLost name text old new = IsBegun name text (map (disk_seen see) old) (map (disk_seen see) new) × AnyOf IsCut (map (disk_seen see) new)

pub record IsFounded {P : Type 0} (see : P → Seen) (name : Word) (text : List ℕ) (old : List (Disk P)) (g : Group P) : Type 0 where
  pub name_is : g.name ≡ name
  pub few : g.sequence ≤ 32
  pub begun : IsBegun name text (map (disk_seen see) old) (members see g)
  pub carries : CarriesText see 1 text g

-- the group carries the text, or the disks are given back
abbrev pub CreateGives : {P : Type 0} → (P → Seen) → Result (Group P) (Refused P) → Word → List ℕ → List (Disk P) → Type 0
CreateGives see (Ok g) name text old = IsFounded see name text old g
CreateGives see (Err r) name text old = RefusedBy see r.fault name text old r.disks.items

abbrev pub IsTooLong : {P : Type 0} → ℕ → Result (Group P) (Refused P) → Type 0
IsTooLong n (Ok g) = ⊥
IsTooLong n (Err r) = r.fault ≡ fault.TooLong n

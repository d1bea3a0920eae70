-- What stays sound while volumes are started and a group is imported.
use Rattle.std.specs.Prelude.{◌≡◌, ◌==◌, ℕ, ◌≤◌, true, List, Some, None, MatchOption}
use Rattle.std.specs.List.{list_any}
use Rattle.vx_base.specs.Named.{Word}
use Rattle.vx_mask.specs.Mask.{has}
use Rattle.vx_header.specs.Named.{Label, header_of}
use Rattle.vx_life.specs.Candidates.{IsAmong}
use Rattle.vx_copies.specs.Lists.{AllOf, AnyOf}
use Rattle.vx_copies.specs.Image.{Offer}
use Rattle.vx_moments.specs.Copies.{IsTextOf, label_of}
use Rattle.vx_moments.specs.Holding.{IsLent, has_volume}
use Rattle.vx_moments.specs.Leaving.{lone}
use Rattle.vx_moments.specs.World.{World, Device, Volume, Member, Group, Lies, OnDevice, OnPlexes}
use Rattle.vx_sound.specs.Offers.{Offers}
use Rattle.vx_sound.specs.Sound.{AreSound}

-- no value that the first block may hold is a header
abbrev pub FrontHoldsNone : Volume → Type 0
FrontHoldsNone v = (value : List ℕ) → IsAmong (v.life.candidates 0) value → header_of value ≡ None

abbrev pub HoldsNoneOn : Lies → Volume → Type 0
HoldsNoneOn (OnDevice device) v = FrontHoldsNone v
HoldsNoneOn (OnPlexes plexes) v = Unit {0}

-- so it is where the volume lies on a whole device
abbrev pub HoldsNoHeader : Volume → Type 0
HoldsNoHeader v = HoldsNoneOn v.lies v

-- the member's device is there, no started volume lies on it, and a header on it is that of the member
pub record IsOwn (dg : Word) (w : World) (m : Member) : Type 0 where
  pub device : Device
  pub is : w.devices m.device ≡ Some device
  pub apart : IsLent w m.device → ⊥
  pub header : (label : Label) → header_of (device.contents 0) ≡ Some label → label ≡ label_of dg m device

-- a good member offers the group's configuration, under its sequence and mask
pub record Carries (w : World) (g : Group) (m : Member) : Type 0 where
  pub text : List ℕ
  pub text_is : IsTextOf g.config text
  pub offers : Offers g.config.group w m.device m.slot (record { sequence = g.sequence; good = g.good; text = text })

-- The imported group has the newest configuration of all its devices, and records its members.
pub record IsLeading (w : World) (g : Group) : Type 0 where
  pub own : AllOf (IsOwn g.config.group w) g.members
  pub carrying : AllOf (λ m. has g.good m.slot ≡ true → Carries w g m) g.members
  pub newest : (name : Word) (slot : ℕ) (o : Offer) → Offers g.config.group w name slot o → o.sequence ≤ g.sequence
  pub some : AnyOf (λ m. has g.good m.slot ≡ true) g.members
  pub recorded : AllOf (λ m. list_any (λ d. d.slot == m.slot) g.config.disks ≡ true) g.members

-- no started volume that lies on a whole device has the name of one that the imported group records
abbrev pub NamesAreApart : World → Type 0
NamesAreApart w = (vol : Word) → has_volume w.group vol ≡ true → lone (w.volumes vol) ≡ None

-- the world is sound: the copies of each group are chained, the imported one leads, no started volume holds a header, and none that lies
-- on a whole device has a name that the group records
pub record IsStanding (w : World) : Type 0 where
  pub copies : AreSound w
  pub group : MatchOption w.group (Unit {0}) (IsLeading w)
  pub volumes : (vol : Word) (v : Volume) → w.volumes vol ≡ Some v → HoldsNoHeader v
  pub names : NamesAreApart w

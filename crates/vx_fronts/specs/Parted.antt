-- Disks of which the devices are in pieces: the fronts, and the pieces behind them.
use Rattle.std.specs.Prelude.{◌≡◌, ℕ, ◌-◌, ◌≤◌, List, ◌∷◌, ◌++◌, map}
use Rattle.std.specs.List.{All}
use Rattle.vx_piece.specs.Seen.{Seen}
use Rattle.vx_carve.specs.Together.{AreOnce, HasSome, IsFree, SameSectors, TellsFront, has_at, owners}
use Rattle.vx_copies.specs.Disks.{DiskSeen}
use Rattle.vx_copies.specs.Lists.{AllOf, AnyOf, Each}
use Rattle.vx_fronts.specs.Rests.{AllTell, rests_of, untold}
use Rattle.vx_fronts.specs.Laws.{whole_disks}

-- the piece begins its device, and has its private region
pub record IsFront (h : DiskSeen) : Type 0 where
  pub start : h.seen.start ≡ 0
  pub private : 2048 ≤ h.seen.sectors

-- the pieces have each sector of the disk's device once, and none behind its last
abbrev pub HasDevice : List Seen → DiskSeen → Type 0
HasDevice ps h = (k : ℕ) → owners h.seen.device k ps ≡ has_at h.seen.device 0 h.sectors h.seen.device k

-- some disk is of the piece's device
abbrev pub IsOfSome : List DiskSeen → Seen → Type 0
IsOfSome disks p = AnyOf (λ h. h.seen.device ≡ p.device) disks

abbrev pub fronts_of : List DiskSeen → List Seen
fronts_of disks = map (λ (h : DiskSeen). h.seen) disks

-- The fronts of these disks and the pieces behind them are together the devices, each sector once.
pub record AreParted (disks : List DiskSeen) (behind : List Seen) : Type 0 where
  pub fronts : AllOf IsFront disks
  pub each : AllOf (HasDevice (fronts_of disks ++ behind)) disks
  pub own : All (IsOfSome disks) behind
  pub some : All HasSome behind
  -- where all fronts tell what they hold, so do all pieces behind
  pub tell : AllTell (fronts_of disks) → AllTell behind

-- the piece is the whole device
abbrev pub IsWhole : DiskSeen → Type 0
IsWhole h = h.seen.sectors ≡ h.sectors

-- the piece is no more than the private region
abbrev pub IsCutShort : DiskSeen → Type 0
IsCutShort h = h.seen.sectors ≤ 2048

-- ---- disks that are parted otherwise

-- the same disk, of which the front is another piece of its device
pub record IsSameDisk (old new : DiskSeen) : Type 0 where
  pub name : new.name ≡ old.name
  pub device : new.device ≡ old.device
  pub slot : new.slot ≡ old.slot
  pub size : new.sectors ≡ old.sectors
  pub good : new.good ≡ old.good
  pub half : new.half ≡ old.half
  pub number : new.seen.device ≡ old.seen.device
  pub start : new.seen.start ≡ old.seen.start
  pub stop : new.seen.stop ≡ old.seen.stop
  -- it has the private region still, and tells of it what the other did, or nothing
  pub private : 2048 ≤ old.seen.sectors → 2048 ≤ new.seen.sectors
  pub told : TellsFront 2048 old.seen.told new.seen.told

-- the front begins its device, is not longer than that, and all sectors behind it are in one of the pieces, each once
pub record IsJoinable (h : DiskSeen) (still : List Seen) : Type 0 where
  pub front : IsFront h
  pub fits : h.seen.sectors ≤ h.sectors
  pub once : AreOnce (h.seen ∷ still)
  pub free : IsFree h.seen.device h.seen.sectors (h.sectors - h.seen.sectors) still

-- one disk is parted otherwise: its front and the pieces behind are together what they were
pub record RepartsOne (old new : DiskSeen) (still still' : List Seen) : Type 0 where
  pub disk : IsSameDisk old new
  pub pieces : SameSectors (old.seen ∷ still) (new.seen ∷ still')

-- so are all disks of a list
pub record Reparts (old new : List DiskSeen) (still still' : List Seen) : Type 0 where
  pub disks : Each IsSameDisk old new
  pub pieces : SameSectors (fronts_of old ++ still) (fronts_of new ++ still')

-- The same disks, parted otherwise, with the same whole devices.
pub record AreSameWhole (lent : List Seen) (old new : List DiskSeen) (still still' : List Seen) : Type 0 where
  pub disks : Each IsSameDisk old new
  pub parted : AreParted new (still' ++ lent)
  pub counts : map untold (whole_disks (rests_of still' lent) new) ≡ map untold (whole_disks (rests_of still lent) old)
  -- where all fronts tell what they hold, so they do still, and the devices hold what they did
  pub tell : AllTell (fronts_of old) → AllTell (fronts_of new)
  pub whole : AllTell (fronts_of old) → whole_disks (rests_of still' lent) new ≡ whole_disks (rests_of still lent) old

-- A started volume by its regions, as the core of a region has them: what its life says of them, and the bytes that they leave.
use Rattle.std.specs.Prelude.{◌≡◌, ◌⊎◌, ℕ, ◌/◌, ◌<◌, Bool, true, false, Contains}
use Rattle.vx_life.specs.Entry.{candidates_of}
use Rattle.vx_life.specs.Life.{Life}
use Rattle.vx_mask.specs.Mask.{has}
use Rattle.vx_core.specs.declared.stage.Phase.TheVariants.{Settled}
use Rattle.vx_core.specs.Region.{RegionState, told}
use Rattle.vx_core.specs.Soundness.{IsBetween}
use Rattle.vx_image.specs.Image.{PlexImage, LogCopy, Image, regions_of, is_stale}

-- the regions of a started volume, by their numbers
abbrev pub Regions : Type 0
Regions = ℕ → RegionState

-- The bytes of a data plex that is held are those that the regions have, for a volume of this length and region size: each block
-- is that of its own region. What lies on disks that are not good is nobody's.
pub record IsPlexOfRegions (length size : ℕ) (regions : Regions) (p : PlexImage) : Type 0 where
  pub values : p.held ≡ true → (b : ℕ) → b < length → p.values b ≡ (regions (b / size)).around.disks.blocks p.map b
  pub held : (r : ℕ) → p.held ≡ true → (regions r).around.fixed.held p.map ≡ true
  -- a plex that is recorded stale is off, or all is settled while that record is written
  pub stale : (r : ℕ) → p.held ≡ true → is_stale p ≡ true → (has (regions r).stage.off p.map ≡ true) ⊎ ((regions r).stage.phase ≡ Settled)

-- The marks of a copy of the log are those of one that the regions have; without a log nothing is marked.
pub record IsCopyOfRegions (regions : Regions) (c : LogCopy) : Type 0 where
  pub copy : ℕ
  pub logged : (r : ℕ) → (regions r).stage.logged ≡ true → (copy < (regions r).around.fixed.copies) × ((k : ℕ) → c r k ≡ (regions r).around.disks.marks.shows copy k)
  pub plain : (r : ℕ) → (regions r).stage.logged ≡ false → (k : ℕ) → c r k ≡ false

-- each copy marks the plex in every region
abbrev pub IsMarkedEverywhere : Image → PlexImage → Type 0
IsMarkedEverywhere v p = (c : LogCopy) → Contains v.copies c → (r : ℕ) → r < regions_of v → c r p.map ≡ true

-- The regions leave the image on the disks, at any moment, also between a commit and what it records. A disk may have been
-- dropped: then a plex is held no longer, or a copy does not count. A plex may be recorded that the regions do not have yet: it
-- is marked everywhere. And a plex that the regions still have may be recorded no longer: another is current.
pub record LeaveImage (regions : Regions) (v : Image) : Type 0 where
  pub sized : 0 < v.region
  pub plexes : (p : PlexImage) → Contains v.plexes p → IsPlexOfRegions v.length v.region regions p ⊎ IsMarkedEverywhere v p
  pub copies : (c : LogCopy) → Contains v.copies c → IsCopyOfRegions regions c
  pub current : (r : ℕ) (B : ℕ → Bool) → IsBetween (regions r).stage (regions r).stage.phase (regions r).around B →
      (p : PlexImage) × Contains v.plexes p × (B p.map ≡ false) × IsPlexOfRegions v.length v.region regions p
  pub snaps : (m : ℕ) → Contains v.snaps m → (r : ℕ) → has (regions r).stage.snaps m ≡ true

-- The life speaks of these regions: a block's candidates are those of its region's history, with the pending call as if it
-- ended now, and the last numbers are the regions'.
pub record IsLifeOf (length size : ℕ) (life : Life) (regions : Regions) : Type 0 where
  pub candidates : (b : ℕ) → b < length → life.candidates b ≡ candidates_of (regions (b / size)).around.fixed.first (told (regions (b / size)).around) b
  pub last : (r : ℕ) → life.last r ≡ (regions r).around.last

-- all regions are settled
abbrev pub AllSettled : Regions → Type 0
AllSettled regions = (r : ℕ) → (regions r).stage.phase ≡ Settled

-- Two sets of regions go with the marks of a map: it is marked in each region of the lower set, and a copy shows it only in
-- those of the upper one.
pub record GoWith (regions : Regions) (k : ℕ) (lower upper : ℕ → Bool) : Type 0 where
  pub sure : (r : ℕ) → lower r ≡ true → has (regions r).stage.bits k ≡ true
  pub possible : (r n : ℕ) → n < (regions r).around.fixed.copies → (regions r).around.disks.marks.shows n k ≡ true → upper r ≡ true

-- What the pieces of a started volume hold is what the image of the volume is made of.
use Rattle.std.specs.Prelude.{◌≡◌, ℕ, ◌+◌, ◌<◌, true, false, List, slice_index}
use Rattle.std.specs.List.{All}
use Rattle.vx_base.specs.Blocks.{Contents}
use Rattle.vx_mask.specs.Mask.{has}
use Rattle.vx_cell.specs.Plexes.{PlexSeen}
use Rattle.vx_cell.specs.Region.{marks_or}
use Rattle.vx_carve.specs.Together.{Holds}
use Rattle.vx_marks.specs.Log.{LogSeen}
use Rattle.vx_image.specs.Image.{LogCopy}
use Rattle.vx_image.specs.Bytes.{Sectors}
use Rattle.vx_lending.specs.RegionPieces.{all_pieces}

-- the sectors of the public region of each good disk are those of its device from sector 2,048 on
abbrev pub AreSectorsOf : ℕ → List ℕ → (ℕ → Contents) → Sectors → Type 0
AreSectorsOf good numbers contents bytes = (slot sector : ℕ) → has good slot ≡ true → bytes slot sector ≡ contents (slice_index numbers slot) (2048 + sector)

-- the pieces of the regions hold what the devices do
abbrev pub HoldRegions : (ℕ → Contents) → List (List PlexSeen) → Type 0
HoldRegions contents regions = All (Holds contents) (all_pieces regions)

-- In each of so many regions the log claims what the copy marks; each of its copies shows just that, and nothing is loose.
pub record ShowsCopy (log : LogSeen) (copy : LogCopy) (regions : ℕ) : Type 0 where
  pub claims : (r k : ℕ) → r < regions → log.claims r k ≡ copy r k
  pub shows : (r n k : ℕ) → r < regions → n < log.copies → (marks_or log.told r).shows n k ≡ copy r k
  pub tight : (r k : ℕ) → r < regions → (marks_or log.told r).loose k ≡ false

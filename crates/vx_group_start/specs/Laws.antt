-- What callers need of starts: how many regions are copied as a volume is started that never was, and what becomes of pieces.
use Rattle.std.specs.Prelude.{◌≡◌, ℕ, ◌<◌, ◌^◌, true, false, List, ◌++◌, length}
use Rattle.std.specs.List.{list_any, All}
use Rattle.vx_base.specs.Blocks.{Contents}
use Rattle.vx_piece.specs.Seen.{Seen}
use Rattle.vx_carve.specs.Together.{AreOnce, Holds, SameSectors, covers}
use Rattle.vx_fronts.specs.Rests.{AllTell, is_of, sector_in}
use Rattle.vx_mask.specs.Mask.{has}
use Rattle.vx_marks.specs.Log.{LogSeen}
use Rattle.vx_cell.specs.Plexes.{PlexSeen}
use Rattle.vx_volume.specs.declared.volume.VolumeShape.{VolumeShape}
use Rattle.vx_volume.specs.Opening.{IsOpened, count_of}
use Rattle.vx_volume.specs.Volume.{VolumeSeen}
use Rattle.vx_lending.specs.Going.{GoTogether}
use Rattle.vx_lending.specs.Logs.{marked_maps}
use Rattle.vx_lending.specs.Pieces.{copy_pieces}
use Rattle.vx_group_start.specs.Copying.{missed_regions}
use Rattle.vx_group_start.specs.Fresh.{maps_to_copy}
use Rattle.vx_group_start.specs.Together.{CountsStay, GoByCopies}

-- ---- regions

-- Opened by a log that marks just the data plexes save the lowest, a volume has those of them that are on to copy in all regions,
-- where there are any.
abbrev pub EachFreshRegionIsMissed : Type 0
EachFreshRegionIsMissed =
    (shape : VolumeShape) (log : LogSeen) (regions : List (List PlexSeen)) (v : VolumeSeen) → IsOpened shape log regions v → length regions ≡ count_of shape →
    shape.on < 2 ^ 64 → ((k : ℕ) → has shape.on k ≡ true → k < 32) → ((r k : ℕ) → r < count_of shape → log.claims r k ≡ marked_maps (maps_to_copy shape) k) →
    (some : ℕ) → has shape.on some ≡ true → has (maps_to_copy shape) some ≡ true → missed_regions (maps_to_copy shape) v ≡ count_of shape

-- ---- pieces out of which a volume was opened, or was to be

-- Pieces that go on by copies go on together, ..
abbrev pub CopiesGoTogether : Type 0
CopiesGoTogether = (copies : List (List Seen)) (old new : List Seen) → GoByCopies copies old new → GoTogether old new

-- .. and do so beside others, ..
abbrev pub CopiesGoBeside : Type 0
CopiesGoBeside = (copies : List (List Seen)) (old new others : List Seen) → GoByCopies copies old new → GoByCopies copies (old ++ others) (new ++ others)

-- .. and however they are moved, cut and joined before and afterwards.
abbrev pub CopiesGoAmong : Type 0
CopiesGoAmong = (copies : List (List Seen)) (old new ps qs : List Seen) → SameSectors ps old → GoByCopies copies old new → SameSectors new qs → GoByCopies copies ps qs

-- Where no sector is in two pieces and all tell, all tell afterwards, and hold what they did in each sector that no copy has, ..
abbrev pub CopiesChangeTheirOwn : Type 0
CopiesChangeTheirOwn =
    (copies : List (List Seen)) (old new : List Seen) → GoByCopies copies old new → AreOnce old → AllTell old →
    AllTell new × ((device k : ℕ) → list_any (covers device k) (copy_pieces copies) ≡ false → sector_in new device k ≡ sector_in old device k)

-- .. also where they hold a part of some contents, as the copies do then and now, ..
abbrev pub CopiesChangeContents : Type 0
CopiesChangeContents =
    (copies : List (List Seen)) (old new : List Seen) (go : GoByCopies copies old new) → AreOnce old → (contents : ℕ → Contents) → All (Holds contents) old →
    (later : ℕ → Contents) × All (Holds later) new × All (Holds contents) (copy_pieces copies) × All (Holds later) (copy_pieces go.later) × ((device k : ℕ) → list_any (covers device k) (copy_pieces copies) ≡ false → later device k ≡ contents device k)

-- .. and nothing is counted on a device of which no copy has a piece.
abbrev pub CopiesCountTheirOwn : Type 0
CopiesCountTheirOwn =
    (copies : List (List Seen)) (old new : List Seen) → GoByCopies copies old new → (device : ℕ) → list_any (is_of device) (copy_pieces copies) ≡ false →
    CountsStay device old new

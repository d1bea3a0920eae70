-- The copies that are taken for the log of a volume lie on its log plexes, and as they are called nothing but sectors of the volume changes.
use Rattle.std.specs.Prelude.{◌≡◌, ℕ, ◌<◌, ◌++◌, Bool, true, false, List, [], length, Contains, Option, slice_index_or}
use Rattle.std.specs.List.{All, list_any}
use Rattle.vx_base.specs.Blocks.{Contents}
use Rattle.vx_base.specs.Named.{Word}
use Rattle.vx_block.specs.Regions.{region_count}
use Rattle.vx_mask.specs.Mask.{has}
use Rattle.vx_piece.specs.Seen.{Seen}
use Rattle.vx_pages.specs.Sector.{KeepsPiece}
use Rattle.vx_maps.specs.Going.{CutCopiesGo}
use Rattle.vx_carve.specs.Carved.{HaveNumbers}
use Rattle.vx_carve.specs.Together.{Holds, covers}
use Rattle.vx_copies.specs.Disks.{DiskSeen}
use Rattle.vx_copies.specs.Lists.{AllOf, Each}
use Rattle.vx_fronts.specs.Laws.{whole_disks}
use Rattle.vx_fronts.specs.Parted.{AreParted}
use Rattle.vx_fronts.specs.Rests.{AllTell, is_of, rests_of}
use Rattle.vx_config_parts.specs.declared.plex.Plex.{Plex}
use Rattle.vx_config_parts.specs.declared.vol.Vol.{Vol}
use Rattle.vx_objects.specs.declared.config.Config.{Config}
use Rattle.vx_image.specs.Bytes.{Sectors, image_of, is_log_copy}
use Rattle.vx_image.specs.Narrowing.{IsNarrowed}
use Rattle.vx_image.specs.UsedPlexes.{used_logs}
use Rattle.vx_moments.specs.World.{Device, Group}
use Rattle.vx_moments.specs.Group.{ChangesOnly}
use Rattle.vx_lending.specs.declared.form.VolumeForm.{VolumeForm}
use Rattle.vx_lending.specs.Form.{IsFormOf}
use Rattle.vx_lending.specs.FormLaws.{AreNumbered, good_disks}
use Rattle.vx_lending.specs.Logs.{log_header}
use Rattle.vx_lending.specs.Pieces.{copy_pieces}
use Rattle.vx_lending.specs.Taken.{AreTakenCopies, log_sectors}
use Rattle.vx_volume_laws.specs.Contents.{AreSectorsOf}
use Rattle.vx_group_start.specs.Refused.{IsUnlogged}
use Rattle.vx_group_start.specs.Together.{CountsStay, GoByCopies, GoByLog}
use Rattle.vx_group_volumes.specs.Devices.{HasFailedOn, IsOwnDevice, LiesOnDevice}
use Rattle.vx_group_volumes.specs.Disks.{AreDevicesOf, DiskGoesOn, IsMemberOn, OtherDevicesStay}
use Rattle.vx_maps.specs.Narrowing.{AreNarrowed}
use Rattle.vx_group_volumes.specs.Places.{IsOwnSector}

-- ---- where copies lie

-- Each sector of a copy that was taken for the log of a volume of the form is one of the volume's, on a disk that is good, ..
abbrev pub EachTakenCopyIsOwn : Type 0
EachTakenCopyIsOwn =
    (c : Config) (good : ℕ) (v : Vol) (fresh : Bool) (form : VolumeForm) → IsFormOf c good v fresh form →
    (numbers : List ℕ) (copies : List (List Seen)) → AreTakenCopies numbers form.logs.items (log_sectors form.shape.geometry) copies →
    (device k : ℕ) → list_any (covers device k) (copy_pieces copies) ≡ true → IsOwnSector c v.name (good_disks good c.disks) numbers device k

-- .. the device of each of its pieces is one that the volume lies on, ..
abbrev pub EachTakenDeviceIsOwn : Type 0
EachTakenDeviceIsOwn =
    (c : Config) (good : ℕ) (v : Vol) (fresh : Bool) (form : VolumeForm) → IsFormOf c good v fresh form →
    (numbers : List ℕ) (copies : List (List Seen)) → AreTakenCopies numbers form.logs.items (log_sectors form.shape.geometry) copies →
    (device : ℕ) → list_any (is_of device) (copy_pieces copies) ≡ true → IsOwnDevice c v.name (good_disks good c.disks) numbers device

-- the copy is there, and the plex lies on the device of each of its pieces
pub record IsCopyOn (c : Config) (good : ℕ) (numbers : List ℕ) (p : Plex) (copies : List (List Seen)) (n : ℕ) : Type 0 where
  pub inside : n < length copies
  pub on : (device : ℕ) → list_any (is_of device) (slice_index_or copies n []) ≡ true → LiesOnDevice c (good_disks good c.disks) numbers p device

-- .. and each log plex that is used has a copy.
abbrev pub EachLogHasItsCopy : Type 0
EachLogHasItsCopy =
    (c : Config) (good : ℕ) (v : Vol) (fresh : Bool) (form : VolumeForm) → IsFormOf c good v fresh form →
    (numbers : List ℕ) (copies : List (List Seen)) → AreTakenCopies numbers form.logs.items (log_sectors form.shape.geometry) copies →
    (p : Plex) → Contains (used_logs v.dco c good fresh v.name) p → (n : ℕ) × IsCopyOn c good numbers p copies n

-- ---- what their calls change

-- Of the disks of a group, parted into fronts, pieces that go on by copies, and others, all of which tell: they stay parted, and the whole disks
-- are as they were, but for what these copies hold.
abbrev pub EachDiskGoesByCopies : Type 0
EachDiskGoesByCopies =
    (hs : List DiskSeen) (copies : List (List Seen)) (old new others : List Seen) → AreParted hs (old ++ others) → AllTell (old ++ others) → GoByCopies copies old new →
    AreParted hs (new ++ others) × Each (DiskGoesOn (copy_pieces copies)) (whole_disks (rests_of (old ++ others) []) hs) (whole_disks (rests_of (new ++ others) []) hs)

-- Where the devices of a world are these whole disks, before and after, and all others stay, they change in the sectors of the volume alone.
abbrev pub EachLogChangesOnly : Type 0
EachLogChangesOnly =
    (g : Group) (numbers : List ℕ) (v : Vol) (fresh : Bool) (form : VolumeForm) → IsFormOf g.config g.good v fresh form → HaveNumbers numbers → AreNumbered numbers g.good g.config.disks →
    (hs : List DiskSeen) (before after others : List Seen) → AllOf (IsMemberOn g numbers) hs → AreParted hs (before ++ others) → AllTell (before ++ others) → GoByLog numbers form fresh before after →
    (old new : Word → Option Device) →
    AreDevicesOf old (whole_disks (rests_of (before ++ others) []) hs) → AreDevicesOf new (whole_disks (rests_of (after ++ others) []) hs) →
    OtherDevicesStay hs old new → ChangesOnly g v.name old new

-- And nothing is counted on a device that the volume does not lie on.
abbrev pub EachLogCountsItsOwn : Type 0
EachLogCountsItsOwn =
    (c : Config) (good : ℕ) (v : Vol) (fresh : Bool) (form : VolumeForm) → IsFormOf c good v fresh form →
    (numbers : List ℕ) (before after others : List Seen) → GoByLog numbers form fresh before after →
    (device : ℕ) → (IsOwnDevice c v.name (good_disks good c.disks) numbers device → ⊥) → CountsStay device (before ++ others) (after ++ others)

-- ---- why there is no log

-- Where each copy of the log of a volume was passed over, as it was to be loaded, each log plex that counts has failed.
abbrev pub EachPassedLogHasFailed : Type 0
EachPassedLogHasFailed =
    (c : Config) (good : ℕ) (v : Vol) (form : VolumeForm) → IsFormOf c good v false form →
    (numbers : List ℕ) (before after : List Seen) → IsUnlogged v numbers form before after →
    (contents : ℕ → Contents) → All (Holds contents) before → (bytes : Sectors) → AreSectorsOf good numbers contents bytes →
    (p : Plex) → Contains c.plexes p → is_log_copy c good bytes v p ≡ true → HasFailedOn c (good_disks good c.disks) numbers before after p

-- ---- copies that come nearer to one another

-- Where the copies of the log of a volume come nearer to one another, and each sector of its disks that none of them has stays as it was, its
-- image is the same but for the copies of its log, and these come nearer to one another too.
abbrev pub EachCopyNarrows : Type 0
EachCopyNarrows =
    (c : Config) (good : ℕ) (v : Vol) (form : VolumeForm) → IsFormOf c good v false form →
    (numbers : List ℕ) → HaveNumbers numbers → AreNumbered numbers good c.disks →
    (copies later : List (List Seen)) → AreTakenCopies numbers form.logs.items (log_sectors form.shape.geometry) copies → CutCopiesGo KeepsPiece copies later →
    AreNarrowed (log_header form.shape.geometry) (region_count form.shape.geometry.length form.shape.geometry.region) copies later →
    (old new : ℕ → Contents) → All (Holds old) (copy_pieces copies) → All (Holds new) (copy_pieces later) →
    ((device k : ℕ) → list_any (covers device k) (copy_pieces copies) ≡ false → new device k ≡ old device k) →
    (before after : Sectors) → AreSectorsOf good numbers old before → AreSectorsOf good numbers new after → ((slot sector : ℕ) → has good slot ≡ false → after slot sector ≡ before slot sector) →
    IsNarrowed (image_of c good before v) (image_of c good after v)

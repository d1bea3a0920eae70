-- The log of a running volume stays exact where no call on it failed; and of a volume that has come to rest so no copy marks a region dirty.
use Rattle.std.specs.Prelude.{◌≡◌, ℕ, ◌<◌, true, false, List}
use Rattle.std.specs.List.{All}
use Rattle.vx_base.specs.Blocks.{Contents}
use Rattle.vx_mask.specs.Mask.{has}
use Rattle.vx_piece.specs.Seen.{Seen}
use Rattle.vx_carve.specs.Together.{Holds}
use Rattle.vx_pages.specs.declared.local_piece.LocalPiece.{Ghosts}
use Rattle.vx_config_parts.specs.declared.state.VolState.TheVariants as vol
use Rattle.vx_config_parts.specs.declared.vol.Vol.{Vol}
use Rattle.vx_objects.specs.Applied.{IsEdited}
use Rattle.vx_objects.specs.declared.config.Config.{Config}
use Rattle.vx_state_edits.specs.Edits.{stop_edits}
use Rattle.vx_moments.specs.World.{Volume}
use Rattle.vx_image.specs.Bytes.{Sectors, image_of}
use Rattle.vx_image.specs.Image.{IsFilled, PlexImage, regions_of}
use Rattle.vx_image.specs.Meaning.{dirty_read}
use Rattle.vx_image.specs.UsedPlexes.{IsVolOf}
use Rattle.vx_volume.specs.Volume.{VolumeSeen, volume_seen}
use Rattle.vx_lending.specs.Form.{IsFormOf}
use Rattle.vx_lending.specs.Left.{held_pieces}
use Rattle.vx_lending.specs.Public.{still_pieces}
use Rattle.vx_lending.specs.declared.public.Public.{Public}
use Rattle.vx_lending.specs.declared.public.Running.{Running}
use Rattle.vx_volume_laws.specs.Contents.{AreSectorsOf}
use Rattle.vx_volume_laws.specs.Exact.{IsExactVolume, LogIsWell}
use Rattle.vx_volume_laws.specs.ExactLaws.{PassStaysExact}
use Rattle.vx_volume_laws.specs.Leaving.{AreNamedIn}
use Rattle.vx_volume_laws.specs.Running.{RunsAsVolume}
use Rattle.vx_group_start.specs.Copying.{AreCopied}
use Rattle.vx_group_start.specs.Started.{IsStarted}
use Rattle.vx_group_stop.specs.Laws.{AreClean, AreSettled}
use Rattle.vx_group_stop.specs.Stops.{ComesToRest, IsAtRest}
use Rattle.vx_group_volumes.specs.Runs.{RunsIn}

-- ---- as it starts

-- A volume begins with an exact log, where that was loaded, ..
abbrev pub LoadedStartIsExact : {P : Type 0} {ghosts : Ghosts P} → (P → Seen) → Public P ghosts → Public P ghosts → Running P ghosts → Type 0
LoadedStartIsExact see old new running =
    (c : Config) (good : ℕ) (v : Vol) (numbers : List ℕ) → IsVolOf c v → IsFilled v.state → IsFormOf c good v false running.form → IsStarted see v numbers old new running →
    (contents : ℕ → Contents) → All (Holds contents) (still_pieces see old) →
    (bytes : Sectors) → AreSectorsOf good numbers contents bytes → IsExactVolume (volume_seen see running.volume)

-- .. and where it was made new.
abbrev pub FreshStartIsExact : {P : Type 0} {ghosts : Ghosts P} → (P → Seen) → Public P ghosts → Public P ghosts → Running P ghosts → Type 0
FreshStartIsExact see old new running =
    (c : Config) (good : ℕ) (v : Vol) (numbers : List ℕ) → IsVolOf c v → v.state ≡ vol.Empty → IsFormOf c good v true running.form → IsStarted see v numbers old new running →
    (contents : ℕ → Contents) → All (Holds contents) (still_pieces see old) →
    (bytes : Sectors) → AreSectorsOf good numbers contents bytes → IsExactVolume (volume_seen see running.volume)

-- ---- through passes

-- It stays exact through copies to plexes in which no call on it failed, ..
abbrev pub EachCopyingStaysExact : Type 0
EachCopyingStaysExact = (mask : ℕ) → PassStaysExact (AreCopied {T = ℕ} mask)

-- .. and through what brings a volume to rest.
abbrev pub EachRestStaysExact : Type 0
EachRestStaysExact = PassStaysExact ComesToRest

-- ---- at rest

-- Where no call on the log failed as a volume came to rest, none of its regions is marked dirty.
abbrev pub EachWellRestIsClean : Type 0
EachWellRestIsClean = (old new : VolumeSeen) (mask : ℕ) → IsAtRest old new mask → LogIsWell old new → AreClean new

-- The image of a volume that is stopped then, by the configuration that is recorded, has no dirty region where the log is exact.
abbrev pub EachStoppedVolumeIsClean : {P : Type 0} {ghosts : Ghosts P} → (P → Seen) → Running P ghosts → Type 0
EachStoppedVolumeIsClean see running =
    (c : Config) (good : ℕ) (numbers : List ℕ) (v : Vol) → RunsIn see c good numbers v running →
    AreSettled (volume_seen see running.volume) → AreClean (volume_seen see running.volume) → IsExactVolume (volume_seen see running.volume) →
    (marks : ℕ) (c' : Config) → IsEdited (stop_edits c v marks) c c' → (good' : ℕ) → ((slot : ℕ) → has good' slot ≡ true → has good slot ≡ true) →
    (plexes : List PlexImage) (w : Volume) → RunsAsVolume plexes (volume_seen see running.volume) w →
    ((bytes : Sectors) → AreNamedIn (image_of c good bytes v).plexes plexes) →
    (contents : ℕ → Contents) → All (Holds contents) (held_pieces see running.volume) → (bytes : Sectors) → AreSectorsOf good' numbers contents bytes →
    (r : ℕ) → r < regions_of (image_of c' good' bytes (record v { state = vol.Clean })) → dirty_read (image_of c' good' bytes (record v { state = vol.Clean })) r ≡ false

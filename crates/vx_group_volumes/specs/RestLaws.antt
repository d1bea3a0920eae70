-- Laws of a volume that comes to rest and is stopped.
use Rattle.std.specs.Prelude.{◌≡◌, ℕ, Bool, true, List, Result, Ok, Err}
use Rattle.std.specs.List.{All}
use Rattle.vx_base.specs.Blocks.{Contents}
use Rattle.vx_base.specs.Counts.{Rose}
use Rattle.vx_base.specs.Named.{Word}
use Rattle.vx_mask.specs.Mask.{has}
use Rattle.vx_piece.specs.Seen.{Seen}
use Rattle.vx_runs.specs.Run.{SomeCut}
use Rattle.vx_carve.specs.Together.{Holds, faults_on}
use Rattle.vx_pages.specs.declared.local_piece.LocalPiece.{Ghosts}
use Rattle.vx_config_parts.specs.declared.state.VolState.TheVariants as vol
use Rattle.vx_config_parts.specs.declared.vol.Vol.{Vol}
use Rattle.vx_objects.specs.Applied.{IsEdited}
use Rattle.vx_objects.specs.declared.config.Config.{Config}
use Rattle.vx_state_edits.specs.Edits.{stop_edits}
use Rattle.vx_moments.specs.World.{Volume}
use Rattle.vx_image.specs.Image.{PlexImage}
use Rattle.vx_image.specs.Bytes.{Sectors, image_of}
use Rattle.vx_volume.specs.declared.fault.IoFault.{IoFault}
use Rattle.vx_volume.specs.declared.fault.IoFault.TheVariants.{Fault, PowerLost, Range}
use Rattle.vx_volume.specs.declared.volume.Volume.{Volume as Code}
use Rattle.vx_volume.specs.Log.{LogGoes}
use Rattle.vx_volume.specs.Volume.{IsVolume, VolumeSeen, log_of, volume_seen}
use Rattle.vx_lending.specs.Left.{held_pieces}
use Rattle.vx_volume_laws.specs.Contents.{AreSectorsOf}
use Rattle.vx_moments.specs.Tracks.{TrackOwner, volume_failed}
use Rattle.vx_moments.specs.Volumes.{StandsForVolume}
use Rattle.vx_image.specs.Meaning.{ReadsOneList}
use Rattle.vx_volume_laws.specs.RunLaws.{FailuresAreTold, OwnersFit}
use Rattle.vx_volume_laws.specs.Leaving.{AreNamedIn}
use Rattle.vx_volume_laws.specs.Running.{IsSureOfOthers, RunsAsVolume}
use Rattle.vx_lending.specs.declared.public.Running.{Running}
use Rattle.vx_group_calls.specs.Causes.{AreCutWhereDead}
use Rattle.vx_group_calls.specs.Ending.{device_of}
use Rattle.vx_group_stop.specs.Laws.{AreSettled}
use Rattle.vx_group_stop.specs.Stops.{ComesToRest}
use Rattle.vx_group_volumes.specs.Runs.{RunsIn}

-- A volume of the code that comes to rest, or does not, runs on as the volume of the world whose devices have failed too.
abbrev pub EachRestRunsOn : Type 0
EachRestRunsOn =
    (old new : VolumeSeen) (result : Result ℕ IoFault) → ComesToRest old new result → IsVolume old → IsVolume new →
    (plexes : List PlexImage) (w : Volume) → RunsAsVolume plexes old w →
    (owners : Word → TrackOwner) (failed : Word → Bool) → OwnersFit plexes old owners → FailuresAreTold plexes owners failed old new →
    RunsAsVolume plexes new (volume_failed owners failed w) × (IsSureOfOthers plexes old w → IsSureOfOthers plexes new (volume_failed owners failed w))

-- A volume of which all regions are settled is stopped, and some disks may have failed as that was written. By the configuration that is
-- recorded then its image stands for the volume of the world that it ran as, and one list is read from it.
abbrev pub EachStoppedVolumeStands : {P : Type 0} {ghosts : Ghosts P} → (P → Seen) → Running P ghosts → Type 0
EachStoppedVolumeStands see running =
    (c : Config) (good : ℕ) (numbers : List ℕ) (v : Vol) → RunsIn see c good numbers v running → AreSettled (volume_seen see running.volume) →
    (marks : ℕ) (c' : Config) → IsEdited (stop_edits c v marks) c c' → (good' : ℕ) → ((slot : ℕ) → has good' slot ≡ true → has good slot ≡ true) →
    (plexes : List PlexImage) (w : Volume) → RunsAsVolume plexes (volume_seen see running.volume) w → IsSureOfOthers plexes (volume_seen see running.volume) w →
    ((bytes : Sectors) → AreNamedIn (image_of c good bytes v).plexes plexes) →
    (contents : ℕ → Contents) → All (Holds contents) (held_pieces see running.volume) → (bytes : Sectors) → AreSectorsOf good' numbers contents bytes →
    StandsForVolume (image_of c' good' bytes (record v { state = vol.Clean })) w
    × (list : Contents) × ReadsOneList (image_of c' good' bytes (record v { state = vol.Clean })) w.life.candidates list

-- ---- why it did not come to rest

-- A fault names a device on which the count of the volume's pieces rose; the power is gone only where one of its pieces is cut, if that
-- was so of each region that was dead before.
abbrev pub RestHasReason : {P : Type 0} {ghosts : Ghosts P} → (P → Seen) → Result ℕ IoFault → Code P ghosts → Code P ghosts → Type 0
RestHasReason see (Ok marks) old new = Unit {0}
RestHasReason see (Err (Fault place)) old new = Rose (faults_on (device_of place) (held_pieces see old)) (faults_on (device_of place) (held_pieces see new))
RestHasReason see (Err PowerLost) old new = AreCutWhereDead (volume_seen see old) → SomeCut (held_pieces see new)
RestHasReason see (Err Range) old new = ⊥

-- Whatever volume comes to rest, or does not, that has such a reason.
abbrev pub EachRestHasReason : {P : Type 0} {ghosts : Ghosts P} → (P → Seen) → Code P ghosts → Code P ghosts → Type 0
EachRestHasReason see old new =
    (result : Result ℕ IoFault) → ComesToRest (volume_seen see old) (volume_seen see new) result → LogGoes see (log_of old) (log_of new) → RestHasReason see result old new

-- What healing an open volume makes of it, and of its bytes.
use Rattle.std.specs.Prelude.{ℕ, Bool, List, Result, Ok, Err}
use Rattle.vx_base.specs.Blocks.{Contents}
use Rattle.vx_base.specs.Counts.{Rose}
use Rattle.vx_base.specs.Named.{Word}
use Rattle.vx_piece.specs.Seen.{Seen}
use Rattle.vx_runs.specs.Run.{SomeCut}
use Rattle.vx_carve.specs.Together.{faults_on}
use Rattle.vx_pages.specs.declared.local_piece.LocalPiece.{Ghosts}
use Rattle.vx_config_parts.specs.declared.vol.Vol.{Vol}
use Rattle.vx_objects.specs.declared.config.Config.{Config}
use Rattle.vx_image.specs.Bytes.{Sectors, image_of}
use Rattle.vx_image.specs.Image.{PlexImage}
use Rattle.vx_image.specs.Meaning.{ReadsOneList, candidates_read}
use Rattle.vx_image.specs.Soundness.{IsSoundImage}
use Rattle.vx_lending.specs.Left.{held_pieces}
use Rattle.vx_lending.specs.declared.public.Public.{Public}
use Rattle.vx_lending.specs.declared.public.Running.{Running}
use Rattle.vx_moments.specs.Tracks.{TrackOwner, unsure, volume_failed}
use Rattle.vx_moments.specs.Volumes.{StandsForVolume, volume_read}
use Rattle.vx_moments.specs.World.{Volume}
use Rattle.vx_volume.specs.declared.fault.IoFault.{IoFault}
use Rattle.vx_volume.specs.declared.fault.IoFault.TheVariants.{Fault, PowerLost, Range}
use Rattle.vx_volume.specs.declared.volume.Volume.{Volume as Code}
use Rattle.vx_volume.specs.Log.{LogGoes}
use Rattle.vx_volume.specs.Volume.{IsVolume, VolumeSeen, log_of, volume_seen}
use Rattle.vx_volume_laws.specs.RunLaws.{FailuresAreTold, OwnersFit}
use Rattle.vx_volume_laws.specs.Running.{IsSureOfOthers, RunsAsVolume}
use Rattle.vx_group_calls.specs.Causes.{AreCutWhereDead}
use Rattle.vx_group_calls.specs.Ending.{device_of}
use Rattle.vx_group_recover.specs.Healing.{Heals}
use Rattle.vx_group_recover.specs.declared.healing.Healed.{Healed}
use Rattle.vx_group_volumes.specs.Laws.{GoesOn}
use Rattle.vx_healed_volumes.specs.Healed.{AreSectorsAround, IsHealedBy}
use Rattle.vx_healed_volumes.specs.Whole.{IsWholeImage}

-- ---- the volume of the code

-- A volume of the code that is healed, or not to the end, runs on as the volume of the world whose devices have failed too.
abbrev pub EachHealingRunsOn : Type 0
EachHealingRunsOn =
    (old new : VolumeSeen) (result : Result Healed IoFault) → Heals old new result → IsVolume old → IsVolume new →
    (plexes : List PlexImage) (w : Volume) → RunsAsVolume plexes old w →
    (owners : Word → TrackOwner) (failed : Word → Bool) → OwnersFit plexes old owners → FailuresAreTold plexes owners failed old new →
    RunsAsVolume plexes new (volume_failed owners failed w) × (IsSureOfOthers plexes old w → IsSureOfOthers plexes new (volume_failed owners failed w))

-- Its pieces stay in their places, it lies where its form says, and a region is dead only where it is cut.
abbrev pub EachHealingGoesOn : {P : Type 0} {ghosts : Ghosts P} → (P → Seen) → Code P ghosts → Code P ghosts → Type 0
EachHealingGoesOn see old new =
    (result : Result Healed IoFault) → Heals (volume_seen see old) (volume_seen see new) result → LogGoes see (log_of old) (log_of new) → GoesOn see old new

-- A fault names a device on which the count of the volume's pieces rose; the power is gone only where one of its pieces is cut, if that
-- was so of each region that was dead before.
abbrev pub HealingHasReason : {P : Type 0} {ghosts : Ghosts P} → (P → Seen) → Result Healed IoFault → Code P ghosts → Code P ghosts → Type 0
HealingHasReason see (Ok healed) old new = Unit {0}
HealingHasReason see (Err (Fault place)) old new = Rose (faults_on (device_of place) (held_pieces see old)) (faults_on (device_of place) (held_pieces see new))
HealingHasReason see (Err PowerLost) old new = AreCutWhereDead (volume_seen see old) → SomeCut (held_pieces see new)
HealingHasReason see (Err Range) old new = ⊥

abbrev pub EachHealingHasReason : {P : Type 0} {ghosts : Ghosts P} → (P → Seen) → Code P ghosts → Code P ghosts → Type 0
EachHealingHasReason see old new =
    (result : Result Healed IoFault) → Heals (volume_seen see old) (volume_seen see new) result → LogGoes see (log_of old) (log_of new) → HealingHasReason see result old new

-- ---- its bytes

-- Where the bytes were sound over which a volume was opened that is healed since, or not to the end, those that it leaves stand for what was
-- read from them, with nothing sure of plexes that are written to, and with the devices that failed.
abbrev pub EachHealedVolumeStands : {P : Type 0} {ghosts : Ghosts P} → (P → Seen) → Public P ghosts → Public P ghosts → Running P ghosts → Running P ghosts → Type 0
EachHealedVolumeStands see old new running after =
    (c : Config) (good : ℕ) (v : Vol) (numbers : List ℕ) (result : Result Healed IoFault) → IsHealedBy see c good v numbers old new running after result →
    (before behind : Sectors) → AreSectorsAround see good numbers old after before behind → IsSoundImage (image_of c good before v) →
    (owners : Word → TrackOwner) (failed : Word → Bool) →
    OwnersFit (image_of c good before v).plexes (volume_seen see running.volume) owners →
    FailuresAreTold (image_of c good before v).plexes owners failed (volume_seen see running.volume) (volume_seen see after.volume) →
    (plexes : List Word) → StandsForVolume (image_of c good behind v) (volume_failed owners failed (unsure owners (volume_read plexes (image_of c good before v))))

-- Once it is done one list is read from them, each block among what was read before.
abbrev pub EachHealedVolumeReadsOneList : {P : Type 0} {ghosts : Ghosts P} → (P → Seen) → Public P ghosts → Public P ghosts → Running P ghosts → Running P ghosts → Type 0
EachHealedVolumeReadsOneList see old new running after =
    (c : Config) (good : ℕ) (v : Vol) (numbers : List ℕ) (healed : Healed) → IsHealedBy see c good v numbers old new running after (Ok healed) →
    (before behind : Sectors) → AreSectorsAround see good numbers old after before behind → IsSoundImage (image_of c good before v) →
    (owners : Word → TrackOwner) (failed : Word → Bool) →
    OwnersFit (image_of c good before v).plexes (volume_seen see running.volume) owners →
    FailuresAreTold (image_of c good before v).plexes owners failed (volume_seen see running.volume) (volume_seen see after.volume) →
    (list : Contents) × ReadsOneList (image_of c good behind v) (candidates_read (image_of c good before v)) list

-- Then the image that it leaves is whole, with the marks that are told: some copy counts, and none marks a region dirty, or one of an available
-- plex.
abbrev pub EachHealedVolumeIsWhole : {P : Type 0} {ghosts : Ghosts P} → (P → Seen) → Public P ghosts → Public P ghosts → Running P ghosts → Running P ghosts → Type 0
EachHealedVolumeIsWhole see old new running after =
    (c : Config) (good : ℕ) (v : Vol) (numbers : List ℕ) (healed : Healed) → IsHealedBy see c good v numbers old new running after (Ok healed) →
    (before behind : Sectors) → AreSectorsAround see good numbers old after before behind → IsSoundImage (image_of c good before v) →
    (owners : Word → TrackOwner) (failed : Word → Bool) →
    OwnersFit (image_of c good before v).plexes (volume_seen see running.volume) owners →
    FailuresAreTold (image_of c good before v).plexes owners failed (volume_seen see running.volume) (volume_seen see after.volume) →
    IsWholeImage (image_of c good behind v) healed.marks

-- Laws of volumes of an imported group, from their start to their leaving.
use Rattle.std.specs.Prelude.{◌≡◌, ℕ, Bool, true, false, List, Contains, Result}
use Rattle.std.specs.List.{All}
use Rattle.vx_base.specs.Blocks.{Contents}
use Rattle.vx_base.specs.Named.{Word}
use Rattle.vx_piece.specs.Seen.{Seen}
use Rattle.vx_carve.specs.Together.{Holds}
use Rattle.vx_pages.specs.declared.local_piece.LocalPiece.{Ghosts}
use Rattle.vx_config_parts.specs.declared.state.VolState.TheVariants as vol
use Rattle.vx_config_parts.specs.declared.vol.Vol.{Vol}
use Rattle.vx_objects.specs.Applied.{IsEdited}
use Rattle.vx_state_edits.specs.Edits.{start_edits, stop_edits}
use Rattle.vx_objects.specs.declared.config.Config.{Config}
use Rattle.vx_moments.specs.World.{Volume}
use Rattle.vx_image.specs.Image.{PlexImage, IsFilled, WasStarted, is_available}
use Rattle.vx_image.specs.Bytes.{Sectors, image_of}
use Rattle.vx_image.specs.Soundness.{IsSoundImage}
use Rattle.vx_volume.specs.declared.fault.IoFault.{IoFault}
use Rattle.vx_volume.specs.declared.volume.Volume.{Volume as Code}
use Rattle.vx_volume.specs.Log.{LogGoes}
use Rattle.vx_volume.specs.Volume.{log_of, volume_seen}
use Rattle.vx_lending.specs.declared.form.VolumeForm.{VolumeForm}
use Rattle.vx_image.specs.UsedPlexes.{IsVolOf}
use Rattle.vx_lending.specs.Form.{IsFormOf}
use Rattle.vx_lending.specs.Left.{held_pieces}
use Rattle.vx_volume_laws.specs.Contents.{AreSectorsOf}
use Rattle.vx_moments.specs.Lives.{volume_first}
use Rattle.vx_moments.specs.Tracks.{TrackOwner, unsure}
use Rattle.vx_moments.specs.Volumes.{StandsForVolume, volume_read}
use Rattle.vx_volume_laws.specs.RunLaws.{OwnersFit}
use Rattle.vx_volume_laws.specs.Leaving.{AreNamedIn}
use Rattle.vx_volume_laws.specs.Running.{IsSureOfOthers, RunsAsVolume}
use Rattle.vx_volume_laws.specs.Keeping.{ChangesStates}
use Rattle.vx_volume_laws.specs.Lying.{LiesIn}
use Rattle.vx_lending.specs.declared.public.Public.{Public}
use Rattle.vx_lending.specs.declared.public.Running.{Running}
use Rattle.vx_lending.specs.Public.{still_pieces}
use Rattle.vx_group_stop.specs.Stops.{ComesToRest}
use Rattle.vx_group_start.specs.Copying.{AreCopied}
use Rattle.vx_group_start.specs.Fresh.{is_fresh}
use Rattle.vx_group_start.specs.Started.{IsStarted}
use Rattle.vx_group_calls.specs.Causes.{AreCutWhereDead}
use Rattle.vx_group_calls.specs.Laws.{StaysTogether}
use Rattle.vx_group_volumes.specs.Copies.{AreTight}
use Rattle.vx_group_volumes.specs.Runs.{RunsIn}

-- A volume of a configuration was started out of the pieces of its group, and another configuration records it, of which states have
-- changed: then it runs by that one.
abbrev pub StartRuns : {P : Type 0} {ghosts : Ghosts P} → (P → Seen) → Public P ghosts → Public P ghosts → Running P ghosts → Type 0
StartRuns see old new running =
    (c : Config) (good : ℕ) (v : Vol) (numbers : List ℕ) → IsVolOf c v → IsFormOf c good v (is_fresh v.state) running.form → IsStarted see v numbers old new running →
    (c' : Config) (good' : ℕ) (v' : Vol) → IsVolOf c' v' → IsFilled v'.state → ChangesStates c good v (is_fresh v.state) c' good' v' →
    RunsIn see c' good' numbers v' running

-- Where it was started before, so that its log was loaded, and its bytes are sound: it runs as the volume that is read from them, ..
abbrev pub LoadedStartRuns : {P : Type 0} {ghosts : Ghosts P} → (P → Seen) → Public P ghosts → Public P ghosts → Running P ghosts → Type 0
LoadedStartRuns see old new running =
    (c : Config) (good : ℕ) (v : Vol) (numbers : List ℕ) → IsVolOf c v → IsFilled v.state → IsFormOf c good v false running.form → IsStarted see v numbers old new running →
    (contents : ℕ → Contents) → All (Holds contents) (still_pieces see old) →
    (bytes : Sectors) → AreSectorsOf good numbers contents bytes → IsSoundImage (image_of c good bytes v) →
    (plexes : List Word) → RunsAsVolume (image_of c good bytes v).plexes (volume_seen see running.volume) (volume_read plexes (image_of c good bytes v))

-- .. and as that volume with nothing sure of plexes that are written to: such as one that failed, and lacks what its marks say.
abbrev pub LoadedStartForgets : {P : Type 0} {ghosts : Ghosts P} → (P → Seen) → Public P ghosts → Public P ghosts → Running P ghosts → Type 0
LoadedStartForgets see old new running =
    (c : Config) (good : ℕ) (v : Vol) (numbers : List ℕ) → IsVolOf c v → IsFilled v.state → IsFormOf c good v false running.form → IsStarted see v numbers old new running →
    (contents : ℕ → Contents) → All (Holds contents) (still_pieces see old) →
    (bytes : Sectors) → AreSectorsOf good numbers contents bytes → IsSoundImage (image_of c good bytes v) →
    (plexes : List Word) (owners : Word → TrackOwner) → OwnersFit (image_of c good bytes v).plexes (volume_seen see running.volume) owners →
    RunsAsVolume (image_of c good bytes v).plexes (volume_seen see running.volume) (unsure owners (volume_read plexes (image_of c good bytes v)))
    × IsSureOfOthers (image_of c good bytes v).plexes (volume_seen see running.volume) (unsure owners (volume_read plexes (image_of c good bytes v)))

-- Where it was never started: it runs as the volume of the first life over its bytes, ..
abbrev pub FreshStartRuns : {P : Type 0} {ghosts : Ghosts P} → (P → Seen) → Public P ghosts → Public P ghosts → Running P ghosts → Type 0
FreshStartRuns see old new running =
    (c : Config) (good : ℕ) (v : Vol) (numbers : List ℕ) → IsVolOf c v → v.state ≡ vol.Empty → IsFormOf c good v true running.form → IsStarted see v numbers old new running →
    (contents : ℕ → Contents) → All (Holds contents) (still_pieces see old) →
    (bytes : Sectors) → AreSectorsOf good numbers contents bytes →
    (plexes : List Word) → RunsAsVolume (image_of c good bytes v).plexes (volume_seen see running.volume) (volume_first plexes (image_of c good bytes v))

-- .. and as that volume with nothing sure of plexes that are written to: before they are copied each but the lowest differs everywhere.
abbrev pub FreshStartForgets : {P : Type 0} {ghosts : Ghosts P} → (P → Seen) → Public P ghosts → Public P ghosts → Running P ghosts → Type 0
FreshStartForgets see old new running =
    (c : Config) (good : ℕ) (v : Vol) (numbers : List ℕ) → IsVolOf c v → v.state ≡ vol.Empty → IsFormOf c good v true running.form → IsStarted see v numbers old new running →
    (contents : ℕ → Contents) → All (Holds contents) (still_pieces see old) →
    (bytes : Sectors) → AreSectorsOf good numbers contents bytes →
    (plexes : List Word) (owners : Word → TrackOwner) → OwnersFit (image_of c good bytes v).plexes (volume_seen see running.volume) owners →
    RunsAsVolume (image_of c good bytes v).plexes (volume_seen see running.volume) (unsure owners (volume_first plexes (image_of c good bytes v)))
    × IsSureOfOthers (image_of c good bytes v).plexes (volume_seen see running.volume) (unsure owners (volume_first plexes (image_of c good bytes v)))

-- Its log is new, so no mark is loose.
abbrev pub FreshStartIsTight : {P : Type 0} {ghosts : Ghosts P} → (P → Seen) → Public P ghosts → Public P ghosts → Running P ghosts → Type 0
FreshStartIsTight see old new running =
    (c : Config) (good : ℕ) (v : Vol) (numbers : List ℕ) → IsVolOf c v → v.state ≡ vol.Empty → IsFormOf c good v true running.form → IsStarted see v numbers old new running →
    (contents : ℕ → Contents) → All (Holds contents) (still_pieces see old) →
    (bytes : Sectors) → AreSectorsOf good numbers contents bytes → AreTight (volume_seen see running.volume)

-- As a volume starts, by whichever form, its plexes are written to just where they are available: so owners by their names fit that say so.
abbrev pub StartFits : {P : Type 0} {ghosts : Ghosts P} → (P → Seen) → Public P ghosts → Public P ghosts → Running P ghosts → Type 0
StartFits see old new running =
    (c : Config) (good : ℕ) (v : Vol) (fresh : Bool) (numbers : List ℕ) → IsVolOf c v → IsFormOf c good v fresh running.form → IsStarted see v numbers old new running →
    (bytes : Sectors) (owners : Word → TrackOwner) → ((p : PlexImage) → Contains (image_of c good bytes v).plexes p → (owners p.name).available ≡ is_available p) →
    OwnersFit (image_of c good bytes v).plexes (volume_seen see running.volume) owners

-- A volume that runs does so by each configuration of which states have changed, and of which disks have failed.
abbrev pub EachRecordedVolumeRuns : {P : Type 0} {ghosts : Ghosts P} → (P → Seen) → Running P ghosts → Type 0
EachRecordedVolumeRuns see running =
    (c : Config) (good : ℕ) (numbers : List ℕ) (v : Vol) → RunsIn see c good numbers v running →
    (c' : Config) (good' : ℕ) (v' : Vol) → IsVolOf c' v' → IsFilled v'.state → ChangesStates c good v false c' good' v' →
    RunsIn see c' good' numbers v' running

-- A volume that runs as one of the world is left while no call is under way: where its pieces hold what the devices do, its image by
-- the sectors of these stands for that volume.
abbrev pub EachLeavingStandsFor : {P : Type 0} {ghosts : Ghosts P} → (P → Seen) → Running P ghosts → Type 0
EachLeavingStandsFor see running =
    (c : Config) (good : ℕ) (numbers : List ℕ) (v : Vol) → RunsIn see c good numbers v running → WasStarted v.state →
    (plexes : List PlexImage) (w : Volume) → RunsAsVolume plexes (volume_seen see running.volume) w → IsSureOfOthers plexes (volume_seen see running.volume) w →
    (contents : ℕ → Contents) → All (Holds contents) (held_pieces see running.volume) →
    (bytes : Sectors) → AreSectorsOf good numbers contents bytes → AreNamedIn (image_of c good bytes v).plexes plexes →
    StandsForVolume (image_of c good bytes v) w

-- ---- passes

-- What passes keep of a volume: its pieces stay in their places, it lies where its form says, and a region is dead only where it is cut.
pub record GoesOn {P : Type 0} {ghosts : Ghosts P} (see : P → Seen) (old new : Code P ghosts) : Type 0 where
  pub together : StaysTogether see old new
  pub lies : (numbers : List ℕ) (form : VolumeForm) → LiesIn see numbers form old → LiesIn see numbers form new
  pub cut : AreCutWhereDead (volume_seen see old) → AreCutWhereDead (volume_seen see new)

-- So do the copies to its plexes, however they end, ..
abbrev pub CopiesGoOn : {P : Type 0} {ghosts : Ghosts P} → (P → Seen) → Code P ghosts → Code P ghosts → Type 0
CopiesGoOn see old new =
    (mask : ℕ) (result : Result ℕ IoFault) → AreCopied mask (volume_seen see old) (volume_seen see new) result → LogGoes see (log_of old) (log_of new) → GoesOn see old new

-- .. and what brings it to rest.
abbrev pub RestGoesOn : {P : Type 0} {ghosts : Ghosts P} → (P → Seen) → Code P ghosts → Code P ghosts → Type 0
RestGoesOn see old new =
    (result : Result ℕ IoFault) → ComesToRest (volume_seen see old) (volume_seen see new) result → LogGoes see (log_of old) (log_of new) → GoesOn see old new

-- ---- what is recorded

-- What a start records of a volume changes states alone, whatever disks are good: so a volume that was started over the one
-- configuration runs by the other, ..
abbrev pub EachStartChangesStates : Type 0
EachStartChangesStates =
    (c : Config) (v : Vol) → IsVolOf c v → (c' : Config) → IsEdited (start_edits c v) c c' → (good : ℕ) →
    IsVolOf c' (record v { state = vol.Active }) × ChangesStates c good v (is_fresh v.state) c' good (record v { state = vol.Active })

-- .. and so does what a stop records.
abbrev pub EachStopChangesStates : Type 0
EachStopChangesStates =
    (c : Config) (v : Vol) (marks : ℕ) → IsVolOf c v → (c' : Config) → IsEdited (stop_edits c v marks) c c' → (good : ℕ) →
    IsVolOf c' (record v { state = vol.Clean }) × ChangesStates c good v false c' good (record v { state = vol.Clean })

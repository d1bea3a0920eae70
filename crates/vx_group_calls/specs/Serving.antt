-- What a served call does to the volumes of the world that a running volume runs as.
use Rattle.std.specs.Prelude.{◌≡◌, ◌≢◌, ℕ, ◌/◌, ◌%◌, ◌^◌, ◌<◌, ◌≤◌, Bool, List, [], length, map}
use Rattle.vx_base.specs.Named.{Word}
use Rattle.vx_life.specs.Entry.{Entry}
use Rattle.vx_piece.specs.Seen.{Seen}
use Rattle.vx_pages.specs.declared.local_piece.LocalPiece.{Ghosts}
use Rattle.vx_script_forms.specs.declared.call.Call.{Call}
use Rattle.vx_script_forms.specs.declared.call.Call.TheVariants as calls
use Rattle.vx_stages.specs.Calls.{AreOf, AreParts, IsDoneBy, count_of, failed_kind, start_of, values_of}
use Rattle.vx_moments.specs.World.{Volume}
use Rattle.vx_image.specs.Image.{PlexImage}
use Rattle.vx_moments.specs.Tracks.{TrackOwner}
use Rattle.vx_volume.specs.Volume.{VolumeSeen, volume_seen}
use Rattle.vx_volume_laws.specs.RunLaws.{FailuresAreTold, MayComeNext, OwnersFit, RunsOn}
use Rattle.vx_volume_laws.specs.Running.{RunsAsVolume}
use Rattle.vx_lending.specs.declared.public.Running.{Running}
use Rattle.vx_group_calls.specs.declared.served.Served.{Served}
use Rattle.vx_group_calls.specs.declared.served.Served.TheVariants.{Done, Fault, Lost}

-- a call within the limits of the language: 1 to 2,048 blocks are read or filled, and 1 to 64 whole blocks are written
abbrev pub IsWithinLimits : Call → Type 0
IsWithinLimits (calls.Read vol start count) = (start < 2 ^ 40) × (0 < count) × (count ≤ 2048)
IsWithinLimits (calls.Fill vol start count byte) = (start < 2 ^ 40) × (0 < count) × (count ≤ 2048)
IsWithinLimits (calls.Data vol start blocks) = (start < 2 ^ 40) × (length blocks % 512 ≡ 0) × (0 < length blocks / 512) × (length blocks / 512 ≤ 64)

-- The answer tells of these entries: where it is done of all parts of the call, and else of those that were begun; after a fault
-- there are some.
abbrev pub Tells : ℕ → Call → ℕ → Served → List Entry → Type 0
Tells place call size (Done parts blocks) es = (map (λ (e : Entry). e.part) es ≡ parts) × IsDoneBy place call size blocks es
Tells place call size (Fault device parts) es = (map (λ (e : Entry). e.part) es ≡ parts) × AreOf place (failed_kind call) (values_of call []) es × (es ≢ [])
Tells place call size (Lost parts) es = (map (λ (e : Entry). e.part) es ≡ parts) × AreOf place (failed_kind call) (values_of call []) es

-- the volume now runs as the one of the world whose life has gone on by entries of the call's first parts, of which the answer tells
pub record LivesOn (place : ℕ) (call : Call) (served : Served) (plexes : List PlexImage) (owners : Word → TrackOwner) (failed : Word → Bool) (w : Volume) (old new : VolumeSeen) : Type 0 where
  pub entries : List Entry
  pub parts : AreParts w.region (start_of call) (count_of call) 0 entries
  pub told : Tells place call w.region served entries
  pub runs : RunsOn plexes owners failed w entries old new

-- From each volume of the world that it ran as it lives on so, where the command at this place, outside blocks, comes next.
abbrev pub ServesVolume : Call → Served → VolumeSeen → VolumeSeen → Type 0
ServesVolume call served old new =
    (plexes : List PlexImage) (w : Volume) → RunsAsVolume plexes old w →
    (owners : Word → TrackOwner) (failed : Word → Bool) → OwnersFit plexes old owners → FailuresAreTold plexes owners failed old new →
    (place : ℕ) → MayComeNext (record { session = 0; place = place }) w.life →
    LivesOn place call served plexes owners failed w old new

-- the same of a running volume
abbrev pub ServesCall : {P : Type 0} {ghosts : Ghosts P} → (P → Seen) → Call → Served → Running P ghosts → Running P ghosts → Type 0
ServesCall see call served old new = ServesVolume call served (volume_seen see old.volume) (volume_seen see new.volume)

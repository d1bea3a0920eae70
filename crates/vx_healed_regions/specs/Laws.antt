-- Which regions a recovery writes, and how many it tells.
use Rattle.std.specs.Prelude.{◌&&◌, ◌||◌, ℕ, Bool, List, Result, Ok}
use Rattle.std.specs.List.{AllZip, list_any}
use Rattle.vx_base.specs.Named.{Word}
use Rattle.vx_piece.specs.Seen.{Seen}
use Rattle.vx_pages.specs.declared.local_piece.LocalPiece.{Ghosts}
use Rattle.vx_config_parts.specs.declared.vol.Vol.{Vol}
use Rattle.vx_objects.specs.declared.config.Config.{Config}
use Rattle.vx_image.specs.Bytes.{Sectors, image_of}
use Rattle.vx_image.specs.Counts.{IsSizeBetween, is_possibly_behind, is_surely_behind}
use Rattle.vx_image.specs.Image.{Image, PlexImage, is_available, regions_of}
use Rattle.vx_image.specs.Meaning.{dirty_read, sure_read}
use Rattle.vx_image.specs.Soundness.{IsSoundImage}
use Rattle.vx_lending.specs.declared.public.Public.{Public}
use Rattle.vx_lending.specs.declared.public.Running.{Running}
use Rattle.vx_moments.specs.Tracks.{TrackOwner, has_failed}
use Rattle.vx_volume.specs.declared.fault.IoFault.{IoFault}
use Rattle.vx_volume.specs.Volume.{volume_seen}
use Rattle.vx_volume_laws.specs.RunLaws.{FailuresAreTold, OwnersFit}
use Rattle.vx_group_recover.specs.declared.healing.Healed.{Healed}
use Rattle.vx_recovery.specs.Healing.{IsSpared}
use Rattle.vx_healed_volumes.specs.Healed.{AreSectorsAround, IsHealedBy}

-- A volume that is healed, or not to the end, writes nothing on a plex that is held but in regions that are dirty or marked on it, and nothing on one
-- that is not available. Of plexes that are not held it has no pieces, and these sectors tell nothing.
abbrev pub EachHealingSpares : {P : Type 0} {ghosts : Ghosts P} → (P → Seen) → Public P ghosts → Public P ghosts → Running P ghosts → Running P ghosts → Type 0
EachHealingSpares see old new running after =
    (c : Config) (good : ℕ) (v : Vol) (numbers : List ℕ) (result : Result Healed IoFault) → IsHealedBy see c good v numbers old new running after result →
    (before behind : Sectors) → AreSectorsAround see good numbers old after before behind →
    AllZip (IsSpared (image_of c good before v)) (image_of c good before v).plexes (image_of c good behind v).plexes

-- The number of dirty regions that is told is the size of a set between what every copy of the log marks so and what some copy does.
abbrev pub EachDirtyNumberFits : {P : Type 0} {ghosts : Ghosts P} → (P → Seen) → Public P ghosts → Public P ghosts → Running P ghosts → Running P ghosts → Type 0
EachDirtyNumberFits see old new running after =
    (c : Config) (good : ℕ) (v : Vol) (numbers : List ℕ) (healed : Healed) → IsHealedBy see c good v numbers old new running after (Ok healed) →
    (before behind : Sectors) → AreSectorsAround see good numbers old after before behind →
    IsSizeBetween healed.dirty (regions_of (image_of c good before v)) (sure_read (image_of c good before v) 30) (dirty_read (image_of c good before v))

-- some plex that is written to has failed
abbrev pub some_failed : Image → (Word → TrackOwner) → (Word → Bool) → Bool
some_failed image owners failed = list_any (λ (p : PlexImage). is_available p && has_failed failed (owners p.name)) image.plexes

-- So is that of the regions that were copied, by the marks of available plexes. Where one of these has failed the dirty regions may be
-- among them.
abbrev pub EachCopiedNumberFits : {P : Type 0} {ghosts : Ghosts P} → (P → Seen) → Public P ghosts → Public P ghosts → Running P ghosts → Running P ghosts → Type 0
EachCopiedNumberFits see old new running after =
    (c : Config) (good : ℕ) (v : Vol) (numbers : List ℕ) (healed : Healed) → IsHealedBy see c good v numbers old new running after (Ok healed) →
    (before behind : Sectors) → AreSectorsAround see good numbers old after before behind → IsSoundImage (image_of c good before v) →
    (owners : Word → TrackOwner) (failed : Word → Bool) →
    OwnersFit (image_of c good before v).plexes (volume_seen see running.volume) owners →
    FailuresAreTold (image_of c good before v).plexes owners failed (volume_seen see running.volume) (volume_seen see after.volume) →
    IsSizeBetween healed.copied (regions_of (image_of c good before v)) (is_surely_behind (image_of c good before v))
    (λ r. is_possibly_behind (image_of c good before v) r || (some_failed (image_of c good before v) owners failed && dirty_read (image_of c good before v) r))

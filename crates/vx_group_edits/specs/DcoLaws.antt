-- What the edits of `vxsnap prepare` and `vxsnap unprepare` make of a configuration.
use Rattle.std.specs.Prelude.{◌≡◌, ℕ, ◌<◌, Bool, true, false, Contains, Some, None, List, [], ◌∷◌}
use Rattle.std.specs.List.{list_any}
use Rattle.std.specs.Str.{bytes_eq}
use Rattle.vx_base.specs.Named.{Word}
use Rattle.vx_mask.specs.Mask.{has}
use Rattle.vx_config_parts.specs.declared.object.Object.{Object}
use Rattle.vx_config_parts.specs.declared.plex.Plex.{Plex}
use Rattle.vx_config_parts.specs.declared.state.PlexState.TheVariants as plex_state
use Rattle.vx_config_parts.specs.declared.vol.Vol.{Vol}
use Rattle.vx_objects.specs.declared.config.Config.{Config}
use Rattle.vx_objects.specs.declared.edit.Edit.{Edit}
use Rattle.vx_objects.specs.Applied.{IsEdited}
use Rattle.vx_objects.specs.Config.{objects_of}
use Rattle.vx_new_volumes.specs.declared.logs.NewLogs.{NewLogs}
use Rattle.vx_new_volumes.specs.Logs.{logs_fault, region_with}
use Rattle.vx_image.specs.Bytes.{Sectors, image_of}
use Rattle.vx_image.specs.Image.{Image, LogCopy, PlexImage, regions_of}
use Rattle.vx_image.specs.Soundness.{IsSoundImage}
use Rattle.vx_image.specs.UsedPlexes.{IsVolOf, used_logs}
use Rattle.vx_stages.specs.Logging.{AreLogsLaid, MayLoseLog, log_state, prepare_refusal}
use Rattle.vx_stages.specs.Tests.{volume_in}
use Rattle.vx_group_edits.specs.Dcos.{ChangesDco, GetsLogs}
use Rattle.vx_group_edits.specs.Joins.{plexes_in}
use Rattle.vx_group_edits.specs.OfVolume.{AreEditsOf}

-- ---- the edits

-- The edits by which a volume gets logs are of that volume alone, ..
abbrev pub EachPreparingIsOwn : Type 0
EachPreparingIsOwn =
    (c : Config) (good : ℕ) (v : Vol) (n : NewLogs) (plex : Plex) (added : List Object) (edits : List Edit) →
    AreLogsLaid c good v n plex added edits → AreEditsOf c v.name edits

-- .. and so are those by which it loses them.
abbrev pub EachUnpreparingIsOwn : Type 0
EachUnpreparingIsOwn =
    (c : Config) (name : Word) (v : Vol) (plex : Plex) (edits : List Edit) → MayLoseLog c name v plex edits → AreEditsOf c v.name edits

-- Edits of one volume alone leave the group its name and its disks, and record no volume of another name.
abbrev pub EachOwnEditKeepsGroup : Type 0
EachOwnEditKeepsGroup =
    (c c' : Config) (vol : Word) (edits : List Edit) → AreEditsOf c vol edits → IsEdited edits c c' →
    (c'.group ≡ c.group) × (c'.disks ≡ c.disks)
    × ((name : Word) → list_any (λ (v : Vol). bytes_eq v.name name) c'.volumes ≡ true → list_any (λ (v : Vol). bytes_eq v.name name) c.volumes ≡ true)

-- ---- the tests

-- Where no test before the plan refuses the logs, the group says nothing against them.
abbrev pub EachFittingLogHasNoFault : Type 0
EachFittingLogHasNoFault =
    (runs : Bool) (c : Config) (n : NewLogs) (v : Vol) → volume_in n.vol c.volumes ≡ Some v → prepare_refusal runs c n ≡ None → logs_fault (objects_of c) v n.count n.region ≡ None

-- ---- what the volume is then

-- the volume as it gets logs, and its data plex with the first map
abbrev pub EachPreparingChangesDco : Type 0
EachPreparingChangesDco =
    (c : Config) (good : ℕ) (v : Vol) (n : NewLogs) (plex : Plex) (added : List Object) (edits : List Edit) → IsVolOf c v →
    logs_fault (objects_of c) v n.count n.region ≡ None → AreLogsLaid c good v n plex added edits →
    (c' : Config) → IsEdited edits c c' →
    (v' : Vol) × (p' : Plex) × ChangesDco c v c' v' plex p' × (v'.region ≡ region_with v n.region) × GetsLogs c good v (log_state v.state) added c' v'

-- where its logs are active they are those that are used, if the slots that were good still are
abbrev pub EachNewLogIsUsed : Type 0
EachNewLogIsUsed =
    (c : Config) (good : ℕ) (v : Vol) (n : NewLogs) (plex : Plex) (added : List Object) (edits : List Edit) → IsVolOf c v →
    logs_fault (objects_of c) v n.count n.region ≡ None → AreLogsLaid c good v n plex added edits → log_state v.state ≡ plex_state.Active →
    (c' : Config) → IsEdited edits c c' → (dco : Word) →
    (more : ℕ) → ((slot : ℕ) → has good slot ≡ true → has more slot ≡ true) → used_logs (Some dco) c' more false v.name ≡ plexes_in added

-- the volume as it loses them
abbrev pub EachUnpreparingChangesDco : Type 0
EachUnpreparingChangesDco =
    (c : Config) (name : Word) (v : Vol) (plex : Plex) (edits : List Edit) → MayLoseLog c name v plex edits →
    (c' : Config) → IsEdited edits c c' → (v' : Vol) × (p' : Plex) × ChangesDco c v c' v' plex p' × (v'.dco ≡ None)

-- ---- its image

-- The image of the volume, by whatever sectors and good disks, has its one plex, which holds what it held.
abbrev pub EachLonePlexHolds : Type 0
EachLonePlexHolds =
    (c : Config) (v : Vol) (c' : Config) (v' : Vol) (p p' : Plex) → ChangesDco c v c' v' p p' → (good : ℕ) (bytes : Sectors) →
    (q : PlexImage) × (q' : PlexImage) × ((image_of c good bytes v).plexes ≡ q ∷ []) × ((image_of c' good bytes v').plexes ≡ q' ∷ [])
    × (q' ≡ record q { map = q'.map }) × (q'.map ≡ 0)

-- An image of one plex and without relations, of which no copy of the log marks anything, is sound.
abbrev pub EachLoneImageIsSound : Type 0
EachLoneImageIsSound =
    (v : Image) (p : PlexImage) → v.plexes ≡ p ∷ [] → v.snaps ≡ [] → ((c : LogCopy) → Contains v.copies c → (r k : ℕ) → r < regions_of v → c r k ≡ false) → IsSoundImage v

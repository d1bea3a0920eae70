-- The edits of a commit keep each volume that they do not name.
use Rattle.std.specs.Prelude.{◌≡◌, ◌≢◌, ℕ, Bool, Some, None, List, [], ◌∷◌}
use Rattle.vx_base.specs.Named.{Word}
use Rattle.vx_config_parts.specs.declared.disk.Disk.{Disk}
use Rattle.vx_config_parts.specs.declared.object.Object.{Object}
use Rattle.vx_config_parts.specs.declared.state.VolState.{VolState}
use Rattle.vx_config_parts.specs.declared.vol.PolicyName.{PolicyName}
use Rattle.vx_config_parts.specs.declared.vol.Vol.{Vol}
use Rattle.vx_objects.specs.declared.config.Config.{Config}
use Rattle.vx_objects.specs.declared.edit.Edit.{Edit}
use Rattle.vx_objects.specs.declared.edit.Edit.TheVariants.{AddDisk, Make, SetVol, RemoveVol}
use Rattle.vx_objects.specs.Applied.{IsEdited}
use Rattle.vx_objects.specs.Config.{objects_of}
use Rattle.vx_state_edits.specs.Edits.{start_edits, stop_edits}
use Rattle.vx_image.specs.UsedPlexes.{IsVolOf}
use Rattle.vx_moments.specs.World.{Group}
use Rattle.vx_stages.specs.Making.{adding_refusal}
use Rattle.vx_stages.specs.Sources.{AddsFrom}
use Rattle.vx_stages.specs.Stages.{edits_of}
use Rattle.vx_stages.specs.declared.stage.Change.{Change}
use Rattle.vx_stages.specs.declared.stage.Change.TheVariants as changes
use Rattle.vx_stages.specs.declared.stage.Source.{Source}
use Rattle.vx_group_edits.specs.OfVolume.{AreOf, AreEditsOf}
use Rattle.vx_group_edits.specs.Stays.{EachStays}

-- Another policy of a volume keeps every volume, and the volume itself where it has the state that the edit gives it.
abbrev pub EachPolicyKeeps : Type 0
EachPolicyKeeps =
    (c c' : Config) (vol : Word) (state : VolState) (policy : PolicyName) → IsEdited (SetVol vol state policy ∷ []) c c' →
    EachStays (λ v. v.name ≡ vol → v.state ≡ state) c c'

-- The removal of a volume keeps every other one: its plexes and their subdisks go, and the relations stay.
abbrev pub EachRemovalKeeps : Type 0
EachRemovalKeeps = (c c' : Config) (vol : Word) → IsEdited (RemoveVol vol ∷ []) c c' → EachStays (λ v. v.name ≢ vol) c c'

-- the change does not remove the volume
abbrev pub StaysBy : Change → Vol → Type 0
StaysBy (changes.Policy vol policy) v = Unit {0}
StaysBy (changes.Remove vol) v = v.name ≢ vol

-- So what a command changes of a group keeps each volume that it does not remove.
abbrev pub EachChangeKeeps : Type 0
EachChangeKeeps = (g : Group) (change : Change) (c' : Config) → IsEdited (edits_of change (Some g)) g.config c' → EachStays (StaysBy change) g.config c'

-- A disk that is added keeps every volume.
abbrev pub EachJoiningKeeps : Type 0
EachJoiningKeeps = (c c' : Config) (disk : Disk) → IsEdited (AddDisk disk ∷ []) c c' → EachStays (λ v. Unit {0}) c c'

-- So do records that are added, of a text or of a new volume, where the tests of added records let them through: no record of theirs
-- refers to a plex or a volume of the group.
abbrev pub EachMakingKeeps : Type 0
EachMakingKeeps =
    (c c' : Config) (from : Source) (g : Group) (added : List Object) (is_started : Word → Bool) → AddsFrom from is_started g added → adding_refusal is_started (objects_of c) added ≡ None →
    IsEdited (Make added ∷ []) c c' → EachStays (λ v. Unit {0}) c c'

-- What the start of a volume records keeps every other one, ..
abbrev pub EachStartKeeps : Type 0
EachStartKeeps = (c c' : Config) (u : Vol) → IsVolOf c u → IsEdited (start_edits c u) c c' → EachStays (λ v. v.name ≢ u.name) c c'

-- .. and so does what a stop records.
abbrev pub EachStopKeeps : Type 0
EachStopKeeps = (c c' : Config) (u : Vol) (marks : ℕ) → IsVolOf c u → IsEdited (stop_edits c u marks) c c' → EachStays (λ v. v.name ≢ u.name) c c'

-- A configuration that is written as it is keeps every volume.
abbrev pub EachRewritingKeeps : Type 0
EachRewritingKeeps = (c c' : Config) → IsEdited [] c c' → EachStays (λ v. Unit {0}) c c'

-- Plexes of a volume that are added with their subdisks keep every other volume: so those of a mirror, ..
abbrev pub EachPlexKeepsOthers : Type 0
EachPlexKeepsOthers = (c c' : Config) (vol : Word) (added : List Object) → AreOf vol added → IsEdited (Make added ∷ []) c c' → EachStays (λ v. v.name ≢ vol) c c'

-- .. and so do, one after the other, all edits that are of one volume alone: so those that prepare it.
abbrev pub EachOwnEditKeepsOthers : Type 0
EachOwnEditKeepsOthers = (c c' : Config) (vol : Word) (edits : List Edit) → AreEditsOf c vol edits → IsEdited edits c c' → EachStays (λ v. v.name ≢ vol) c c'

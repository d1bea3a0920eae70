-- What holds of the records of a new volume, once they stand behind those of its group.
use Rattle.std.specs.Prelude.{◌≡◌, ℕ, ◌+◌, ◌≤◌, Bool, true, None, List, [], ◌∷◌, ◌++◌, length}
use Rattle.vx_base.specs.Named.{Word}
use Rattle.vx_config_parts.specs.declared.object.Object.{Object}
use Rattle.vx_config_parts.specs.declared.vol.Vol.{Vol}
use Rattle.vx_rules.specs.References.{repeated_after}
use Rattle.vx_objects.specs.declared.config.Config.{Config}
use Rattle.vx_objects.specs.declared.edit.Edit.TheVariants.{Make}
use Rattle.vx_objects.specs.Applied.{IsEdited}
use Rattle.vx_objects.specs.Config.{objects_of}
use Rattle.vx_state_edits.specs.Edits.{start_edits}
use Rattle.vx_state_edits.specs.Laws.{IsRecorded}
use Rattle.vx_moments.specs.Copies.{IsTextOf}
use Rattle.vx_moments.specs.World.{Group}
use Rattle.vx_new_volumes.specs.declared.volume.NewVolume.{NewVolume}
use Rattle.vx_script_forms.specs.declared.form.Form.TheVariants.{AssistMake}
use Rattle.vx_script_forms.specs.declared.form.MakeAttrs.{MakeAttrs}
use Rattle.vx_script.specs.Kept.{is_command}
use Rattle.vx_script.specs.declared.command.Command.{Command}
use Rattle.vx_plans.specs.Plans.{new_volume}
use Rattle.vx_stages.specs.Making.{adding_refusal}
use Rattle.vx_stages.specs.Sources.{IsLaid, growth}
use Rattle.vx_stages.specs.declared.stage.Source.TheVariants.{Volume}

-- no name is had twice, in the group and in what is added to it
abbrev pub EachNewVolumeHasNewNames : Type 0
EachNewVolumeHasNewNames =
    (is_started : Word → Bool) (g : Group) (n : NewVolume) (added : List Object) → IsLaid is_started g n added
    → repeated_after [] (objects_of g.config ++ added) ≡ None

-- What the grammar of `vxassist make` says of a request beside its tests: it asks for a plex, and a unit of its own goes with
-- several columns alone.
pub record IsAsked (n : NewVolume) : Type 0 where
  pub some : 1 ≤ n.request.mirrors
  pub unit : n.request.ncol ≡ 1 → n.request.unit ≡ 128

-- none of the tests of added records refuses a new volume that passes its own tests and has a plan
abbrev pub EachNewVolumeIsLetThrough : Type 0
EachNewVolumeIsLetThrough =
    (is_started : Word → Bool) (g : Group) (n : NewVolume) (added : List Object) → IsLaid is_started g n added → IsAsked n
    → adding_refusal is_started (objects_of g.config) added ≡ None

-- A new volume is started for the first time: the text of its group is then longer by what was kept for it, a byte for each plex
-- and for the volume.
abbrev pub EachStartIsLongerByItsGrowth : Type 0
EachStartIsLongerByItsGrowth =
    (is_started : Word → Bool) (g : Group) (n : NewVolume) (added : List Object) → IsLaid is_started g n added
    → (made : Config) → IsEdited (Make added ∷ []) g.config made → (v : Vol) → IsRecorded made v → v.name ≡ n.vol
    → (started : Config) → IsEdited (start_edits made v) made started
    → (text later : List ℕ) → IsTextOf made text → IsTextOf started later → length later ≡ length text + growth (Volume n) added

-- each line of `vxassist make` that keeps the ranges of its words, as all that are read do, asks so
abbrev pub EachReadVolumeIsAsked : Type 0
EachReadVolumeIsAsked =
    (c : Command) (vol : Word) (length : ℕ) (attrs : MakeAttrs) (disks : List Word) → is_command c ≡ true → c.form ≡ AssistMake vol length attrs disks
    → IsAsked (new_volume vol length attrs disks)

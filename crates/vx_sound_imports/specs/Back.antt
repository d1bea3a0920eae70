-- A group that has left comes back as an import finds it.
use Rattle.std.specs.Prelude.{◌≡◌, ℕ, false, Some, Contains}
use Rattle.vx_mask.specs.Mask.{has}
use Rattle.vx_config_parts.specs.declared.vol.Vol.{Vol}
use Rattle.vx_objects.specs.declared.config.Config.{Config}
use Rattle.vx_objects.specs.Config.{objects_of}
use Rattle.vx_script_forms.specs.declared.form.Form.TheVariants as forms
use Rattle.vx_script.specs.declared.command.Command.{Command}
use Rattle.vx_answers.specs.declared.answer.Answer.{Answer}
use Rattle.vx_state_edits.specs.Edits.{is_new}
use Rattle.vx_moments.specs.Commit.{NoneFailed}
use Rattle.vx_moments.specs.Moment.{Moment}
use Rattle.vx_moments.specs.World.{Group, Volume, World}
use Rattle.vx_moments.specs.Group.{image_on}
use Rattle.vx_moments.specs.Volumes.{StandsForVolume}
use Rattle.vx_plans.specs.Steps.{Step}
use Rattle.vx_stages.specs.Finding.{import_records, needs_sync_state}
use Rattle.vx_readings.specs.Readings.{HaveSameRecords}
use Rattle.vx_sound_volumes.specs.Volumes.{GroupLeaves}
use Rattle.vx_sound_imports.specs.Offered.{AreAllSound}

-- the volume as an import records it: where it may have been written to as it was left, it needs to be made equal
abbrev pub imported : Vol → Vol
imported v = record v { state = needs_sync_state v.state }

-- The group is back: its records are the same in some order, but for such volumes; the same slots are good; and of each volume that was
-- started before, the bytes stand for whatever volume they stood for as the group had left.
pub record IsBack (g : Group) (left : World) (h : Group) (now : World) : Type 0 where
  pub read : Config
  pub same : HaveSameRecords g.config read
  pub records : objects_of h.config ≡ import_records read
  pub good : (slot : ℕ) → has h.good slot ≡ has g.good slot
  pub there : (v : Vol) → Contains g.config.volumes v → Contains h.config.volumes (imported v)
  pub stands : (v : Vol) → Contains g.config.volumes v → is_new v.state ≡ false → (run : Volume) → StandsForVolume (image_on left.devices g v) run → StandsForVolume (image_on now.devices h (imported v)) run

-- Where all was sound, a group that left by a deport, its loss or the loss of the power is back once it is imported in what was left, if no
-- device has failed.
abbrev pub EachGroupComesBack : Type 0
EachGroupComesBack =
    (place : ℕ) (w left : World) (g : Group) → AreAllSound place w → w.group ≡ Some g → GroupLeaves w left →
    (at : ℕ) (c : Command) (old : Moment) (answer : Answer) (new : Moment) → c.form ≡ forms.DgImport g.config.group → old.world ≡ left → Step at c old answer new → NoneFailed old.counts new.counts →
    (h : Group) → new.world.group ≡ Some h → IsBack g left h new.world

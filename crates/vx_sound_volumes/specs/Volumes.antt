-- Volumes of the imported group whose bytes are sound.
use Rattle.std.specs.Prelude.{◌≡◌, ◌⊎◌, ℕ, true, false, Option, Some, None, IsSome, [], Contains}
use Rattle.vx_base.specs.Named.{Word}
use Rattle.vx_config_parts.specs.declared.vol.Vol.{Vol}
use Rattle.vx_state_edits.specs.Edits.{is_new}
use Rattle.vx_script_forms.specs.declared.form.Form.{Form}
use Rattle.vx_script_forms.specs.declared.form.Form.TheVariants as forms
use Rattle.vx_image.specs.Soundness.{IsSoundImage}
use Rattle.vx_moments.specs.Holding.{IsLent}
use Rattle.vx_moments.specs.Leaving.{PowerGoes, group_gone, grouped}
use Rattle.vx_moments.specs.World.{Device, Group, Member, Volume, World}
use Rattle.vx_moments.specs.Group.{HaveOwnDevices, image_on}
use Rattle.vx_moments.specs.Lives.{GroupStands}
use Rattle.vx_stages.specs.GroupCalls.{comes_next}
use Rattle.vx_stages.specs.Tests.{fails}
use Rattle.vx_stages.specs.declared.test.Test.TheVariants as tests

-- each volume of the group that was started before is sound by what these devices hold
abbrev pub AreSoundOn : (Word → Option Device) → Group → Type 0
AreSoundOn devices g = (v : Vol) → Contains g.config.volumes v → is_new v.state ≡ false → IsSoundImage (image_on devices g v)

-- The world has sound volumes.
pub record HasSoundVolumes (w : World) : Type 0 where
  -- each volume of the imported group that was started before, and does not run, is sound as its bytes are
  pub stopped : (g : Group) → w.group ≡ Some g → (v : Vol) → Contains g.config.volumes v → is_new v.state ≡ false → grouped (w.volumes v.name) ≡ None → IsSoundImage (image_on w.devices g v)
  -- each that runs on plexes was sound as it began
  pub running : (name : Word) (run : Volume) → grouped (w.volumes name) ≡ Some run → run.sound ≡ true

-- no device has disks of two slots of the group, each is there, and no started volume has it whole
pub record HasOwnDisks (w : World) (g : Group) : Type 0 where
  pub own : HaveOwnDevices g.members
  pub there : (m : Member) → Contains g.members m → IsSome (w.devices m.device)
  pub apart : (m : Member) → Contains g.members m → IsLent w m.device → ⊥

-- What is known before the command at this place of the script: the world has sound volumes, the imported group has its disks, and the
-- life of each volume that runs on plexes has entries of earlier commands alone.
pub record IsSoundBefore (place : ℕ) (w : World) : Type 0 where
  pub sound : HasSoundVolumes w
  pub disks : (g : Group) → w.group ≡ Some g → HasOwnDisks w g
  pub order : (name : Word) (run : Volume) → grouped (w.volumes name) ≡ Some run → comes_next place run.life ≡ true

-- the group that an import has brought, where none was there before, has sound volumes
abbrev pub BringsSound : Form → World → World → Type 0
BringsSound (forms.DgImport dg) old new = old.group ≡ None → (g : Group) → new.group ≡ Some g → AreSoundOn new.devices g
BringsSound other old new = Unit {0}

-- the group that a command let go, or that it was over with
abbrev pub HadGroup : Form → World → World → Group → Type 0
HadGroup (forms.DgDeport dg) old over g = old.group ≡ Some g
HadGroup other old over g = over.group ≡ Some g

-- The group leaves: none of its volumes is started, or its bytes stand for those that run; and it is gone alone, or the power is.
abbrev pub GroupLeaves : World → World → Type 0
GroupLeaves w left = ((fails tests.NoneStarted [] w ≡ None) × (left ≡ group_gone w)) ⊎ (GroupStands w × ((left ≡ group_gone w) ⊎ PowerGoes w left))

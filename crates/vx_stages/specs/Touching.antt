-- What a command does to one volume of the imported group by calls on its devices: its sectors alone change, and why it ends.
use Rattle.std.specs.Prelude.{◌≡◌, true, false, Some, [], Contains}
use Rattle.vx_base.specs.Named.{Word, put}
use Rattle.vx_config_parts.specs.declared.vol.Vol.{Vol}
use Rattle.vx_image.specs.Narrowing.{IsNarrowed}
use Rattle.vx_state_edits.specs.Edits.{is_new}
use Rattle.vx_answers.specs.declared.answer.End.{End}
use Rattle.vx_answers.specs.declared.answer.End.TheVariants as ends
use Rattle.vx_moments.specs.World.{Group, Member, Volume}
use Rattle.vx_moments.specs.Moment.{Counts, HasFailed, Moment}
use Rattle.vx_moments.specs.Group.{ChangesOnly, image_on}
use Rattle.vx_moments.specs.Owners.{IsDeviceOfVolume}
use Rattle.vx_stages.specs.GroupCalls.{CallsOnly}

-- ---- what has changed

-- Nothing but sectors of the volume has changed, and no device was called but its own.
pub record IsTouched (g : Group) (vol : Word) (old new : Moment) : Type 0 where
  pub world : new.world ≡ record old.world { devices = new.world.devices }
  pub changes : ChangesOnly g vol old.world.devices new.world.devices
  pub calls : CallsOnly g vol old.counts new.counts

-- The copies of the log of a volume that was started before have come nearer to one another, and nothing else of its image has changed. Of one
-- that was never started nothing is said: its log is made new.
abbrev pub Narrows : Group → Vol → Moment → Moment → Type 0
Narrows g v old new = is_new v.state ≡ false → IsNarrowed (image_on old.world.devices g v) (image_on new.world.devices g v)

-- beside that, the started volume is this one now
pub record VolumeGoes (g : Group) (vol : Word) (later : Volume) (old new : Moment) : Type 0 where
  pub world : new.world ≡ record old.world { devices = new.world.devices; volumes = put vol (Some later) old.world.volumes }
  pub changes : ChangesOnly g vol old.world.devices new.world.devices
  pub calls : CallsOnly g vol old.counts new.counts

-- ---- why it has ended so

-- a device of the volume has failed, and the disk of the group on it is told
pub record FailsOn (g : Group) (vol : Word) (old new : Counts) (told device : Word) : Type 0 where
  pub member : Member
  pub there : Contains g.members member
  pub device_is : member.device ≡ device
  pub disk_is : member.disk ≡ told
  pub own : IsDeviceOfVolume g vol device
  pub failed : HasFailed old new device

-- on some device of the volume the power is gone
abbrev pub IsCutOff : Group → Word → Counts → Type 0
IsCutOff g vol counts = (device : Word) × IsDeviceOfVolume g vol device × (counts.cut device ≡ true)

-- a pass over the volume that is not done has a cause; nothing is told of parts
abbrev pub PassHasCause : Group → Word → Counts → Counts → End → Type 0
PassHasCause g vol old new (ends.Fault told device parts) = (parts ≡ []) × FailsOn g vol old new told device
PassHasCause g vol old new (ends.Lost parts) = (parts ≡ []) × IsCutOff g vol new
PassHasCause g vol old new other = ⊥

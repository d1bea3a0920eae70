-- How the start of a volume ends, on its group.
use Rattle.std.specs.Prelude.{◌≡◌, ◌⊎◌, ℕ, true, false, Some, None}
use Rattle.vx_base.specs.Named.{Word}
use Rattle.vx_pages.specs.declared.local_piece.LocalPiece.{Ghosts}
use Rattle.vx_piece.specs.Seen.{Seen}
use Rattle.vx_config_parts.specs.declared.vol.Vol.{Vol}
use Rattle.vx_objects.specs.Applied.{IsEdited}
use Rattle.vx_objects.specs.declared.config.Config.{Config}
use Rattle.vx_state_edits.specs.Edits.{start_edits}
use Rattle.vx_answers.specs.declared.answer.End.TheVariants as ends
use Rattle.vx_answers.specs.declared.refusal.Refusal.{Refusal}
use Rattle.vx_answers.specs.declared.refusal.Refusal.TheVariants as refusal
use Rattle.vx_lending.specs.declared.public.Running.{Running}
use Rattle.vx_group_start.specs.Fresh.{is_fresh}
use Rattle.vx_stages.specs.Ends.{RefusedAsLong}
use Rattle.vx_stages.specs.Starting.{may_start}
use Rattle.vx_stages.specs.Tests.{volume_in}
use Rattle.vx_house.specs.declared.house.Imported.{Imported}
use Rattle.vx_house.specs.declared.stop.Stop.{Stop}
use Rattle.vx_house.specs.declared.stop.Stop.TheVariants as stops
use Rattle.vx_stage_changes.specs.declared.planning.NextConfig.{NextConfig}
use Rattle.vx_stage_changes.specs.Planning.{IsPlanned}
use Rattle.vx_stage_volumes.specs.Early.{refusal_here}
use Rattle.vx_stage_volumes.specs.Opening.{IsUnopenedIn, OpensIn, good_of}
use Rattle.vx_stage_volumes.specs.Parting.{IsReadyToOpen, PartsGroup}
use Rattle.vx_stage_volumes.specs.Recording.{IsHeldIn, IsRecordedIn, IsResynchronised}

-- ---- tests

-- nothing refuses the start of the volume, and this is to be recorded
pub record IsPlannedStart (c : Config) (good : ℕ) (v : Vol) (next : NextConfig) : Type 0 where
  pub may : may_start v.state ≡ true
  pub early : refusal_here c good v ≡ None
  pub planned : IsPlanned (start_edits c v) c next

-- a test refuses it before anything is touched: its state, the configuration and the good disks, or the length of the text
abbrev pub IsRefusedStart : Config → ℕ → Vol → Stop → Type 0
IsRefusedStart c good v (stops.Ended end) =
    ((may_start v.state ≡ false) × (end ≡ ends.Refused (refusal.VolState v.state)))
    ⊎ ((may_start v.state ≡ true) × (
    ((r : Refusal) × (refusal_here c good v ≡ Some r) × (end ≡ ends.Refused r))
    ⊎ ((refusal_here c good v ≡ None) × (next : Config) × IsEdited (start_edits c v) c next × RefusedAsLong next end)))
IsRefusedStart c good v stops.OutOfMemory = Unit {0}

-- so is the start of the volume of the name, or there is none
abbrev pub IsRefusedNow : Word → Config → ℕ → Stop → Type 0
IsRefusedNow name c good stop =
    ((volume_in name c.volumes ≡ None) × (stop ≡ stops.Ended (ends.Refused (refusal.NoObject name))))
    ⊎ ((v : Vol) × (volume_in name c.volumes ≡ Some v) × IsRefusedStart c good v stop)

-- ---- the group

-- The volume of the name may start, what is to be recorded is planned, and the devices of the group are parted.
pub record IsPrepared {P : Type 0} {ghosts : Ghosts P} (see : P → Seen) (name : Word) (v : Vol) (next : NextConfig) (old mid : Imported P ghosts) : Type 0 where
  pub found : volume_in name old.config.volumes ≡ Some v
  pub planned : IsPlannedStart old.config (good_of see old) v next
  pub parts : PartsGroup see old mid
  pub ready : IsReadyToOpen see mid

-- it was not opened
pub record EndsUnopened {P : Type 0} {ghosts : Ghosts P} (see : P → Seen) (name : Word) (stop : Stop) (old new : Imported P ghosts) : Type 0 where
  pub volume : Vol
  pub next : NextConfig
  pub mid : Imported P ghosts
  pub prepared : IsPrepared see name volume next old mid
  pub unopened : IsUnopenedIn see volume mid new stop

-- it was opened, and not recorded
pub record EndsUnrecorded {P : Type 0} {ghosts : Ghosts P} (see : P → Seen) (name : Word) (stop : Stop) (old new : Imported P ghosts) : Type 0 where
  pub volume : Vol
  pub next : NextConfig
  pub mid : Imported P ghosts
  pub prepared : IsPrepared see name volume next old mid
  pub running : Running P ghosts
  pub opened : Imported P ghosts
  pub opens : OpensIn see volume mid opened running
  pub held : IsHeldIn see running next stop opened new

-- it runs, and was copied to
pub record EndsRunning {P : Type 0} {ghosts : Ghosts P} (see : P → Seen) (name : Word) (stop : Stop) (old new : Imported P ghosts) : Type 0 where
  pub volume : Vol
  pub next : NextConfig
  pub mid : Imported P ghosts
  pub prepared : IsPrepared see name volume next old mid
  pub running : Running P ghosts
  pub opened : Imported P ghosts
  pub opens : OpensIn see volume mid opened running
  pub recorded : Imported P ghosts
  pub records : IsRecordedIn see name running next opened recorded
  pub copied : IsResynchronised see name (is_fresh volume.state) stop recorded new

-- how a start of the volume of the name ends: refused or for want of memory before it is opened, not opened, not recorded, or copied to
abbrev pub StartEnds : {P : Type 0} {ghosts : Ghosts P} → (P → Seen) → Word → Stop → Imported P ghosts → Imported P ghosts → Type 0
StartEnds see name stop old new =
    (PartsGroup see old new × IsRefusedNow name old.config (good_of see old) stop)
    ⊎ (((stop ≡ stops.OutOfMemory) × PartsGroup see old new)
    ⊎ (EndsUnopened see name stop old new
    ⊎ (EndsUnrecorded see name stop old new ⊎ EndsRunning see name stop old new)))

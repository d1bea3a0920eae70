-- A volume whose recovery is recorded as begun, and how it is opened out of the pieces of its group.
use Rattle.std.specs.Prelude.{◌≡◌, ◌⊎◌, Some, None}
use Rattle.vx_base.specs.Named.{Word}
use Rattle.vx_pages.specs.declared.local_piece.LocalPiece.{Ghosts}
use Rattle.vx_piece.specs.Seen.{Seen}
use Rattle.vx_config_parts.specs.declared.state.VolState.TheVariants as vol
use Rattle.vx_config_parts.specs.declared.vol.Vol.{Vol}
use Rattle.vx_answers.specs.declared.answer.End.TheVariants as ends
use Rattle.vx_answers.specs.declared.refusal.Refusal.{Refusal}
use Rattle.vx_stages.specs.Tests.{volume_in}
use Rattle.vx_lending.specs.Public.{running_at}
use Rattle.vx_lending.specs.declared.public.Running.{Running}
use Rattle.vx_house.specs.declared.house.Imported.{Imported}
use Rattle.vx_house.specs.declared.stop.Stop.{Stop}
use Rattle.vx_house.specs.declared.stop.Stop.TheVariants as stops
use Rattle.vx_stage_volumes.specs.Early.{refusal_here}
use Rattle.vx_stage_volumes.specs.Opening.{IsUnopenedIn, OpensIn, good_of}
use Rattle.vx_stage_volumes.specs.Parting.{IsReadyToOpen, PartsGroup}

-- the group records the volume of the name as one whose recovery is begun, and it does not run
pub record IsBegunIn {P : Type 0} {ghosts : Ghosts P} (name : Word) (g : Imported P ghosts) (v : Vol) : Type 0 where
  pub found : volume_in name g.config.volumes ≡ Some v
  pub state : v.state ≡ vol.Sync
  pub absent : running_at g.public name ≡ None

-- nothing refuses it at once, and the group is parted and ready
pub record IsReadyFor {P : Type 0} {ghosts : Ghosts P} (see : P → Seen) (v : Vol) (old mid : Imported P ghosts) : Type 0 where
  pub early : refusal_here old.config (good_of see old) v ≡ None
  pub parts : PartsGroup see old mid
  pub ready : IsReadyToOpen see mid

-- it was opened
pub record IsOpenedOut {P : Type 0} {ghosts : Ghosts P} (see : P → Seen) (v : Vol) (old new : Imported P ghosts) (running : Running P ghosts) : Type 0 where
  pub mid : Imported P ghosts
  pub ready : IsReadyFor see v old mid
  pub opens : OpensIn see v mid new running

-- a test refuses it at once, and nothing was done
pub record IsRefusedOut {P : Type 0} {ghosts : Ghosts P} (see : P → Seen) (v : Vol) (old new : Imported P ghosts) (stop : Stop) : Type 0 where
  pub refusal : Refusal
  pub refused : refusal_here old.config (good_of see old) v ≡ Some refusal
  pub stop_is : stop ≡ stops.Ended (ends.Refused refusal)
  pub same : new ≡ old

-- it was not opened, once the group was ready
pub record IsLeftOut {P : Type 0} {ghosts : Ghosts P} (see : P → Seen) (v : Vol) (old new : Imported P ghosts) (stop : Stop) : Type 0 where
  pub mid : Imported P ghosts
  pub ready : IsReadyFor see v old mid
  pub unopened : IsUnopenedIn see v mid new stop

-- why it was not: a test, want of memory before it was ready, or a cause as it was opened
abbrev pub IsUnopenedOut : {P : Type 0} {ghosts : Ghosts P} → (P → Seen) → Vol → Imported P ghosts → Imported P ghosts → Stop → Type 0
IsUnopenedOut see v old new stop =
    IsRefusedOut see v old new stop ⊎ (((stop ≡ stops.OutOfMemory) × PartsGroup see old new) ⊎ IsLeftOut see v old new stop)

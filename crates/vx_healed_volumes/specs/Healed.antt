-- A volume that was opened over its bytes, and healed so far.
use Rattle.std.specs.Prelude.{◌≡◌, ℕ, true, false, List, Result}
use Rattle.std.specs.List.{All}
use Rattle.vx_base.specs.Blocks.{Contents}
use Rattle.vx_piece.specs.Seen.{Seen}
use Rattle.vx_carve.specs.Together.{Holds}
use Rattle.vx_pages.specs.declared.local_piece.LocalPiece.{Ghosts}
use Rattle.vx_config_parts.specs.declared.vol.Vol.{Vol}
use Rattle.vx_objects.specs.declared.config.Config.{Config}
use Rattle.vx_image.specs.Bytes.{Sectors}
use Rattle.vx_image.specs.UsedPlexes.{IsVolOf}
use Rattle.vx_lending.specs.Form.{IsFormOf}
use Rattle.vx_lending.specs.Left.{held_pieces}
use Rattle.vx_lending.specs.Public.{still_pieces}
use Rattle.vx_lending.specs.declared.public.Public.{Public}
use Rattle.vx_lending.specs.declared.public.Running.{Running}
use Rattle.vx_volume.specs.declared.fault.IoFault.{IoFault}
use Rattle.vx_volume.specs.Log.{LogGoes}
use Rattle.vx_volume.specs.Volume.{IsVolume, log_of, shape_of, volume_seen}
use Rattle.vx_volume_laws.specs.Contents.{AreSectorsOf}
use Rattle.vx_group_start.specs.Started.{IsStarted}
use Rattle.vx_group_recover.specs.Healing.{Heals}
use Rattle.vx_group_recover.specs.declared.healing.Healed.{Healed}
use Rattle.vx_recovery.specs.Recovering.{is_recovered}

-- A volume of the configuration that ran as the power went, or whose recovery was begun, was opened out of the pieces of its group; its log was
-- loaded. It was healed with this result, and is the other one now.
pub record IsHealedBy {P : Type 0} {ghosts : Ghosts P} (see : P → Seen) (c : Config) (good : ℕ) (v : Vol) (numbers : List ℕ) (old new : Public P ghosts) (running after : Running P ghosts) (result : Result Healed IoFault) : Type 0 where
  pub of : IsVolOf c v
  pub state : is_recovered v.state ≡ true
  pub form : IsFormOf c good v false running.form
  pub started : IsStarted see v numbers old new running
  pub heals : Heals (volume_seen see running.volume) (volume_seen see after.volume) result
  pub whole : IsVolume (volume_seen see after.volume)
  pub form_is : after.form ≡ running.form
  pub shape : shape_of after.volume ≡ shape_of running.volume
  pub follows : LogGoes see (log_of running.volume) (log_of after.volume)

-- These are the sectors of the good disks before it was opened, and those afterwards.
pub record AreSectorsAround {P : Type 0} {ghosts : Ghosts P} (see : P → Seen) (good : ℕ) (numbers : List ℕ) (old : Public P ghosts) (after : Running P ghosts) (before behind : Sectors) : Type 0 where
  pub contents : ℕ → Contents
  pub held : All (Holds contents) (still_pieces see old)
  pub were : AreSectorsOf good numbers contents before
  pub contents' : ℕ → Contents
  pub held' : All (Holds contents') (held_pieces see after.volume)
  pub are : AreSectorsOf good numbers contents' behind

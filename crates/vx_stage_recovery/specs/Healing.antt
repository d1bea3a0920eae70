-- How the healing of a volume ends, on its group.
use Rattle.std.specs.Prelude.{◌≡◌, ◌⊎◌, ◌++◌, Result, Ok, Err}
use Rattle.vx_base.specs.Named.{Word}
use Rattle.vx_pages.specs.declared.local_piece.LocalPiece.{Ghosts}
use Rattle.vx_piece.specs.Seen.{Seen}
use Rattle.vx_carve.specs.Together.{SameSectors}
use Rattle.vx_config_parts.specs.declared.vol.Vol.{Vol}
use Rattle.vx_volume.specs.declared.fault.IoFault.{IoFault}
use Rattle.vx_volume.specs.Log.{LogGoes}
use Rattle.vx_volume.specs.Volume.{IsVolume, log_of, shape_of, volume_seen}
use Rattle.vx_lending.specs.Left.{held_pieces}
use Rattle.vx_lending.specs.declared.public.Running.{Running}
use Rattle.vx_group_recover.specs.Healing.{Heals}
use Rattle.vx_group_recover.specs.declared.healing.Healed.{Healed}
use Rattle.vx_group_start.specs.Laying.{AreStuckVolumes, public_pieces}
use Rattle.vx_house.specs.declared.house.Imported.{Imported}
use Rattle.vx_house.specs.declared.stop.Stop.{Stop}
use Rattle.vx_house.specs.declared.stop.Stop.TheVariants as stops
use Rattle.vx_stage_volumes.specs.Naming.{copied}
use Rattle.vx_stage_recovery.specs.Opening.{IsBegunIn, IsOpenedOut, IsUnopenedOut}

-- the volume was healed with this result, and is the other one now
pub record HealsTo {P : Type 0} {ghosts : Ghosts P} (see : P → Seen) (running after : Running P ghosts) (result : Result Healed IoFault) : Type 0 where
  pub heals : Heals (volume_seen see running.volume) (volume_seen see after.volume) result
  pub whole : IsVolume (volume_seen see after.volume)
  pub form_is : after.form ≡ running.form
  pub shape : shape_of after.volume ≡ shape_of running.volume
  pub follows : LogGoes see (log_of running.volume) (log_of after.volume)

-- its pieces are back among those of the group, of which nothing else has changed
pub record IsPutBack {P : Type 0} {ghosts : Ghosts P} (see : P → Seen) (after : Running P ghosts) (old new : Imported P ghosts) : Type 0 where
  pub same : new ≡ record old { public = new.public }
  pub entries : new.public.running.entries ≡ old.public.running.entries
  pub stuck : AreStuckVolumes see new.public.stuck.items
  pub together : SameSectors (held_pieces see after.volume ++ public_pieces see old.public) (public_pieces see new.public)

-- how the step is answered: with the numbers, or with the names of a device that failed
abbrev pub told_of : {P : Type 0} {ghosts : Ghosts P} → (P → Seen) → Imported P ghosts → Result Healed IoFault → Result Healed Stop
told_of see g (Ok healed) = Ok healed
told_of see g (Err fault) = Err (copied see g.base.disks.items (Err fault))

-- an open volume was healed, and put back
pub record IsHealedIn {P : Type 0} {ghosts : Ghosts P} (see : P → Seen) (running : Running P ghosts) (told : Result Healed Stop) (old new : Imported P ghosts) : Type 0 where
  pub after : Running P ghosts
  pub result : Result Healed IoFault
  pub heals : HealsTo see running after result
  pub back : IsPutBack see after old new
  pub told_is : told ≡ told_of see old result

-- it was opened, healed, and put back
pub record HealsOut {P : Type 0} {ghosts : Ghosts P} (see : P → Seen) (name : Word) (told : Result Healed Stop) (old new : Imported P ghosts) : Type 0 where
  pub volume : Vol
  pub begun : IsBegunIn name old volume
  pub opened : Imported P ghosts
  pub running : Running P ghosts
  pub opens : IsOpenedOut see volume old opened running
  pub healed : IsHealedIn see running told opened new

-- it was not opened
pub record HealsNot {P : Type 0} {ghosts : Ghosts P} (see : P → Seen) (name : Word) (stop : Stop) (old new : Imported P ghosts) : Type 0 where
  pub volume : Vol
  pub begun : IsBegunIn name old volume
  pub unopened : IsUnopenedOut see volume old new stop

-- by the answer: it was opened and healed, perhaps not to the end; or it was not opened; or nothing was done for want of memory
abbrev pub HealEnds : {P : Type 0} {ghosts : Ghosts P} → (P → Seen) → Word → Result Healed Stop → Imported P ghosts → Imported P ghosts → Type 0
HealEnds see name (Ok healed) old new = HealsOut see name (Ok healed) old new
HealEnds see name (Err stop) old new = ((stop ≡ stops.OutOfMemory) × (new ≡ old)) ⊎ (HealsNot see name stop old new ⊎ HealsOut see name (Err stop) old new)

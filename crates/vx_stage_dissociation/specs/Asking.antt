-- How the log of a volume that does not run is asked whether a plex can be spared, on the imported group.
use Rattle.std.specs.Prelude.{◌≡◌, ◌++◌, ℕ, Bool, MatchBool}
use Rattle.vx_base.specs.Named.{Word}
use Rattle.vx_piece.specs.Seen.{Seen}
use Rattle.vx_pages.specs.declared.local_piece.LocalPiece.{Ghosts}
use Rattle.vx_carve.specs.Together.{SameSectors}
use Rattle.vx_config_parts.specs.declared.vol.Vol.{Vol}
use Rattle.vx_answers.specs.declared.answer.End.TheVariants as ends
use Rattle.vx_answers.specs.declared.refusal.Refusal.TheVariants as refusal
use Rattle.vx_volume.specs.Switching.{CanSpare, Needs}
use Rattle.vx_volume.specs.Volume.{volume_seen}
use Rattle.vx_lending.specs.Left.{held_pieces}
use Rattle.vx_lending.specs.declared.public.Running.{Running}
use Rattle.vx_group_start.specs.Laying.{AreStuckVolumes, public_pieces}
use Rattle.vx_house.specs.declared.house.Imported.{Imported}
use Rattle.vx_house.specs.declared.stop.Stop.{Stop}
use Rattle.vx_house.specs.declared.stop.Stop.TheVariants as stops
use Rattle.vx_stage_volumes.specs.Opening.{OpensIn}

-- The pieces of a volume that was opened are back among those of the group, or it is held whole among those that could not be put back.
pub record IsPutBack {P : Type 0} {ghosts : Ghosts P} (see : P → Seen) (running : Running P ghosts) (old new : Imported P ghosts) : Type 0 where
  pub same : new ≡ record old { public = new.public }
  pub runs : new.public.running ≡ old.public.running
  pub together : SameSectors (held_pieces see running.volume ++ public_pieces see old.public) (public_pieces see new.public)
  pub stuck : AreStuckVolumes see new.public.stuck.items

-- The volume was opened out of the pieces of the group, and put back; it needs the plex of this map in some region, or can spare it.
pub record AsksIn {P : Type 0} {ghosts : Ghosts P} (see : P → Seen) (v : Vol) (map : ℕ) (needed : Bool) (old new : Imported P ghosts) : Type 0 where
  pub opened : Imported P ghosts
  pub running : Running P ghosts
  pub opens : OpensIn see v old opened running
  pub says : MatchBool needed (Needs map (volume_seen see running.volume)) (CanSpare map (volume_seen see running.volume))
  pub back : IsPutBack see running opened new

-- the stop of a command that was to take the plex out, where its volume was not opened: without a current plex in some region it is the only one
abbrev pub unspared : Word → Stop → Stop
unspared plex (stops.Ended (ends.Refused (refusal.NoCurrent region))) = stops.Ended (ends.Refused (refusal.OnlyPlex plex))
unspared plex other = other

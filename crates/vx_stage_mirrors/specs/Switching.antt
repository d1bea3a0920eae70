-- A data plex of a running volume goes on or off, once its state is recorded.
use Rattle.std.specs.Prelude.{◌≡◌, ℕ, Bool, false, Some, Err, Ok, Result}
use Rattle.std.specs.BTreeMap.{BTreeMap, IsOrdered, get, is_at}
use Rattle.std.specs.Cmp.Lexicographic.{slice_cmp}
use Rattle.std.specs.Map.{set_value}
use Rattle.std.specs.Ordering.{nat_cmp}
use Rattle.vx_base.specs.Named.{SameUnder, Word, put}
use Rattle.vx_piece.specs.Seen.{Seen}
use Rattle.vx_pages.specs.declared.local_piece.LocalPiece.{Ghosts}
use Rattle.vx_volume.specs.Switching.{CanSpare, HasPlex}
use Rattle.vx_volume.specs.Volume.{IsVolume, volume_seen}
use Rattle.vx_lending.specs.declared.public.Running.{Running}
use Rattle.vx_joined_volumes.specs.Switched.{HasSwitched, IsFormSwitched}
use Rattle.vx_house.specs.declared.house.Imported.{Imported}
use Rattle.vx_house.specs.declared.stop.Stop.{Stop}
use Rattle.vx_stage_changes.specs.Committing.{IsFinished}
use Rattle.vx_stage_changes.specs.declared.planning.NextConfig.{NextConfig}
use Rattle.vx_stage_mirrors.specs.Relogging.{RecordEnds}

-- each region of the volume has the plex, and to go off it can be spared in each
pub record MaySwitch {P : Type 0} {ghosts : Ghosts P} (see : P → Seen) (map : ℕ) (on : Bool) (r : Running P ghosts) : Type 0 where
  pub whole : IsVolume (volume_seen see r.volume)
  pub there : HasPlex map (volume_seen see r.volume)
  pub spare : on ≡ false → CanSpare map (volume_seen see r.volume)

-- One of the running volumes is another, in its place, with the plex on or off, and all others are as they were.
pub record SwitchesOne {P : Type 0} {ghosts : Ghosts P} (see : P → Seen) (name : Word) (map : ℕ) (on : Bool) (old new : BTreeMap Word (Running P ghosts)) : Type 0 where
  pub before : Running P ghosts
  pub after : Running P ghosts
  pub ordered : IsOrdered (slice_cmp nat_cmp) old
  pub was : get (slice_cmp nat_cmp) old name ≡ Some before
  pub entries : new.entries ≡ set_value (is_at (slice_cmp nat_cmp name)) old.entries after
  pub puts : SameUnder (put name (Some after) (get (slice_cmp nat_cmp) old)) (get (slice_cmp nat_cmp) new)
  pub form : IsFormSwitched map on before.form after.form
  pub volume : HasSwitched see map on before.volume after.volume

-- The configuration is the next one, which the commit wrote, and the running volume has the plex on or off; nothing else has changed.
pub record SwitchesIn {P : Type 0} {ghosts : Ghosts P} (see : P → Seen) (name : Word) (map : ℕ) (on : Bool) (next : NextConfig) (old new : Imported P ghosts) : Type 0 where
  pub config : new.config ≡ next.config
  pub finished : IsFinished see next.text.items old.base new.base
  pub runs : SwitchesOne see name map on old.public.running new.public.running
  pub public : new.public ≡ record old.public { running = new.public.running }

-- it was committed and is so, or the commit was not done, and nothing else has changed
abbrev pub SwitchEnds : {P : Type 0} {ghosts : Ghosts P} → (P → Seen) → (name : Word) (map : ℕ) (on : Bool) → NextConfig → Result (Unit {0}) Stop → Imported P ghosts → Imported P ghosts → Type 0
SwitchEnds see name map on next (Ok u) old new = SwitchesIn see name map on next old new
SwitchEnds see name map on next (Err stop) old new = RecordEnds see next (Err stop) old new

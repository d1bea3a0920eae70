-- A running volume of a group is another value that is seen as it was, so its house is the moments that it was.
use Rattle.std.specs.Prelude.{◌≡◌, Some}
use Rattle.std.specs.BTreeMap.{is_at, get}
use Rattle.std.specs.Cmp.Lexicographic.{slice_cmp}
use Rattle.std.specs.Map.{set_value}
use Rattle.std.specs.Ordering.{nat_cmp}
use Rattle.vx_pages.specs.declared.local_piece.LocalPiece.{Ghosts}
use Rattle.vx_base.specs.Named.{Word, put, SameUnder}
use Rattle.vx_piece.specs.Seen.{Seen}
use Rattle.vx_moments.specs.Moment.{Moment}
use Rattle.vx_volume.specs.Volume.{log_of, shape_of, volume_seen}
use Rattle.vx_lending.specs.declared.public.Running.{Running}
use Rattle.vx_lending.specs.Public.{running_at}
use Rattle.vx_house.specs.Scene.{Shelved}
use Rattle.vx_house.specs.View.{IsMoment, Keeps, at, scene}
use Rattle.vx_house.specs.declared.house.House.{House}
use Rattle.vx_house.specs.declared.house.Imported.{Imported}
use Rattle.vx_house_calls.specs.Passes.{with_group}

-- all that contracts see of the volume is as it was
pub record IsSeenSo {P : Type 0} {ghosts : Ghosts P} (see : P → Seen) (before after : Running P ghosts) : Type 0 where
  pub form : after.form ≡ before.form
  pub seen : volume_seen see after.volume ≡ volume_seen see before.volume
  pub shape : shape_of after.volume ≡ shape_of before.volume
  pub log : log_of after.volume ≡ log_of before.volume

-- the running volume of the name is another one that is seen so, and all else of the group is as before
pub record IsUnseenIn {P : Type 0} {ghosts : Ghosts P} (see : P → Seen) (name : Word) (old new : Imported P ghosts) : Type 0 where
  pub before : Running P ghosts
  pub after : Running P ghosts
  pub was : running_at old.public name ≡ Some before
  pub entries : new.public.running.entries ≡ set_value (is_at (slice_cmp nat_cmp name)) old.public.running.entries after
  pub puts : SameUnder (put name (Some after) (get (slice_cmp nat_cmp) old.public.running)) (get (slice_cmp nat_cmp) new.public.running)
  pub same : new ≡ record old { public = record old.public { running = new.public.running } }
  pub seen : IsSeenSo see before after

-- what the house keeps, the moments that it is, and what is seen of its devices stay
pub record StaysAsItIs {P : Type 0} {ghosts : Ghosts P} (see : P → Seen) (shelf : Shelved) (old new : House P ghosts) : Type 0 where
  pub keeps : Keeps see (at shelf old) → Keeps see (at shelf new)
  pub moments : (m : Moment) → IsMoment see (at shelf old) m → IsMoment see (at shelf new) m
  pub scene_is : scene see (at shelf new) ≡ scene see (at shelf old)

abbrev pub EachUnseenChangeStays : {P : Type 0} {ghosts : Ghosts P} → (P → Seen) → House P ghosts → Imported P ghosts → Imported P ghosts → Type 0
EachUnseenChangeStays see h old new = (shelf : Shelved) (name : Word) → h.group ≡ Some old → IsUnseenIn see name old new → StaysAsItIs see shelf h (with_group h new)

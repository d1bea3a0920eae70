-- A data plex leaves a running volume, and its pieces go back to the group.
use Rattle.std.specs.Prelude.{◌≡◌, ◌++◌, ◌==◌, ℕ, zero, suc, ◌≤◌, true, false, Some, List, [], ◌∷◌, length}
use Rattle.std.specs.BTreeMap.{BTreeMap, IsOrdered, get, is_at}
use Rattle.std.specs.Cmp.Lexicographic.{slice_cmp}
use Rattle.std.specs.Map.{set_value}
use Rattle.std.specs.Ordering.{nat_cmp}
use Rattle.vx_base.specs.Named.{SameUnder, Word, put}
use Rattle.vx_piece.specs.Seen.{Seen}
use Rattle.vx_pages.specs.declared.local_piece.LocalPiece.{Ghosts}
use Rattle.vx_carve.specs.Together.{SameSectors}
use Rattle.vx_volume.specs.Parting.{runs_of}
use Rattle.vx_volume.specs.Switching.{CanSpare}
use Rattle.vx_volume.specs.Volume.{IsVolume, volume_seen}
use Rattle.vx_lending.specs.Pieces.{copy_pieces}
use Rattle.vx_lending.specs.Public.{still_pieces}
use Rattle.vx_lending.specs.declared.public.Running.{Running}
use Rattle.vx_joined_volumes.specs.Parted.{HasParted, IsFormParted}
use Rattle.vx_house.specs.declared.house.Imported.{Imported}

-- ---- maps

-- the place of the first of these maps that is this one
abbrev pub IsFirstAt : ℕ → List ℕ → ℕ → Type 0
IsFirstAt m [] n = ⊥
IsFirstAt m (k ∷ ks) zero = (k == m) ≡ true
IsFirstAt m (k ∷ ks) (suc n) = ((k == m) ≡ false) × IsFirstAt m ks n

-- ---- one volume

-- there is a place for each region
abbrev pub HasRoomFor : {P : Type 0} {ghosts : Ghosts P} → (P → Seen) → (room : ℕ) → Running P ghosts → Type 0
HasRoomFor see room r = length (volume_seen see r.volume).cells ≤ room

-- Each region can spare the plex, and there is room for its pieces.
pub record MayTake {P : Type 0} {ghosts : Ghosts P} (see : P → Seen) (map room : ℕ) (r : Running P ghosts) : Type 0 where
  pub whole : IsVolume (volume_seen see r.volume)
  pub many : length r.form.maps.items ≡ length r.form.layouts.items
  pub spare : CanSpare map (volume_seen see r.volume)
  pub room_for : HasRoomFor see room r

-- One of the running volumes is another, in its place, without the plex, of which these are the pieces, and all others are as they were.
pub record TakesOne {P : Type 0} {ghosts : Ghosts P} (see : P → Seen) (name : Word) (map : ℕ) (runs : List (List Seen)) (old new : BTreeMap Word (Running P ghosts)) : Type 0 where
  pub before : Running P ghosts
  pub after : Running P ghosts
  pub ordered : IsOrdered (slice_cmp nat_cmp) old
  pub was : get (slice_cmp nat_cmp) old name ≡ Some before
  pub entries : new.entries ≡ set_value (is_at (slice_cmp nat_cmp name)) old.entries after
  pub puts : SameUnder (put name (Some after) (get (slice_cmp nat_cmp) old)) (get (slice_cmp nat_cmp) new)
  pub form : IsFormParted map before.form after.form
  pub volume : HasParted see map before.volume after.volume
  pub pieces : runs ≡ runs_of map (volume_seen see before.volume)

-- ---- the group

-- the running volume goes on without the plex, whose pieces lie among the others, and all lie together as they lay
pub record TakesIn {P : Type 0} {ghosts : Ghosts P} (see : P → Seen) (name : Word) (map : ℕ) (old new : Imported P ghosts) : Type 0 where
  pub pieces : List (List Seen)
  pub runs : TakesOne see name map pieces old.public.running new.public.running
  pub together : SameSectors (copy_pieces pieces ++ still_pieces see old.public) (still_pieces see new.public)
  pub same : new ≡ record old { public = record old.public { left = new.public.left; running = new.public.running } }

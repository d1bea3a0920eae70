-- A plex that was parked joins a running volume of the imported group, by a commit.
use Rattle.std.specs.Prelude.{◌≡◌, ℕ, ◌+◌, ◌≤◌, Option, Some, IsSomeAnd, List, [], ◌∷◌, ◌++◌, map, vec_len, vec_capacity, Result, Ok, Err}
use Rattle.std.specs.BTreeMap.{BTreeMap, IsOrdered, get, is_at}
use Rattle.std.specs.Cmp.Lexicographic.{slice_cmp}
use Rattle.std.specs.List.{All}
use Rattle.std.specs.Map.{set_value}
use Rattle.std.specs.Ordering.{nat_cmp}
use Rattle.vx_base.specs.Named.{SameUnder, Word, put}
use Rattle.vx_mask.specs.Mask.{only, union}
use Rattle.vx_piece.specs.Seen.{Seen}
use Rattle.vx_pages.specs.declared.local_piece.LocalPiece.{Ghosts}
use Rattle.vx_carve.specs.Together.{SameSectors}
use Rattle.vx_layout.specs.declared.layout.Layout.{Layout}
use Rattle.vx_volume.specs.Changing.{HaveRoom, IsFreeIn, IsPlexFor, PutsPlex}
use Rattle.vx_volume.specs.Opening.{regions_seen}
use Rattle.vx_volume.specs.Volume.{IsVolume, log_of, shape_of, volume_seen}
use Rattle.vx_lending.specs.declared.form.VolumeForm.{VolumeForm}
use Rattle.vx_lending.specs.RegionPieces.{all_pieces, pieces_of}
use Rattle.vx_lending.specs.Public.{still_pieces}
use Rattle.vx_lending.specs.declared.public.Remains.{Remains}
use Rattle.vx_lending.specs.declared.public.Running.{Running}
use Rattle.vx_plex_pieces.specs.Parked.{IsWithoutLog}
use Rattle.vx_plex_pieces.specs.Runs.{HasOnePlex}
use Rattle.vx_joined_volumes.specs.Joined.{IsFormJoined}
use Rattle.vx_house.specs.declared.house.Imported.{Imported}
use Rattle.vx_house.specs.declared.stop.Stop.{Stop}
use Rattle.vx_stage_changes.specs.Committing.{CommitEnds, IsFinished}
use Rattle.vx_stage_changes.specs.declared.planning.NextConfig.{NextConfig}
use Rattle.vx_stage_mirrors.specs.declared.joining.FormRoom.{FormRoom}

-- ---- one volume

-- the pieces can be put into the volume as a plex with the map, which is free, and each region has room for it
pub record MayPut {P : Type 0} {ghosts : Ghosts P} (see : P → Seen) (m : ℕ) (runs : List (List Seen)) (r : Running P ghosts) : Type 0 where
  pub whole : IsVolume (volume_seen see r.volume)
  pub free : IsFreeIn m (volume_seen see r.volume)
  pub plex : IsPlexFor m runs (volume_seen see r.volume)
  pub room : HaveRoom r.volume

-- it was put in, and the form has it
pub record HasPut {P : Type 0} {ghosts : Ghosts P} (see : P → Seen) (m : ℕ) (l : Layout) (runs : List (List Seen)) (before after : Running P ghosts) : Type 0 where
  pub puts : PutsPlex m runs (volume_seen see before.volume) (volume_seen see after.volume)
  pub whole : IsVolume (volume_seen see after.volume)
  pub shape : shape_of after.volume ≡ record (shape_of before.volume) { on = union (shape_of before.volume).on (only m) }
  pub log : log_of after.volume ≡ log_of before.volume
  pub form : IsFormJoined m l before.form after.form

-- empty lists with room for the maps and the layouts of a form, and one more
pub record IsRoomFor (form : VolumeForm) (room : FormRoom) : Type 0 where
  pub no_map : room.maps.items ≡ []
  pub no_layout : room.layouts.items ≡ []
  pub maps : vec_len form.maps + 1 ≤ vec_capacity room.maps
  pub layouts : vec_len form.layouts + 1 ≤ vec_capacity room.layouts

-- ---- the running ones

-- The plex was put into one of the running volumes: it is another, in its place, and all others are as they were.
pub record PutsOne {P : Type 0} {ghosts : Ghosts P} (see : P → Seen) (name : Word) (m : ℕ) (l : Layout) (runs : List (List Seen)) (old new : BTreeMap Word (Running P ghosts)) : Type 0 where
  pub before : Running P ghosts
  pub after : Running P ghosts
  pub ordered : IsOrdered (slice_cmp nat_cmp) old
  pub was : get (slice_cmp nat_cmp) old name ≡ Some before
  pub entries : new.entries ≡ set_value (is_at (slice_cmp nat_cmp name)) old.entries after
  pub puts : SameUnder (put name (Some after) (get (slice_cmp nat_cmp) old)) (get (slice_cmp nat_cmp) new)
  pub has : HasPut see m l runs before after

-- ---- the group

-- the pieces of what is left, region by region
abbrev pub runs_left : {P : Type 0} {ghosts : Ghosts P} → (P → Seen) → Remains P ghosts → List (List Seen)
runs_left see last = map pieces_of (regions_seen see last.regions.items)

-- What is left over last is one plex without a log, whose pieces can be put into the running volume, and there is room for so many runs.
pub record MayJoin {P : Type 0} {ghosts : Ghosts P} (see : P → Seen) (m room : ℕ) (left : List (Remains P ghosts)) (r : Option (Running P ghosts)) : Type 0 where
  pub before : List (Remains P ghosts)
  pub last : Remains P ghosts
  pub left_is : left ≡ before ++ last ∷ []
  pub without : IsWithoutLog see last
  pub one : All HasOnePlex (regions_seen see last.regions.items)
  pub enough : vec_len last.regions ≤ room
  pub may : IsSomeAnd r (MayPut see m (runs_left see last))

-- The plex has joined: the configuration is the next one, which the commit wrote, and what was left over last is in the volume of the name. All
-- else lies as it lay.
pub record IsJoinedIn {P : Type 0} {ghosts : Ghosts P} (see : P → Seen) (name : Word) (m : ℕ) (l : Layout) (next : NextConfig) (old new : Imported P ghosts) : Type 0 where
  pub config : new.config ≡ next.config
  pub finished : IsFinished see next.text.items old.base new.base
  pub last : Remains P ghosts
  pub left : old.public.left.items ≡ new.public.left.items ++ last ∷ []
  pub still : SameSectors (still_pieces see old.public) (all_pieces (regions_seen see last.regions.items) ++ still_pieces see new.public)
  pub runs : PutsOne see name m l (runs_left see last) old.public.running new.public.running
  pub same : new.public ≡ record old.public { left = new.public.left; running = new.public.running }

-- how it ends: the plex has joined, or the commit was not done, and nothing else has changed
abbrev pub JoinEnds : {P : Type 0} {ghosts : Ghosts P} → (P → Seen) → Word → ℕ → Layout → NextConfig → Result (Unit {0}) Stop → Imported P ghosts → Imported P ghosts → Type 0
JoinEnds see name m l next (Ok u) old new = IsJoinedIn see name m l next old new
JoinEnds see name m l next (Err stop) old new = CommitEnds see (Err stop) next.text.items old.base new.base × (new ≡ record old { base = new.base })

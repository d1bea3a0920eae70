-- How a log plex leaves a running volume, on the imported group: its log gives up the copy that lies there, if there is one.
use Rattle.std.specs.Prelude.{◌≡◌, ◌≢◌, ◌⊎◌, ◌++◌, ℕ, ◌<◌, ◌≤◌, Some, List, [], ◌∷◌, length, Result, Ok, Err}
use Rattle.std.specs.BTreeMap.{BTreeMap, IsOrdered, get, is_at}
use Rattle.std.specs.Cmp.Lexicographic.{slice_cmp}
use Rattle.std.specs.Map.{set_value}
use Rattle.std.specs.Ordering.{nat_cmp}
use Rattle.vx_base.specs.Named.{SameUnder, Word, put}
use Rattle.vx_piece.specs.Seen.{Seen}
use Rattle.vx_pages.specs.declared.local_piece.LocalPiece.{Ghosts}
use Rattle.vx_layout.specs.declared.layout.Layout.{Layout}
use Rattle.vx_layout.specs.declared.strip.Strip.{Strip}
use Rattle.vx_carve.specs.Together.{SameSectors}
use Rattle.vx_config_parts.specs.declared.plex.Plex.{Plex}
use Rattle.vx_answers.specs.declared.refusal.Refusal.TheVariants as refusal
use Rattle.vx_maps.specs.Loading.{copy_at}
use Rattle.vx_volume.specs.Log.{log_seen}
use Rattle.vx_volume.specs.Volume.{IsVolume, log_of, volume_seen}
use Rattle.vx_volume.specs.Yielding.{log_copies}
use Rattle.vx_lending.specs.Form.{IsLayoutOf}
use Rattle.vx_lending.specs.Pieces.{copy_pieces}
use Rattle.vx_lending.specs.Public.{running_at, still_pieces}
use Rattle.vx_lending.specs.declared.public.Running.{Running}
use Rattle.vx_yielded_volumes.specs.Yielded.{HasYielded, IsCopyOn, IsFormYielded, IsOnNoCopy}
use Rattle.vx_stages.specs.Ends.{refused}
use Rattle.vx_house.specs.declared.house.Imported.{Imported}
use Rattle.vx_house.specs.declared.stop.Stop.{Stop}
use Rattle.vx_house.specs.declared.stop.Stop.TheVariants as stops
use Rattle.vx_stage_changes.specs.declared.planning.NextConfig.{NextConfig}
use Rattle.vx_stage_mirrors.specs.Relogging.{IsPowered, IsRecordedIn, RecordEnds}

-- ---- strips

-- both begin with one strip
abbrev pub BeginAlike : List Strip → List Strip → Type 0
BeginAlike [] other = ⊥
BeginAlike (x ∷ xs) [] = ⊥
BeginAlike (x ∷ xs) (y ∷ ys) = x ≡ y

-- ---- one volume

-- Its log is on two copies, of which this is one.
pub record MayYield {P : Type 0} {ghosts : Ghosts P} (see : P → Seen) (copy : ℕ) (r : Running P ghosts) : Type 0 where
  pub whole : IsVolume (volume_seen see r.volume)
  pub some : copy < 2
  pub two : (log_seen see (log_of r.volume)).copies ≡ 2
  pub logs : length r.form.logs.items ≡ 2

-- there is a place for each piece of the copy
abbrev pub HasRoomForCopy : {P : Type 0} {ghosts : Ghosts P} → (P → Seen) → (copy room : ℕ) → Running P ghosts → Type 0
HasRoomForCopy see copy room r = length (copy_at (log_copies see (log_of r.volume)) copy) ≤ room

-- It may, and there is room for the pieces.
pub record MayGiveUp {P : Type 0} {ghosts : Ghosts P} (see : P → Seen) (copy room : ℕ) (r : Running P ghosts) : Type 0 where
  pub may : MayYield see copy r
  pub room_for : HasRoomForCopy see copy room r

-- it is without the copy, of which these are the pieces, and so is its form
pub record IsGivenUp {P : Type 0} {ghosts : Ghosts P} (see : P → Seen) (copy : ℕ) (gone : List Seen) (before after : Running P ghosts) : Type 0 where
  pub form : IsFormYielded copy before.form after.form
  pub volume : HasYielded see copy before.volume after.volume
  pub pieces : volume.gone ≡ gone

-- One of the running volumes is another, in its place, without the copy, and all others are as they were.
pub record GivesOne {P : Type 0} {ghosts : Ghosts P} (see : P → Seen) (name : Word) (copy : ℕ) (gone : List Seen) (old new : BTreeMap Word (Running P ghosts)) : Type 0 where
  pub before : Running P ghosts
  pub after : Running P ghosts
  pub ordered : IsOrdered (slice_cmp nat_cmp) old
  pub was : get (slice_cmp nat_cmp) old name ≡ Some before
  pub entries : new.entries ≡ set_value (is_at (slice_cmp nat_cmp name)) old.entries after
  pub puts : SameUnder (put name (Some after) (get (slice_cmp nat_cmp) old)) (get (slice_cmp nat_cmp) new)
  pub has : IsGivenUp see copy gone before after

-- ---- the group

-- the running volume goes on without the copy, whose pieces lie among the others, and all lie together as they lay
pub record GivesIn {P : Type 0} {ghosts : Ghosts P} (see : P → Seen) (name : Word) (copy : ℕ) (old new : Imported P ghosts) : Type 0 where
  pub gone : List Seen
  pub runs : GivesOne see name copy gone old.public.running new.public.running
  pub together : SameSectors (copy_pieces (gone ∷ []) ++ still_pieces see old.public) (still_pieces see new.public)
  pub same : new ≡ record old { public = record old.public { left = new.public.left; running = new.public.running } }

-- the configuration without the plex is committed, and then the copy is given up
pub record YieldsIn {P : Type 0} {ghosts : Ghosts P} (see : P → Seen) (name : Word) (copy : ℕ) (next : NextConfig) (old new : Imported P ghosts) : Type 0 where
  pub recorded : Imported P ghosts
  pub records : IsRecordedIn see next old recorded
  pub gives : GivesIn see name copy recorded new

-- so it is, or the commit was not done, and nothing else has changed
abbrev pub YieldEnds : {P : Type 0} {ghosts : Ghosts P} → (P → Seen) → Word → (copy : ℕ) → NextConfig → Result (Unit {0}) Stop → Imported P ghosts → Imported P ghosts → Type 0
YieldEnds see name copy next (Ok u) old new = YieldsIn see name copy next old new
YieldEnds see name copy next (Err stop) old new = RecordEnds see next (Err stop) old new

-- ---- where the copies are

-- no copy lies so, and the configuration is committed alone
pub record EndsUnlogged {P : Type 0} {ghosts : Ghosts P} (see : P → Seen) (next : NextConfig) (result : Result (Unit {0}) Stop) (r : Running P ghosts) (l : Layout) (old new : Imported P ghosts) : Type 0 where
  pub none : IsOnNoCopy r.form.logs.items l
  pub ends : RecordEnds see next result old new

-- one does that is not one of two, and nothing is done
pub record EndsOnly {P : Type 0} {ghosts : Ghosts P} (name : Word) (result : Result (Unit {0}) Stop) (r : Running P ghosts) (l : Layout) (old new : Imported P ghosts) : Type 0 where
  pub copy : ℕ
  pub on : IsCopyOn r.form.logs.items copy l
  pub not_two : length r.form.logs.items ≢ 2
  pub result_is : result ≡ Err (stops.Ended (refused (refusal.OnlyPlex name)))
  pub same : new ≡ old

-- one of two does, and the power of each region is there
pub record EndsYielded {P : Type 0} {ghosts : Ghosts P} (see : P → Seen) (vol : Word) (next : NextConfig) (result : Result (Unit {0}) Stop) (r : Running P ghosts) (l : Layout) (old new : Imported P ghosts) : Type 0 where
  pub copy : ℕ
  pub on : IsCopyOn r.form.logs.items copy l
  pub powered : IsPowered see r
  pub ends : YieldEnds see vol copy next result old new

-- it is known how the plex lies, the volume runs, and the running volumes stand in order
pub record EndsLooked {P : Type 0} {ghosts : Ghosts P} (see : P → Seen) (vol : Word) (p : Plex) (next : NextConfig) (result : Result (Unit {0}) Stop) (old new : Imported P ghosts) : Type 0 where
  pub layout : Layout
  pub of : IsLayoutOf old.config p layout
  pub running : Running P ghosts
  pub there : running_at old.public vol ≡ Some running
  pub ordered : IsOrdered (slice_cmp nat_cmp) old.public.running
  pub ends : EndsUnlogged see next result running layout old new ⊎ (EndsOnly p.name result running layout old new ⊎ EndsYielded see vol next result running layout old new)

-- ---- the whole

-- memory was wanting before anything was done, or it ends so
abbrev pub LogEnds : {P : Type 0} {ghosts : Ghosts P} → (P → Seen) → (vol : Word) → Plex → NextConfig → Result (Unit {0}) Stop → Imported P ghosts → Imported P ghosts → Type 0
LogEnds see vol p next result old new = ((result ≡ Err stops.OutOfMemory) × (new ≡ old)) ⊎ EndsLooked see vol p next result old new

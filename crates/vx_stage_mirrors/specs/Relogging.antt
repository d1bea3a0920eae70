-- A running volume of one plex goes on with another log, or without one, once the records are committed.
use Rattle.std.specs.Prelude.{◌≡◌, ◌++◌, ◌<◌, ℕ, Some, List, [], ◌∷◌, length, Result, Ok, Err}
use Rattle.std.specs.BTreeMap.{BTreeMap, IsOrdered, get, is_at}
use Rattle.std.specs.Cmp.Lexicographic.{slice_cmp}
use Rattle.std.specs.Map.{set_value}
use Rattle.std.specs.Ordering.{nat_cmp}
use Rattle.vx_base.specs.Named.{SameUnder, Word, put}
use Rattle.vx_mask.specs.Mask.{only}
use Rattle.vx_block.specs.declared.geometry.Geometry.{Geometry}
use Rattle.vx_core.specs.declared.stage.Phase.TheVariants.{Dead}
use Rattle.vx_piece.specs.Seen.{Seen}
use Rattle.vx_pages.specs.declared.local_piece.LocalPiece.{Ghosts}
use Rattle.vx_pages.specs.Sector.{KeepsPiece}
use Rattle.vx_maps.specs.Going.{CutCopiesGo}
use Rattle.vx_carve.specs.Together.{SameSectors}
use Rattle.vx_layout.specs.declared.layout.Layout.{Layout}
use Rattle.vx_maps.specs.Wholes.{store_copies}
use Rattle.vx_maps.specs.declared.store.MapStore.{MapStore}
use Rattle.vx_volume.specs.declared.log.VolumeLog.{VolumeLog}
use Rattle.vx_volume.specs.declared.log.VolumeLog.TheVariants as logs
use Rattle.vx_volume.specs.Log.{log_seen}
use Rattle.vx_volume.specs.Logging.{ChangesLog, IsAlone, IsNewLogFor}
use Rattle.vx_volume.specs.Volume.{IsVolume, cell_at, log_of, shape_of, volume_seen}
use Rattle.vx_lending.specs.Logs.{IsFreshStore, log_pieces}
use Rattle.vx_lending.specs.Taken.{AreTakenCopies, log_sectors}
use Rattle.vx_lending.specs.Public.{still_pieces}
use Rattle.vx_lending.specs.declared.left.LogLeft.TheVariants.{Store}
use Rattle.vx_lending.specs.declared.public.Remains.{Remains}
use Rattle.vx_lending.specs.declared.public.Running.{Running}
use Rattle.vx_group_start.specs.Making.{IsLogTaken}
use Rattle.vx_joined_volumes.specs.Relogged.{IsFormRelogged}
use Rattle.vx_house.specs.declared.house.Imported.{Imported}
use Rattle.vx_house.specs.declared.stop.Stop.{Stop}
use Rattle.vx_stage_changes.specs.Committing.{CommitEnds, IsFinished}
use Rattle.vx_stage_changes.specs.declared.planning.NextConfig.{NextConfig}

-- ---- one volume

-- the power of each region of the volume is there
abbrev pub IsPowered : {P : Type 0} {ghosts : Ghosts P} → (P → Seen) → Running P ghosts → Type 0
IsPowered see r = (n : ℕ) → n < length (volume_seen see r.volume).cells → (cell_at (volume_seen see r.volume) n).stage.phase ≡ Dead → ⊥

-- the volume has no log
abbrev pub IsUnlogged : {P : Type 0} {ghosts : Ghosts P} → Running P ghosts → Type 0
IsUnlogged r = log_of r.volume ≡ logs.Absent

-- The log is new: its copies lie on these layouts, by these numbers of the slots, and of regions of these sizes nothing is marked in them.
pub record IsNewStore {P : Type 0} {ghosts : Ghosts P} (see : P → Seen) (numbers : List ℕ) (geometry : Geometry) (layouts : List Layout) (store : MapStore P ghosts) : Type 0 where
  pub copies : List (List Seen)
  pub taken : AreTakenCopies numbers layouts (log_sectors geometry) copies
  pub cut : CutCopiesGo KeepsPiece copies (store_copies see store)
  pub fresh : IsFreshStore see geometry 0 copies store

-- so it is, or there is none
abbrev pub IsNewLog : {P : Type 0} {ghosts : Ghosts P} → (P → Seen) → List ℕ → Geometry → List Layout → VolumeLog P ghosts → Type 0
IsNewLog see numbers geometry layouts (logs.Maps store) = IsNewStore see numbers geometry layouts store
IsNewLog see numbers geometry layouts logs.Absent = layouts ≡ []

-- the volume has one plex alone, and the log can be its log
pub record MayRelog {P : Type 0} {ghosts : Ghosts P} (see : P → Seen) (log : VolumeLog P ghosts) (r : Running P ghosts) : Type 0 where
  pub whole : IsVolume (volume_seen see r.volume)
  pub map : ℕ
  pub alone : IsAlone map (volume_seen see r.volume)
  pub maps : r.form.maps.items ≡ map ∷ []
  pub fits : IsNewLogFor (log_seen see log) (volume_seen see r.volume)

-- so can the log that is the last of what is left over
abbrev pub MayRelogLeft : {P : Type 0} {ghosts : Ghosts P} → (P → Seen) → List (Remains P ghosts) → Running P ghosts → Type 0
MayRelogLeft {P = P} {ghosts = ghosts} see left r =
    (before : List (Remains P ghosts)) (last : Remains P ghosts) (store : MapStore P ghosts) → left ≡ before ++ last ∷ [] → last.log ≡ Store store → MayRelog see (logs.Maps store) r

-- it has the log, on plexes that lie so, and its plex has number 0
pub record HasNewLog {P : Type 0} {ghosts : Ghosts P} (see : P → Seen) (log : VolumeLog P ghosts) (layouts : List Layout) (before after : Running P ghosts) : Type 0 where
  pub changes : ChangesLog (log_seen see log) (volume_seen see before.volume) (volume_seen see after.volume)
  pub whole : IsVolume (volume_seen see after.volume)
  pub shape : shape_of after.volume ≡ record (shape_of before.volume) { on = only 0; off = 0; snaps = 0 }
  pub log_is : log_of after.volume ≡ log
  pub form : IsFormRelogged layouts before.form after.form

-- ---- the running ones

-- One of the running volumes is another, in its place, with the log, and all others are as they were.
pub record RelogsOne {P : Type 0} {ghosts : Ghosts P} (see : P → Seen) (name : Word) (log : VolumeLog P ghosts) (layouts : List Layout) (old new : BTreeMap Word (Running P ghosts)) : Type 0 where
  pub before : Running P ghosts
  pub after : Running P ghosts
  pub ordered : IsOrdered (slice_cmp nat_cmp) old
  pub was : get (slice_cmp nat_cmp) old name ≡ Some before
  pub entries : new.entries ≡ set_value (is_at (slice_cmp nat_cmp name)) old.entries after
  pub puts : SameUnder (put name (Some after) (get (slice_cmp nat_cmp) old)) (get (slice_cmp nat_cmp) new)
  pub has : HasNewLog see log layouts before after

-- ---- the group

-- The configuration is the next one, which the commit wrote; what the group has of its devices is as it was.
pub record IsRecordedIn {P : Type 0} {ghosts : Ghosts P} (see : P → Seen) (next : NextConfig) (old new : Imported P ghosts) : Type 0 where
  pub config : new.config ≡ next.config
  pub finished : IsFinished see next.text.items old.base new.base
  pub public : new.public ≡ old.public

-- it was committed, or the commit was not done, and nothing else has changed
abbrev pub RecordEnds : {P : Type 0} {ghosts : Ghosts P} → (P → Seen) → NextConfig → Result (Unit {0}) Stop → Imported P ghosts → Imported P ghosts → Type 0
RecordEnds see next (Ok u) old new = IsRecordedIn see next old new
RecordEnds see next (Err stop) old new = CommitEnds see (Err stop) next.text.items old.base new.base × (new ≡ record old { base = new.base })

-- The running volume has the log, on layouts that lie so; the one that it had lies among the other pieces, and all lie together as they lay.
pub record RelogsIn {P : Type 0} {ghosts : Ghosts P} (see : P → Seen) (name : Word) (log : VolumeLog P ghosts) (layouts : List Layout) (old new : Imported P ghosts) : Type 0 where
  pub runs : RelogsOne see name log layouts old.public.running new.public.running
  pub pieces : SameSectors (log_pieces see (log_of runs.before.volume) ++ still_pieces see old.public) (log_pieces see log ++ still_pieces see new.public)
  pub same : new ≡ record old { public = record old.public { left = new.public.left; running = new.public.running } }

-- So it has the log that was left over last.
pub record IsLogJoined {P : Type 0} {ghosts : Ghosts P} (see : P → Seen) (name : Word) (layouts : List Layout) (old new : Imported P ghosts) : Type 0 where
  pub store : MapStore P ghosts
  pub taken : IsLogTaken store old.public.left.items new.public.left.items
  pub relogs : RelogsIn see name (logs.Maps store) layouts old new

-- A volume of the imported group gets an empty log and is recorded with it, or without one, in the moments of a house.
use Rattle.std.specs.Prelude.{◌≡◌, ℕ, nat_lt, true, false, is_some, Contains, List, [], ◌∷◌, length, map, Option, Some, None, Err}
use Rattle.vx_base.specs.Named.{Word, put}
use Rattle.vx_mask.specs.Mask.{has}
use Rattle.vx_piece.specs.Seen.{Seen}
use Rattle.vx_pages.specs.declared.local_piece.LocalPiece.{Ghosts}
use Rattle.vx_layout.specs.declared.layout.Layout.{Layout}
use Rattle.vx_config_parts.specs.declared.plex.Plex.{Plex}
use Rattle.vx_config_parts.specs.declared.vol.Vol.{Vol}
use Rattle.vx_objects.specs.declared.config.Config.{Config}
use Rattle.vx_objects.specs.declared.edit.Edit.{Edit}
use Rattle.vx_objects.specs.Applied.{IsEdited}
use Rattle.vx_image.specs.UsedPlexes.{IsVolOf, used_logs}
use Rattle.vx_answers.specs.declared.answer.End.{End}
use Rattle.vx_group_edits.specs.Dcos.{ChangesDco}
use Rattle.vx_group_edits.specs.OfVolume.{AreEditsOf}
use Rattle.vx_lending.specs.Form.{AreLayouts}
use Rattle.vx_lending.specs.Public.{running_at}
use Rattle.vx_lending.specs.declared.public.Running.{Running}
use Rattle.vx_volume.specs.declared.log.VolumeLog.{VolumeLog}
use Rattle.vx_stage_volumes.specs.Numbers.{AreNumbersOf}
use Rattle.vx_stage_volumes.specs.Opening.{good_of}
use Rattle.vx_moments.specs.Commit.{IsCommitted, IsStopped, Writing}
use Rattle.vx_moments.specs.Moment.{AreLater, Moment}
use Rattle.vx_moments.specs.World.{OnPlexes, Volume}
use Rattle.vx_stages.specs.Ends.{IsChange}
use Rattle.vx_stages.specs.Logged.{IsLogTouched, IsLogWritten, by_config, volume_relogged}
use Rattle.vx_stages.specs.Touching.{PassHasCause}
use Rattle.vx_house.specs.Scene.{FaultsGoOn, IsBlamed, Shelved}
use Rattle.vx_house.specs.View.{IsMoment, IsMomentButGroup, Keeps, KeepsButGroup, at, scene}
use Rattle.vx_house.specs.declared.house.House.{House}
use Rattle.vx_house.specs.declared.house.Imported.{Imported}
use Rattle.vx_house.specs.declared.stop.Stop.{Stop}
use Rattle.vx_house.specs.declared.stop.Stop.TheVariants as stops
use Rattle.vx_house_calls.specs.Passes.{with_group}
use Rattle.vx_stage_changes.specs.Planning.{IsShortText}
use Rattle.vx_stage_changes.specs.declared.planning.NextConfig.{NextConfig}
use Rattle.vx_stage_mirrors.specs.Ending.{seen_group}
use Rattle.vx_stage_mirrors.specs.Making.{IsUnmadeIn, MakesIn}
use Rattle.vx_stage_mirrors.specs.Relogging.{IsNewLog, IsPowered, IsRecordedIn, RecordEnds, RelogsIn}

-- ---- an empty log

-- The house is kept with the group as it is then, no count of faults falls, and each moment goes to one in which the log was called.
pub record LogGoes {P : Type 0} {ghosts : Ghosts P} (see : P → Seen) (shelf : Shelved) (h : House P ghosts) (next : Config) (name : Word) (old new : Imported P ghosts) : Type 0 where
  pub keeps : Keeps see (at shelf (with_group h new))
  pub faults : FaultsGoOn (scene see (at shelf h)) (scene see (at shelf (with_group h new)))
  pub then : (m : Moment) → IsMoment see (at shelf h) m → Moment
  pub is : (m : Moment) (i : IsMoment see (at shelf h) m) → IsMoment see (at shelf (with_group h new)) (then m i)
  pub later : (m : Moment) (i : IsMoment see (at shelf h) m) → AreLater m.counts (then m i).counts
  pub touched : (m : Moment) (i : IsMoment see (at shelf h) m) → IsLogTouched (seen_group see old) next name m (then m i)

-- The next configuration records the volume of the name so, with a log plex that is used, on the same disks.
pub record IsNextOf {P : Type 0} {ghosts : Ghosts P} (see : P → Seen) (old : Imported P ghosts) (next : Config) (name : Word) (later : Vol) : Type 0 where
  pub there : IsVolOf next later
  pub named : later.name ≡ name
  pub disks : next.disks ≡ old.config.disks
  pub some : (p : Plex) × Contains (used_logs later.dco next (good_of see old) false later.name) p

-- A log that was made goes so, and nothing is marked in it.
abbrev pub EachLogIsMade : {P : Type 0} {ghosts : Ghosts P} → (P → Seen) → House P ghosts → Imported P ghosts → Imported P ghosts → Type 0
EachLogIsMade {P = P} see h old new =
    (shelf : Shelved) (next : Config) (name : Word) (later : Vol) (layouts : List Layout) → ((p q : P) → is_some (see p).told ≡ is_some (see q).told) →
    h.group ≡ Some old → Keeps see (at shelf h) → IsNextOf see old next name later → MakesIn see next later layouts old new →
    (goes : LogGoes see shelf h next name old new) × ((m : Moment) (i : IsMoment see (at shelf h) m) → IsLogWritten (seen_group see old) next name m (goes.then m i))

-- why it could not be made: a device of the volume has failed, or has no power
pub record IsUnmadeFor {P : Type 0} {ghosts : Ghosts P} (see : P → Seen) (shelf : Shelved) (h : House P ghosts) (next : Config) (name : Word) (old new : Imported P ghosts) (goes : LogGoes see shelf h next name old new) (end : End) : Type 0 where
  pub cause : (m : Moment) (i : IsMoment see (at shelf h) m) → PassHasCause (by_config next (seen_group see old)) name m.counts (goes.then m i).counts end
  pub blamed : IsBlamed end (scene see (at shelf h)) (scene see (at shelf (with_group h new)))

-- .. or memory was wanting
abbrev pub EndsUnmadeFor : {P : Type 0} {ghosts : Ghosts P} (see : P → Seen) (shelf : Shelved) (h : House P ghosts) (next : Config) (name : Word) (old new : Imported P ghosts) → LogGoes see shelf h next name old new → Stop → Type 0
EndsUnmadeFor see shelf h next name old new goes (stops.Ended end) = IsUnmadeFor see shelf h next name old new goes end
EndsUnmadeFor see shelf h next name old new goes stops.OutOfMemory = Unit {0}

-- One that could not be made goes so too, and its cause is told.
abbrev pub EachLogIsUnmade : {P : Type 0} {ghosts : Ghosts P} → (P → Seen) → House P ghosts → Imported P ghosts → Imported P ghosts → Type 0
EachLogIsUnmade {P = P} see h old new =
    (shelf : Shelved) (next : Config) (name : Word) (later : Vol) → ((p q : P) → is_some (see p).told ≡ is_some (see q).told) →
    h.group ≡ Some old → Keeps see (at shelf h) → IsNextOf see old next name later → (stop : Stop) → IsUnmadeIn see next later stop old new →
    (goes : LogGoes see shelf h next name old new) × EndsUnmadeFor see shelf h next name old new goes stop

-- ---- the records

-- The house is kept with the group as it is then, no count of faults falls, and each moment goes on so.
pub record RecordGoes {P : Type 0} {ghosts : Ghosts P} (see : P → Seen) (shelf : Shelved) (h : House P ghosts) (new : Imported P ghosts) (GoesTo : Moment → Type 0) : Type 0 where
  pub keeps : Keeps see (at shelf (with_group h new))
  pub faults : FaultsGoOn (scene see (at shelf h)) (scene see (at shelf (with_group h new)))
  pub moments : (m : Moment) → IsMoment see (at shelf h) m → GoesTo m

-- the edits are of the volume of the name alone, and they make the next configuration
pub record IsRecordOf {P : Type 0} {ghosts : Ghosts P} (g : Imported P ghosts) (name : Word) (edits : List Edit) (next : NextConfig) : Type 0 where
  pub own : AreEditsOf g.config name edits
  pub edited : IsEdited edits g.config next.config
  pub printed : IsShortText next.config next.text.items

-- the moment behind a commit of edits
pub record IsRecordedAt {P : Type 0} {ghosts : Ghosts P} (see : P → Seen) (shelf : Shelved) (h : House P ghosts) (edits : List Edit) (config : Config) (m : Moment) : Type 0 where
  pub then : Moment
  pub writing : Writing
  pub config_is : writing.config ≡ config
  pub change : IsChange edits m.world writing
  pub committed : IsCommitted writing m then
  pub is : IsMoment see (at shelf h) then
  pub after : AreLater m.counts then.counts

-- A commit of edits of a volume that does not run goes so.
abbrev pub EachRecordGoes : {P : Type 0} {ghosts : Ghosts P} → (P → Seen) → House P ghosts → Imported P ghosts → Imported P ghosts → Type 0
EachRecordGoes see h old new =
    (shelf : Shelved) (name : Word) (edits : List Edit) (next : NextConfig) → h.group ≡ Some old → Keeps see (at shelf h) →
    IsRecordOf old name edits next → running_at old.public name ≡ None → IsRecordedIn see next old new →
    RecordGoes see shelf h new (IsRecordedAt see shelf (with_group h new) edits next.config)

-- the moment behind a commit that was stopped
pub record IsUnrecordedAt {P : Type 0} {ghosts : Ghosts P} (see : P → Seen) (shelf : Shelved) (h : House P ghosts) (edits : List Edit) (config : Config) (end : End) (m : Moment) : Type 0 where
  pub then : Moment
  pub is : IsMomentButGroup see (at shelf h) then
  pub after : AreLater m.counts then.counts
  pub writing : Writing
  pub config_is : writing.config ≡ config
  pub change : IsChange edits m.world writing
  pub stopped : IsStopped writing m end then

-- What it does to a house: all is kept but what the group carries, no count of faults falls, and each moment goes to one behind the commit.
pub record RecordStops {P : Type 0} {ghosts : Ghosts P} (see : P → Seen) (shelf : Shelved) (h : House P ghosts) (edits : List Edit) (config : Config) (new : Imported P ghosts) (end : End) : Type 0 where
  pub keeps : KeepsButGroup see (at shelf (with_group h new))
  pub faults : FaultsGoOn (scene see (at shelf h)) (scene see (at shelf (with_group h new)))
  pub moments : (m : Moment) → IsMoment see (at shelf h) m → IsUnrecordedAt see shelf (with_group h new) edits config end m

-- A commit of edits of a volume, which runs or not, that ends the command does so.
abbrev pub EachFailedRecordStops : {P : Type 0} {ghosts : Ghosts P} → (P → Seen) → House P ghosts → Imported P ghosts → Imported P ghosts → Type 0
EachFailedRecordStops see h old new =
    (shelf : Shelved) (name : Word) (edits : List Edit) (next : NextConfig) → h.group ≡ Some old → Keeps see (at shelf h) → IsRecordOf old name edits next →
    (end : End) → RecordEnds see next (Err (stops.Ended end)) old new → RecordStops see shelf h edits next.config new end

-- ---- a running volume

-- The running volume of the name is to have other logs by the next configuration, which lie so: it has one data plex, and the edits are its own.
pub record IsRelogPlanned {P : Type 0} {ghosts : Ghosts P} (see : P → Seen) (g : Imported P ghosts) (name : Word) (edits : List Edit) (next : NextConfig) (layouts : List Layout) : Type 0 where
  pub record_of : IsRecordOf g name edits next
  pub volume : Vol
  pub of : IsVolOf g.config volume
  pub named : volume.name ≡ name
  pub later : Vol
  pub plex : Plex
  pub plex_then : Plex
  pub changes : ChangesDco g.config volume next.config later plex plex_then
  pub region : later.region ≡ volume.region
  pub logged : nat_lt 0 (length layouts) ≡ is_some later.dco
  -- by the slots that are good now, and by more
  pub logs : (more : ℕ) → ((slot : ℕ) → has (good_of see g) slot ≡ true → has more slot ≡ true) → AreLayouts next.config (used_logs later.dco next.config more false name) layouts
  pub numbers : List ℕ
  pub slots : (top : ℕ) × AreNumbersOf see g.base.disks.items 32 top numbers

-- it lies on its data plex and those logs then; where it had none it lay on its data plex alone
pub record LiesThen (dco : Option Word) (plex : Plex) (logs : List Plex) (plexes later : List Word) : Type 0 where
  pub later_is : later ≡ plex.name ∷ map (λ (p : Plex). p.name) logs
  pub alone : dco ≡ None → plexes ≡ plex.name ∷ []

-- The moment behind it: the commit is done, and then the volume runs on with the other logs.
pub record IsRelogAt {P : Type 0} {ghosts : Ghosts P} (see : P → Seen) (shelf : Shelved) (h : House P ghosts) (name : Word) (edits : List Edit) (config : Config) (Lies : List Word → List Word → Type 0) (m : Moment) : Type 0 where
  pub recorded : Moment
  pub writing : Writing
  pub config_is : writing.config ≡ config
  pub change : IsChange edits m.world writing
  pub committed : IsCommitted writing m recorded
  pub before : Volume
  pub was : recorded.world.volumes name ≡ Some before
  pub plexes : List Word
  pub lay : before.lies ≡ OnPlexes plexes
  pub plexes_then : List Word
  pub goes : Lies plexes plexes_then
  pub then : Moment
  pub is : IsMoment see (at shelf h) then
  pub after : AreLater m.counts then.counts
  pub world : then.world ≡ record recorded.world { volumes = put name (Some (volume_relogged plexes_then before)) recorded.world.volumes }
  pub counts : then.counts ≡ recorded.counts

-- A running volume whose records are committed, and that has a new log then, or none, goes so.
abbrev pub EachRelogGoes : {P : Type 0} {ghosts : Ghosts P} → (P → Seen) → House P ghosts → Imported P ghosts → Imported P ghosts → Type 0
EachRelogGoes {P = P} {ghosts = ghosts} see h old new =
    (shelf : Shelved) (name : Word) (edits : List Edit) (next : NextConfig) (layouts : List Layout) (log : VolumeLog P ghosts) → ((p q : P) → is_some (see p).told ≡ is_some (see q).told) →
    h.group ≡ Some old → Keeps see (at shelf h) → (plan : IsRelogPlanned see old name edits next layouts) →
    (before : Running P ghosts) → running_at old.public name ≡ Some before → IsPowered see before → IsNewLog see plan.numbers before.form.shape.geometry layouts log →
    (recorded : Imported P ghosts) → IsRecordedIn see next old recorded → RelogsIn see name log layouts recorded new →
    RecordGoes see shelf h new (IsRelogAt see shelf (with_group h new) name edits next.config (LiesThen plan.volume.dco plan.plex (used_logs plan.later.dco next.config (good_of see old) false name)))

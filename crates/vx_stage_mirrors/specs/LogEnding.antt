-- How `prepare` and `unprepare` end, on the imported group.
use Rattle.std.specs.Prelude.{◌≡◌, ◌⊎◌, Bool, is_some, IfSome, None, Some, Ok, Err, List, [], MatchBool, Result}
use Rattle.vx_base.specs.Named.{Word}
use Rattle.vx_piece.specs.Seen.{Seen}
use Rattle.vx_pages.specs.declared.local_piece.LocalPiece.{Ghosts}
use Rattle.vx_layout.specs.declared.layout.Layout.{Layout}
use Rattle.vx_config_parts.specs.declared.vol.Vol.{Vol}
use Rattle.vx_image.specs.UsedPlexes.{IsVolOf}
use Rattle.vx_lending.specs.Public.{running_at}
use Rattle.vx_new_volumes.specs.declared.logs.NewLogs.{NewLogs}
use Rattle.vx_state_edits.specs.Edits.{is_new}
use Rattle.vx_stages.specs.Logging.{IsPrepareRefused, IsUnprepareRefused, prepare_refusal, unprepare_refusal}
use Rattle.vx_stages.specs.Tests.{volume_in}
use Rattle.vx_house.specs.declared.house.Imported.{Imported}
use Rattle.vx_house.specs.declared.stop.Stop.{Stop}
use Rattle.vx_house.specs.declared.stop.Stop.TheVariants as stops
use Rattle.vx_stage_changes.specs.declared.planning.NextConfig.{NextConfig}
use Rattle.vx_stage_mirrors.specs.Ending.{seen_group}
use Rattle.vx_stage_volumes.specs.Opening.{good_of}
use Rattle.vx_stage_volumes.specs.Parting.{PartsGroup}
use Rattle.vx_stage_mirrors.specs.Making.{IsUnmadeIn, MakesIn}
use Rattle.vx_stage_mirrors.specs.Planned.{EndsAs}
use Rattle.vx_stage_mirrors.specs.PlannedLogs.{AreLogsPlanned, IsLossPlanned}
use Rattle.vx_stage_mirrors.specs.Relogging.{IsLogJoined, IsPowered, IsRecordedIn, RecordEnds, RelogsIn}
use Rattle.vx_volume.specs.declared.log.VolumeLog.TheVariants.{Absent}

-- the volume of the name runs
abbrev pub is_running : {P : Type 0} {ghosts : Ghosts P} → Imported P ghosts → Word → Bool
is_running g name = is_some (running_at g.public name)

-- where the volume of the name runs, the power of its regions is there
abbrev pub IsPoweredIn : {P : Type 0} {ghosts : Ghosts P} → (P → Seen) → Word → Imported P ghosts → Type 0
IsPoweredIn see name g = IfSome (running_at g.public name) (IsPowered see)

-- ---- `prepare`

-- no test refuses the logs, and they are planned so for the volume
pub record IsPlannedPrepare {P : Type 0} {ghosts : Ghosts P} (see : P → Seen) (n : NewLogs) (v : Vol) (next : NextConfig) (g : Imported P ghosts) : Type 0 where
  pub found : volume_in n.vol g.config.volumes ≡ Some v
  pub fits : prepare_refusal (is_running g n.vol) g.config n ≡ None
  pub planned : AreLogsPlanned g.config (good_of see g) v n next

-- the volume as the next configuration records it
pub record IsVolNext (v : Vol) (next : NextConfig) (later : Vol) : Type 0 where
  pub of : IsVolOf next.config later
  pub name : later.name ≡ v.name

-- the log could not be made
pub record EndsUnmade {P : Type 0} {ghosts : Ghosts P} (see : P → Seen) (v : Vol) (next : NextConfig) (stop : Stop) (old new : Imported P ghosts) : Type 0 where
  pub later : Vol
  pub of : IsVolNext v next later
  pub unmade : IsUnmadeIn see next.config later stop old new

-- it was made, and the records are committed or not
pub record MakesAndRecords {P : Type 0} {ghosts : Ghosts P} (see : P → Seen) (v : Vol) (next : NextConfig) (result : Result (Unit {0}) Stop) (old new : Imported P ghosts) : Type 0 where
  pub later : Vol
  pub of : IsVolNext v next later
  pub layouts : List Layout
  pub mid : Imported P ghosts
  pub makes : MakesIn see next.config later layouts old mid
  pub records : RecordEnds see next result mid new

-- it was made, the records are committed, and where the volume runs it goes on with the log
pub record MakesAndJoins {P : Type 0} {ghosts : Ghosts P} (see : P → Seen) (v : Vol) (next : NextConfig) (old new : Imported P ghosts) : Type 0 where
  pub recorded : Imported P ghosts
  pub makes : MakesAndRecords see v next (Ok tt) old recorded
  pub joins : MatchBool (is_running old v.name) (IsLogJoined see v.name makes.layouts recorded new) (new ≡ recorded)

-- how it ends on a group that is ready, for a volume that was started before
abbrev pub FilledEnds : {P : Type 0} {ghosts : Ghosts P} → (P → Seen) → Vol → NextConfig → Result (Unit {0}) Stop → Imported P ghosts → Imported P ghosts → Type 0
FilledEnds see v next (Ok u) old new = MakesAndJoins see v next old new
FilledEnds see v next (Err stop) old new = EndsUnmade see v next stop old new ⊎ MakesAndRecords see v next (Err stop) old new

-- the group was made ready before
pub record ReadyEnds {P : Type 0} {ghosts : Ghosts P} (see : P → Seen) (v : Vol) (next : NextConfig) (result : Result (Unit {0}) Stop) (old new : Imported P ghosts) : Type 0 where
  pub power : IsPoweredIn see v.name old
  pub ready : Imported P ghosts
  pub parts : PartsGroup see old ready
  pub ends : FilledEnds see v next result ready new

-- how it ends once it is planned: a volume that was never started gets its records alone
abbrev pub PlannedEnds : {P : Type 0} {ghosts : Ghosts P} → (P → Seen) → Vol → NextConfig → Result (Unit {0}) Stop → Imported P ghosts → Imported P ghosts → Type 0
PlannedEnds see v next result old new = MatchBool (is_new v.state) (RecordEnds see next result old new) (ReadyEnds see v next result old new)

-- logs are planned, and it ends so
pub record EndsPlannedLogs {P : Type 0} {ghosts : Ghosts P} (see : P → Seen) (n : NewLogs) (result : Result (Unit {0}) Stop) (old new : Imported P ghosts) : Type 0 where
  pub volume : Vol
  pub next : NextConfig
  pub planned : IsPlannedPrepare see n volume next old
  pub ends : PlannedEnds see volume next result old new

-- it was refused, or memory was wanting, before anything was touched
abbrev pub IsPrepareStopped : {P : Type 0} {ghosts : Ghosts P} → (P → Seen) → NewLogs → Result (Unit {0}) Stop → Imported P ghosts → Imported P ghosts → Type 0
IsPrepareStopped see n (Ok u) old new = ⊥
IsPrepareStopped see n (Err stop) old new =
    ((new ≡ old) × EndsAs (IsPrepareRefused (is_running old n.vol) (seen_group see old) n) stop) ⊎ ((stop ≡ stops.OutOfMemory) × PartsGroup see old new)

-- how it ends
abbrev pub PrepareEnds : {P : Type 0} {ghosts : Ghosts P} → (P → Seen) → NewLogs → Result (Unit {0}) Stop → Imported P ghosts → Imported P ghosts → Type 0
PrepareEnds see n result old new = IsPrepareStopped see n result old new ⊎ EndsPlannedLogs see n result old new

-- ---- `unprepare`

-- no test refuses that the volume loses its log, and it is planned so
pub record IsPlannedLoss {P : Type 0} {ghosts : Ghosts P} (see : P → Seen) (name : Word) (v : Vol) (next : NextConfig) (g : Imported P ghosts) : Type 0 where
  pub found : volume_in name g.config.volumes ≡ Some v
  pub fits : unprepare_refusal g.config name ≡ None
  pub dco : Word
  pub dco_is : v.dco ≡ Some dco
  pub planned : IsLossPlanned g.config v dco next

-- the records are committed, and where the volume runs it goes on without its log
pub record LosesLog {P : Type 0} {ghosts : Ghosts P} (see : P → Seen) (v : Vol) (next : NextConfig) (old new : Imported P ghosts) : Type 0 where
  pub recorded : Imported P ghosts
  pub records : IsRecordedIn see next old recorded
  pub parts : MatchBool (is_running old v.name) (RelogsIn see v.name Absent [] recorded new) (new ≡ recorded)

abbrev pub LossEnds : {P : Type 0} {ghosts : Ghosts P} → (P → Seen) → Vol → NextConfig → Result (Unit {0}) Stop → Imported P ghosts → Imported P ghosts → Type 0
LossEnds see v next (Ok u) old new = LosesLog see v next old new
LossEnds see v next (Err stop) old new = RecordEnds see next (Err stop) old new

pub record EndsLost {P : Type 0} {ghosts : Ghosts P} (see : P → Seen) (name : Word) (result : Result (Unit {0}) Stop) (old new : Imported P ghosts) : Type 0 where
  pub volume : Vol
  pub next : NextConfig
  pub planned : IsPlannedLoss see name volume next old
  pub power : IsPoweredIn see name old
  pub ends : LossEnds see volume next result old new

-- it was refused, or memory was wanting, before anything was touched
abbrev pub IsUnprepareStopped : {P : Type 0} {ghosts : Ghosts P} → (P → Seen) → Word → Result (Unit {0}) Stop → Imported P ghosts → Imported P ghosts → Type 0
IsUnprepareStopped see name (Ok u) old new = ⊥
IsUnprepareStopped see name (Err stop) old new = (new ≡ old) × EndsAs (IsUnprepareRefused (seen_group see old) name) stop

-- how it ends
abbrev pub UnprepareEnds : {P : Type 0} {ghosts : Ghosts P} → (P → Seen) → Word → Result (Unit {0}) Stop → Imported P ghosts → Imported P ghosts → Type 0
UnprepareEnds see name result old new = IsUnprepareStopped see name result old new ⊎ EndsLost see name result old new

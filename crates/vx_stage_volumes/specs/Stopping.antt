-- What the stop of a volume leaves of the imported group.
use Rattle.std.specs.Prelude.{◌≡◌, ◌⊎◌, ℕ, true, List, [], Some, None, is_some, Result, Ok, Err}
use Rattle.vx_pages.specs.declared.local_piece.LocalPiece.{Ghosts}
use Rattle.vx_base.specs.Named.{Word}
use Rattle.vx_piece.specs.Seen.{Seen}
use Rattle.vx_copies.specs.Commit.{HasRisen}
use Rattle.vx_copies.specs.Disks.{IsCut}
use Rattle.vx_copies.specs.Lists.{Each, AnyOf}
use Rattle.vx_confdb.specs.Groups.{members}
use Rattle.vx_config_parts.specs.declared.vol.Vol.{Vol}
use Rattle.vx_objects.specs.declared.config.Config.{Config}
use Rattle.vx_objects.specs.declared.edit.Edit.{Edit}
use Rattle.vx_objects.specs.Applied.{IsEdited}
use Rattle.vx_answers.specs.declared.answer.End.TheVariants as ends
use Rattle.vx_answers.specs.declared.refusal.Refusal.{Refusal}
use Rattle.vx_stages.specs.Ends.{RefusedAsLong}
use Rattle.vx_stages.specs.Stopping.{is_active, refusal_by}
use Rattle.vx_stages.specs.Tests.{volume_in}
use Rattle.vx_volume.specs.declared.fault.IoFault.{IoFault}
use Rattle.vx_lending.specs.Public.{running_at}
use Rattle.vx_state_edits.specs.Edits.{stop_edits}
use Rattle.vx_state_texts.specs.Texts.{all_maps}
use Rattle.vx_stage_changes.specs.Committing.{IsTried, IsFinished}
use Rattle.vx_stage_changes.specs.Changing.{IsMeant, SamePublic}
use Rattle.vx_house.specs.declared.house.Imported.{Imported}
use Rattle.vx_house.specs.declared.stop.Stop.{Stop}
use Rattle.vx_house.specs.declared.stop.Stop.TheVariants as stops
use Rattle.vx_stage_volumes.specs.Laying.{IsLaid}
use Rattle.vx_stage_volumes.specs.Resting.{IsFaultTold, RestsIn}

-- ---- what is planned

-- the edits make a configuration whose text is short enough
abbrev pub Fits : List Edit → Config → Type 0
Fits edits config = (next : Config) × (text : List ℕ) × IsMeant edits config next text

-- the text is too long in which each plex that the stop records misses something
abbrev pub IsStopTooLong : Vol → Config → Stop → Type 0
IsStopTooLong v config stops.OutOfMemory = Unit {0}
IsStopTooLong v config (stops.Ended end) = (next : Config) × IsEdited (stop_edits config v all_maps) config next × RefusedAsLong next end

-- the volume of the name may be stopped: it is recorded as active, it runs, and the longest text that the stop may have is short enough
pub record IsReadyToStop {P : Type 0} {ghosts : Ghosts P} (name : Word) (g : Imported P ghosts) (v : Vol) : Type 0 where
  pub found : volume_in name g.config.volumes ≡ Some v
  pub active : is_active v.state ≡ true
  pub runs : is_some (running_at g.public name) ≡ true
  pub fits : Fits (stop_edits g.config v all_maps) g.config

-- why it may not
abbrev pub IsUnready : {P : Type 0} {ghosts : Ghosts P} → Word → Imported P ghosts → Stop → Type 0
IsUnready name g stops.OutOfMemory = Unit {0}
IsUnready name g (stops.Ended end) =
    ((r : Refusal) × (refusal_by name (volume_in name g.config.volumes) (is_some (running_at g.public name)) ≡ Some r) × (end ≡ ends.Refused r))
    ⊎ ((v : Vol) × (volume_in name g.config.volumes ≡ Some v) × (refusal_by name (Some v) (is_some (running_at g.public name)) ≡ None)
    × IsStopTooLong v g.config (stops.Ended end))

-- ---- the commit

-- The states are committed; or nothing was done for want of memory; or the group or the power is lost. No test refuses it.
abbrev pub RecordEnds : {P : Type 0} {ghosts : Ghosts P} → (P → Seen) → List Edit → Result (Unit {0}) Stop → Imported P ghosts → Imported P ghosts → Type 0
RecordEnds see edits (Ok u) old new = SamePublic old new × ((text : List ℕ) × IsMeant edits old.config new.config text × IsFinished see text old.base new.base)
RecordEnds see edits (Err stops.OutOfMemory) old new = new ≡ old
RecordEnds see edits (Err (stops.Ended ends.GroupLost)) old new = SamePublic old new × ((next : Config) × (text : List ℕ) × IsMeant edits old.config next text × IsTried see text old.base new.base × Each HasRisen (members see old.base) (members see new.base))
RecordEnds see edits (Err (stops.Ended (ends.Lost parts))) old new = (parts ≡ []) × SamePublic old new × ((next : Config) × (text : List ℕ) × IsMeant edits old.config next text × IsTried see text old.base new.base × AnyOf IsCut (members see new.base))
RecordEnds see edits (Err (stops.Ended end)) old new = ⊥

-- ---- the group

-- there is room for one more volume that could not be put back, and all else is as it was
pub record HasRoom {P : Type 0} {ghosts : Ghosts P} (old new : Imported P ghosts) : Type 0 where
  pub same : new ≡ record old { public = record old.public { stuck = new.public.stuck } }
  pub items : new.public.stuck.items ≡ old.public.stuck.items

-- the volume has come to rest, and its states are to be recorded by these marks
pub record IsRested {P : Type 0} {ghosts : Ghosts P} (see : P → Seen) (name : Word) (old new : Imported P ghosts) : Type 0 where
  pub of : Vol
  pub ready : IsReadyToStop name old of
  pub room : Imported P ghosts
  pub has_room : HasRoom old room
  pub marks : ℕ
  pub rests : RestsIn see name (Ok marks) room new

-- the volume is stopped: it came to rest, its states are committed, and it is taken out of the running ones
pub record IsStoppedIn {P : Type 0} {ghosts : Ghosts P} (see : P → Seen) (name : Word) (old new : Imported P ghosts) : Type 0 where
  pub mid : Imported P ghosts
  pub rested : IsRested see name old mid
  pub text : List ℕ
  pub meant : IsMeant (stop_edits old.config rested.of rested.marks) old.config new.config text
  pub finished : IsFinished see text mid.base new.base
  pub laid : IsLaid see name mid.public new.public

-- the commit was not done
pub record IsBrokenIn {P : Type 0} {ghosts : Ghosts P} (see : P → Seen) (name : Word) (old new : Imported P ghosts) : Type 0 where
  pub mid : Imported P ghosts
  pub rested : IsRested see name old mid
  pub next : Config
  pub text : List ℕ
  pub meant : IsMeant (stop_edits old.config rested.of rested.marks) old.config next text
  pub tried : IsTried see text mid.base new.base
  pub public : new.public ≡ mid.public

-- the volume was not brought to rest, and a fault is told of it, or the power is gone
pub record IsUnrested {P : Type 0} {ghosts : Ghosts P} (see : P → Seen) (name : Word) (stop : Stop) (old new : Imported P ghosts) : Type 0 where
  pub of : Vol
  pub ready : IsReadyToStop name old of
  pub room : Imported P ghosts
  pub has_room : HasRoom old room
  pub fault : IoFault
  pub rests : RestsIn see name (Err fault) room new
  pub told : IsFaultTold see room.base.disks.items fault stop

-- By the answer: it is stopped; or a test refuses it, and the group is as it was; or it was not brought to rest; or the commit was not
-- done. For want of memory it may have come to rest.
abbrev pub StopEnds : {P : Type 0} {ghosts : Ghosts P} → (P → Seen) → Word → Result (Unit {0}) Stop → Imported P ghosts → Imported P ghosts → Type 0
StopEnds see name (Ok u) old new = IsStoppedIn see name old new
StopEnds see name (Err stops.OutOfMemory) old new = (new ≡ old) ⊎ (HasRoom old new ⊎ IsRested see name old new)
StopEnds see name (Err (stops.Ended ends.GroupLost)) old new = (broken : IsBrokenIn see name old new) × Each HasRisen (members see broken.mid.base) (members see new.base)
StopEnds see name (Err (stops.Ended (ends.Lost parts))) old new =
    IsUnrested see name (stops.Ended (ends.Lost parts)) old new ⊎ ((parts ≡ []) × IsBrokenIn see name old new × AnyOf IsCut (members see new.base))
StopEnds see name (Err (stops.Ended (ends.Refused r))) old new = (new ≡ old) × IsUnready name old (stops.Ended (ends.Refused r))
StopEnds see name (Err (stops.Ended end)) old new = IsUnrested see name (stops.Ended end) old new

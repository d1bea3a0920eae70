-- What a change of the configuration leaves of the imported group.
use Rattle.std.specs.Prelude.{◌≡◌, ℕ, List, [], Result, Ok, Err}
use Rattle.vx_pages.specs.declared.local_piece.LocalPiece.{Ghosts}
use Rattle.vx_piece.specs.Seen.{Seen}
use Rattle.vx_copies.specs.Commit.{HasRisen}
use Rattle.vx_copies.specs.Disks.{IsCut}
use Rattle.vx_copies.specs.Lists.{Each, AnyOf}
use Rattle.vx_confdb.specs.Groups.{members}
use Rattle.vx_objects.specs.declared.config.Config.{Config}
use Rattle.vx_objects.specs.declared.edit.Edit.{Edit}
use Rattle.vx_objects.specs.Applied.{IsEdited}
use Rattle.vx_answers.specs.declared.answer.End.TheVariants as ends
use Rattle.vx_house.specs.declared.house.Imported.{Imported}
use Rattle.vx_house.specs.declared.stop.Stop.{Stop}
use Rattle.vx_house.specs.declared.stop.Stop.TheVariants as stops
use Rattle.vx_stage_changes.specs.Committing.{IsTried, IsFinished}
use Rattle.vx_stage_changes.specs.Planning.{IsShortText, IsUnplanned}

-- a configuration that the edits make, and its text, were to be committed
pub record IsMeant (edits : List Edit) (config next : Config) (text : List ℕ) : Type 0 where
  pub edited : IsEdited edits config next
  pub printed : IsShortText next text

-- what is behind the fronts of the disks stays
abbrev pub SamePublic : {P : Type 0} {ghosts : Ghosts P} → Imported P ghosts → Imported P ghosts → Type 0
SamePublic old new = new.public ≡ old.public

-- the change is done; or it is refused for such a cause, and the group is as before; or the group or the power is lost
abbrev pub ChangeEndsBy : {P : Type 0} {ghosts : Ghosts P} → (P → Seen) → (Stop → Type 0) → List Edit → Result (Unit {0}) Stop → Imported P ghosts → Imported P ghosts → Type 0
ChangeEndsBy see IsCause edits (Ok u) old new = SamePublic old new × ((text : List ℕ) × IsMeant edits old.config new.config text × IsFinished see text old.base new.base)
ChangeEndsBy see IsCause edits (Err stops.OutOfMemory) old new = new ≡ old
ChangeEndsBy see IsCause edits (Err (stops.Ended ends.GroupLost)) old new = SamePublic old new × ((next : Config) × (text : List ℕ) × IsMeant edits old.config next text × IsTried see text old.base new.base × Each HasRisen (members see old.base) (members see new.base))
ChangeEndsBy see IsCause edits (Err (stops.Ended (ends.Lost parts))) old new = (parts ≡ []) × SamePublic old new × ((next : Config) × (text : List ℕ) × IsMeant edits old.config next text × IsTried see text old.base new.base × AnyOf IsCut (members see new.base))
ChangeEndsBy see IsCause edits (Err (stops.Ended end)) old new = (new ≡ old) × IsCause (stops.Ended end)

-- so, where it is refused because the edits break a rule or their text is too long
abbrev pub ChangeEnds : {P : Type 0} {ghosts : Ghosts P} → (P → Seen) → List Edit → Result (Unit {0}) Stop → Imported P ghosts → Imported P ghosts → Type 0
ChangeEnds see edits result old new = ChangeEndsBy see (IsUnplanned edits old.config) edits result old new

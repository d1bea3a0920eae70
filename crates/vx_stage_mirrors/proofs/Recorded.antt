-- Edits of a volume that does not run, which are committed: the house is kept, and each moment goes to one behind the commit.
use Rattle.std.proofs.Common.{◌≡◌, ◌∙◌, None, Some, List, sym, ap, subst}
use Rattle.std.specs.Prelude.{IfSome, is_some}
use Rattle.std.proofs.lemmas.Bool.{false≢true}
use Rattle.vx_base.specs.Named.{Word}
use Rattle.vx_piece.specs.Seen.{Seen}
use Rattle.vx_pages.specs.declared.local_piece.LocalPiece.{Ghosts}
use Rattle.vx_objects.specs.declared.config.Config.{Config}
use Rattle.vx_objects.specs.declared.edit.Edit.{Edit}
use Rattle.vx_moments.specs.Moment.{Moment}
use Rattle.vx_lending.specs.Public.{running_at}
use Rattle.vx_group_edits.proofs.DcoEdits.{own_group}
use Rattle.vx_group_edits.proofs.OfVolume.{own_edit_keeps_others}
use Rattle.vx_house.specs.Scene.{Shelved}
use Rattle.vx_house.specs.View.{IsGroupKept, Keeps, at}
use Rattle.vx_house.specs.declared.house.House.{House}
use Rattle.vx_house.specs.declared.house.Imported.{Imported}
use Rattle.vx_house_calls.specs.Passes.{with_group}
use Rattle.vx_stage_changes.specs.Changing.{IsMeant}
use Rattle.vx_stage_changes.specs.declared.planning.NextConfig.{NextConfig}
use Rattle.vx_stage_changes.proofs.Owns.{Runs}
use Rattle.vx_stage_volumes.proofs.Commit.{IsCommittedAt, KeepsRunning, committed_at, done_keeps, written_faults}
use Rattle.vx_stage_mirrors.specs.LogMoments.{EachRecordGoes, IsRecordOf, IsRecordedAt, RecordGoes}
use Rattle.vx_stage_mirrors.specs.Relogging.{IsRecordedIn}

-- the moment behind the commit, by the configuration that was to be written
recorded_so : {P : Type 0} {ghosts : Ghosts P} (see : P → Seen) (shelf : Shelved) (h : House P ghosts) (edits : List Edit) (c c' : Config) (m : Moment) → c ≡ c' → IsCommittedAt see shelf h edits c m → IsRecordedAt see shelf h edits c' m
recorded_so see shelf h edits c c' m same a = record {
  then = a.then;
  writing = a.writing;
  config_is = a.config_is ∙ same;
  change = a.change;
  committed = a.committed;
  is = a.is;
  after = a.later;
}

module _ {P : Type 0} {ghosts : Ghosts P} (see : P → Seen) (shelf : Shelved) (h : House P ghosts) (old new : Imported P ghosts) (has : h.group ≡ Some old) (keeps : Keeps see (at shelf h)) (name : Word) (edits : List Edit) (next : NextConfig)
    (of : IsRecordOf old name edits next) (absent : running_at old.public name ≡ None) (recorded : IsRecordedIn see next old new) where
  kept : IsGroupKept see old
  kept = subst (λ o. IfSome o (IsGroupKept see)) has keeps.house.group

  meant : IsMeant edits old.config new.config next.text.items
  meant = subst (λ c. IsMeant edits old.config c next.text.items) (sym recorded.config) (record { edited = of.edited; printed = of.printed })

  -- no volume of the name runs
  other : (vol : Word) → Runs old vol → vol ≡ name → ⊥
  other vol runs same = false≢true (sym (ap is_some absent) ∙ subst (Runs old) same runs)

  keeps_running : KeepsRunning old new.config
  keeps_running =
      let group = own_group old.config new.config name edits of.own meant.edited in
      record {
        group = group.0;
        disks = group.1;
        stays = λ v there runs good good' fewer. own_edit_keeps_others old.config new.config name edits of.own meant.edited v there (other v.name runs) good good' fewer;
      }

  goes : RecordGoes see shelf h new (IsRecordedAt see shelf (with_group h new) edits next.config)
  goes = record {
    keeps = done_keeps see shelf h old new has keeps kept next.text.items recorded.public recorded.finished edits meant keeps_running;
    faults = written_faults see shelf h old new has keeps kept next.text.items recorded.public recorded.finished.tried;
    moments = λ m is.
        recorded_so see shelf (with_group h new) edits new.config next.config m recorded.config
        (committed_at see shelf h old new has keeps kept next.text.items recorded.public recorded.finished edits meant keeps_running m is);
  }

pub record_goes : {P : Type 0} {ghosts : Ghosts P} (see : P → Seen) (h : House P ghosts) (old new : Imported P ghosts) → EachRecordGoes see h old new
record_goes see h old new shelf name edits next has keeps of absent recorded = goes see shelf h old new has keeps name edits next of absent recorded

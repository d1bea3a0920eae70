-- Edits that are committed in the moments of a house: done, or the group or the power is lost.
use Rattle.std.proofs.Common.{◌≡◌, ◌∙◌, ℕ, ◌+◌, List, [], ◌++◌, Some, refl, sym, subst}
use Rattle.vx_pages.specs.declared.local_piece.LocalPiece.{Ghosts}
use Rattle.vx_piece.specs.Seen.{Seen}
use Rattle.vx_copies.specs.Commit.{HasRisen}
use Rattle.vx_copies.specs.Disks.{IsCut}
use Rattle.vx_copies.specs.Lists.{AnyOf, Each}
use Rattle.vx_confdb.specs.Groups.{CarriesText, members}
use Rattle.vx_objects.specs.declared.config.Config.{Config}
use Rattle.vx_objects.specs.declared.edit.Edit.{Edit}
use Rattle.vx_objects.specs.Applied.{IsEdited}
use Rattle.vx_answers.specs.declared.answer.End.{End}
use Rattle.vx_answers.specs.declared.answer.End.TheVariants as ends
use Rattle.vx_fronts.proofs.Parted.{private_parted}
use Rattle.vx_moments.specs.Commit.{Writing, IsCommitted, IsStopped}
use Rattle.vx_moments.specs.Copies.{IsTextOf}
use Rattle.vx_moments.specs.Moment.{Moment, AreLater}
use Rattle.vx_stages.specs.Ends.{IsChange}
use Rattle.vx_group_edits.specs.Stays.{EachStays}
use Rattle.vx_lending.specs.Public.{lent_pieces, still_pieces}
use Rattle.vx_house.specs.Scene.{Shelved, FaultsGoOn}
use Rattle.vx_house.specs.View.{at, scene, group_of, IsGroupKept, IsGroupWhole, IsMoment, IsMomentButGroup, Keeps, KeepsButGroup}
use Rattle.vx_house.specs.declared.house.House.{House}
use Rattle.vx_house.specs.declared.house.Imported.{Imported}
use Rattle.vx_house.proofs.Ends.{moment_but_group}
use Rattle.vx_house_calls.specs.Passes.{with_group}
use Rattle.vx_stage_changes.specs.Committing.{IsFinished, IsTried}
use Rattle.vx_stage_changes.proofs.Alone.{IsWrittenIn, alone, committed_alone, cut_alone, lost_alone, sized_after, x_alone}
use Rattle.vx_stage_changes.proofs.Holders.{group_before}
use Rattle.vx_stage_changes.proofs.CommitJoins.{but_group_on, faults_on, held_on, later_on, moment_on}
use Rattle.vx_stage_changes.proofs.Owns.{Runs}
use Rattle.vx_stage_changes.proofs.Runners.{places_done, runs_done, runs_lost}
use Rattle.vx_stage_changes.proofs.Stillness.{recorded_now, slots_now, whole_now}
use Rattle.vx_stage_changes.specs.Changing.{IsMeant}

-- Edits of a configuration keep the name of its group, its disks, and each volume of the group that runs.
pub record KeepsRunning {P : Type 0} {ghosts : Ghosts P} (g : Imported P ghosts) (next : Config) : Type 0 where
  pub group : next.group ≡ g.config.group
  pub disks : next.disks ≡ g.config.disks
  pub stays : EachStays (λ v. Runs g v.name) g.config next

-- The moment behind a commit that is done.
pub record IsCommittedAt {P : Type 0} {ghosts : Ghosts P} (see : P → Seen) (shelf : Shelved) (h : House P ghosts) (edits : List Edit) (config : Config) (m : Moment) : Type 0 where
  pub then : Moment
  pub is : IsMoment see (at shelf h) then
  pub later : AreLater m.counts then.counts
  pub writing : Writing
  pub config_is : writing.config ≡ config
  pub change : IsChange edits m.world writing
  pub committed : IsCommitted writing m then

-- The moment behind one that is stopped.
pub record IsStoppedAt {P : Type 0} {ghosts : Ghosts P} (see : P → Seen) (shelf : Shelved) (h : House P ghosts) (edits : List Edit) (end : End) (m : Moment) : Type 0 where
  pub then : Moment
  pub is : IsMomentButGroup see (at shelf h) then
  pub later : AreLater m.counts then.counts
  pub writing : Writing
  pub change : IsChange edits m.world writing
  pub stopped : IsStopped writing m end then

module _ {P : Type 0} {ghosts : Ghosts P} (see : P → Seen) (shelf : Shelved) (h : House P ghosts) (g g' : Imported P ghosts) (has : h.group ≡ Some g) (keeps : Keeps see (at shelf h)) (kept : IsGroupKept see g) (text : List ℕ) (public : g'.public ≡ g.public) (tried : IsTried see text g.base g'.base) where
  abbrev w : IsWrittenIn see shelf h g g' text
  w = record {
    has = has;
    held = keeps.devices;
    writable = record { slots = kept.slots; ready = kept.carries.alive.ready; private = private_parted (members see g.base) (still_pieces see g.public ++ lent_pieces see g.public) kept.whole.parted };
    tried = tried;
    public = public;
  }

  -- its devices can be joined, as before
  pub whole_written : IsGroupWhole see g'
  whole_written = whole_now see g g' (g.base.sequence + 1) g'.base.sequence text tried.committed.goes public kept.whole

  pub written_faults : FaultsGoOn (scene see (at shelf h)) (scene see (at shelf (with_group h g')))
  written_faults = faults_on (alone w)

  -- what is kept where the commit was stopped
  pub written_but_group : KeepsButGroup see (at shelf (with_group h g'))
  written_but_group = record { devices = held_on (alone w); ordered = keeps.house.ordered; hand = keeps.house.hand; volumes = keeps.house.volumes; whole = whole_written }

  is_change : (edits : List Edit) (next : Config) → IsEdited edits g.config next → (m : Moment) → IsMoment see (at shelf h) m → IsChange edits m.world (x_alone w next)
  is_change edits next edited m is = record { group = group_before see shelf h g has m is; edited = edited; joiners = refl; carriers = refl }

  module _ (edits : List Edit) (next : Config) (meant : IsMeant edits g.config next text) (named : next.group ≡ g.config.group) where
    same_name : next.group ≡ g.base.name
    same_name = named ∙ sym kept.named

    module _ (m : Moment) (is : IsMoment see (at shelf h) m) where
      stopped_by : (end : End) → IsStopped (x_alone w next) m end (moment_on (alone w) m m.world.group) → IsStoppedAt see shelf (with_group h g') edits end m
      stopped_by end stopped =
          let on = moment_but_group see (at shelf h) m is in
          record {
            then = moment_on (alone w) m m.world.group;
            is = but_group_on (alone w) m on m.world.group (runs_lost w m is);
            later = later_on (alone w) m on m.world.group;
            writing = x_alone w next;
            change = is_change edits next meant.edited m is;
            stopped = stopped;
          }

      pub group_is_lost : Each HasRisen (members see g.base) (members see g'.base) → IsStoppedAt see shelf (with_group h g') edits ends.GroupLost m
      group_is_lost risen = stopped_by ends.GroupLost (lost_alone w m (moment_but_group see (at shelf h) m is) next meant.printed.0 meant.printed.1 same_name risen)

      pub power_is_lost : AnyOf IsCut (members see g'.base) → IsStoppedAt see shelf (with_group h g') edits (ends.Lost []) m
      power_is_lost cut = stopped_by (ends.Lost []) (cut_alone w m (moment_but_group see (at shelf h) m is) next meant.printed.0 meant.printed.1 same_name cut)

-- the commit is done
module _ {P : Type 0} {ghosts : Ghosts P} (see : P → Seen) (shelf : Shelved) (h : House P ghosts) (g g' : Imported P ghosts) (has : h.group ≡ Some g) (keeps : Keeps see (at shelf h)) (kept : IsGroupKept see g) (text : List ℕ) (public : g'.public ≡ g.public) (finished : IsFinished see text g.base g'.base)
    (edits : List Edit) (meant : IsMeant edits g.config g'.config text) (runs : KeepsRunning g g'.config) where
  abbrev wd : IsWrittenIn see shelf h g g' text
  wd = w see shelf h g g' has keeps kept text public finished.tried

  kept_done : IsGroupKept see g'
  kept_done = record {
    named = finished.tried.committed.name ∙ kept.named ∙ sym runs.group;
    text = subst (IsTextOf g'.config) (sym finished.carries.holds) meant.printed.0;
    first = g.base.sequence + 1;
    carries = subst (λ t. CarriesText see (g.base.sequence + 1) t g'.base) (sym finished.carries.holds) finished.carries;
    sized = sized_after wd kept.sized;
    slots = slots_now (g.base.sequence + 1) g'.base.sequence text see g.base.disks.items g'.base.disks.items finished.tried.committed.goes kept.slots;
    recorded = recorded_now (g.base.sequence + 1) g'.base.sequence text see g.config g'.config runs.disks g.base.disks.items g'.base.disks.items finished.tried.committed.goes kept.recorded;
    whole = whole_written see shelf h g g' has keeps kept text public finished.tried;
    placed = places_done wd runs.stays kept.placed;
  }

  pub done_keeps : Keeps see (at shelf (with_group h g'))
  done_keeps = record {
    devices = held_on (alone wd);
    house = record { ordered = keeps.house.ordered; hand = keeps.house.hand; volumes = keeps.house.volumes; group = kept_done };
  }

  pub committed_at : (m : Moment) → IsMoment see (at shelf h) m → IsCommittedAt see shelf (with_group h g') edits g'.config m
  committed_at m is =
      let on = moment_but_group see (at shelf h) m is in
      let there = but_group_on (alone wd) m on (group_of see (Some g')) (runs_done wd runs.stays m is) in
      record {
        then = moment_on (alone wd) m (group_of see (Some g'));
        is = record { told = there.told; devices_are = there.devices_are; volumes_are = there.volumes_are; runs_are = there.runs_are; group_is = refl; counts = there.counts };
        later = later_on (alone wd) m on (group_of see (Some g'));
        writing = x_alone wd g'.config;
        config_is = refl;
        change = is_change see shelf h g g' has keeps kept text public finished.tried edits g'.config meant.edited m is;
        committed = committed_alone wd m on finished meant.printed.0 meant.printed.1 (runs.group ∙ sym kept.named);
      }

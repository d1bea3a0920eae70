-- Edits of the configuration that are committed, as a stage.
use Rattle.std.proofs.Common.{◌≡◌, false, ◌∙◌, inl, inr, ℕ, ◌+◌, List, [], ◌++◌, length, Some, Result, Ok, Err, refl, sym, ap, subst}
use Rattle.std.specs.Prelude.{IfSome}
use Rattle.vx_pages.specs.declared.local_piece.LocalPiece.{Ghosts}
use Rattle.vx_piece.specs.Seen.{Seen}
use Rattle.vx_confdb.specs.Groups.{CarriesText, members}
use Rattle.vx_objects.specs.declared.config.Config.{Config}
use Rattle.vx_objects.specs.declared.edit.Edit.{Edit}
use Rattle.vx_objects.specs.Applied.{IsEdited}
use Rattle.vx_answers.specs.declared.answer.End.{End}
use Rattle.vx_answers.specs.declared.answer.End.TheVariants as ends
use Rattle.vx_answers.specs.declared.refusal.Refusal.{Refusal}
use Rattle.vx_answers.specs.declared.refusal.Refusal.TheVariants as refusal
use Rattle.vx_script_words.specs.declared.value.DiskAt.{DiskAt}
use Rattle.vx_moments.specs.World.{Group}
use Rattle.vx_moments.specs.Commit.{Writing, IsCommitted, IsStopped}
use Rattle.vx_moments.specs.Moment.{Moment}
use Rattle.vx_moments.specs.Copies.{IsTextOf}
use Rattle.vx_stages.specs.Ends.{IsChange}
use Rattle.vx_stages.specs.Stages.{IsDone, Stops, EditsRefused, Wants}
use Rattle.vx_stages.specs.declared.stage.Stage.{Stage}
use Rattle.vx_house.specs.Goes.{StageGoes, Gives, only_reads}
use Rattle.vx_fronts.proofs.Parted.{private_parted}
use Rattle.vx_lending.specs.Public.{lent_pieces, still_pieces}
use Rattle.vx_house.specs.Holders.{holders, AreHeld}
use Rattle.vx_house.specs.Scene.{Shelved}
use Rattle.vx_house.specs.View.{at, scene, group_of, IsMoment, IsGroupKept, IsGroupWhole, KeepsHouse}
use Rattle.vx_house.specs.declared.house.House.{House}
use Rattle.vx_house.specs.declared.house.Imported.{Imported}
use Rattle.vx_house.specs.declared.stop.Stop.{Stop}
use Rattle.vx_house.specs.declared.stop.Stop.TheVariants as stops
use Rattle.vx_house.proofs.Moments.{later_refl, faults_refl}
use Rattle.vx_house.proofs.Ends.{moment_but_group}
use Rattle.vx_stage_changes.proofs.Alone.{IsWrittenIn, alone, sized_after, x_alone, lost_alone, cut_alone, committed_alone}
use Rattle.vx_stage_changes.proofs.Holders.{group_before}
use Rattle.vx_stage_changes.proofs.Stillness.{slots_now, recorded_now, whole_now}
use Rattle.vx_stage_changes.proofs.CommitStage.{done_stage, group_lost_stage, power_lost_stage}
use Rattle.vx_stage_changes.specs.Changing.{IsMeant, SamePublic, ChangeEndsBy}
use Rattle.vx_stage_changes.specs.Committing.{IsTried, IsFinished, CommitEnds}
use Rattle.vx_stage_changes.specs.Planning.{IsUnplanned, IsUnplannedBy}
use Rattle.vx_group_edits.specs.Stays.{EachStays}
use Rattle.vx_stage_changes.proofs.Owns.{Runs}
use Rattle.vx_stage_changes.proofs.Runners.{places_done, runs_done, runs_lost}

-- edits that are refused are refused by a test
pub refused_so : (edits : List Edit) (w : Group) (end : End) → IsUnplanned edits w.config (stops.Ended end) → (r : Refusal) × (end ≡ ends.Refused r) × EditsRefused edits w end
refused_so edits w end (inl broken) = (broken.0, broken.2, inl broken)
refused_so edits w end (inr long) = (refusal.TooLong (length long.2.0), long.2.3, inr long)

-- a command that is stopped for such a cause is refused
abbrev pub AreRefusals : (Stop → Type 0) → Type 0
AreRefusals IsCause = (end : End) → IsCause (stops.Ended end) → (r : Refusal) × (end ≡ ends.Refused r)

pub unplanned_refused : (edits : List Edit) (config : Config) → AreRefusals (IsUnplanned edits config)
unplanned_refused edits config end (inl broken) = (broken.0, broken.2)
unplanned_refused edits config end (inr long) = (refusal.TooLong (length long.2.0), long.2.3)

pub grown_refused : (more : ℕ) (edits : List Edit) (config : Config) → AreRefusals (IsUnplannedBy more edits config)
grown_refused more edits config end (inl broken) = (broken.0, broken.2)
grown_refused more edits config end (inr long) = (refusal.TooLong (length long.2.0 + more), long.2.3)

module _ {P : Type 0} {ghosts : Ghosts P} (see : P → Seen) (IsCause : Stop → Type 0) (edits : List Edit) where
  -- the edits are refused, and nothing is done
  pub unplanned_ends : AreRefusals IsCause → (g : Imported P ghosts) (stop : Stop) → IsCause stop → ChangeEndsBy see IsCause edits (Err stop) g g
  unplanned_ends refused g stops.OutOfMemory is = refl
  unplanned_ends refused g (stops.Ended (ends.Done copied parts blocks)) is = (refl, is)
  unplanned_ends refused g (stops.Ended (ends.Refused r)) is = (refl, is)
  unplanned_ends refused g (stops.Ended (ends.Fault told device parts)) is = (refl, is)
  unplanned_ends refused g (stops.Ended ends.ShelfFailed) is = (refl, is)
  unplanned_ends refused g (stops.Ended ends.GroupLost) is = let why = refused ends.GroupLost is in let e = why.1 in cc
  unplanned_ends refused g (stops.Ended (ends.Lost parts)) is = let why = refused (ends.Lost parts) is in let e = why.1 in cc

  -- the commit is not done
  pub stopped_ends : (g g' : Imported P ghosts) (next : Config) (text : List ℕ) (stop : Stop) → g'.config ≡ g.config → SamePublic g g' → IsMeant edits g.config next text → CommitEnds see (Err stop) text g.base g'.base → ChangeEndsBy see IsCause edits (Err stop) g g'
  stopped_ends g g' next text stops.OutOfMemory same public meant is = ap (λ k. (let h : Imported P ghosts = record { config = k; base = g'.base; public = g'.public } in h)) same ∙ ap (λ b. (let h : Imported P ghosts = record { config = g.config; base = b; public = g'.public } in h)) is ∙ ap (λ p. (let h : Imported P ghosts = record { config = g.config; base = g.base; public = p } in h)) public
  stopped_ends g g' next text (stops.Ended (ends.Done copied parts blocks)) same public meant is = absurd is
  stopped_ends g g' next text (stops.Ended (ends.Refused r)) same public meant is = absurd is
  stopped_ends g g' next text (stops.Ended (ends.Fault told device parts)) same public meant is = absurd is
  stopped_ends g g' next text (stops.Ended ends.ShelfFailed) same public meant is = absurd is
  stopped_ends g g' next text (stops.Ended ends.GroupLost) same public meant is = (public, (next, text, meant, is.0, is.1))
  stopped_ends g g' next text (stops.Ended (ends.Lost parts)) same public meant is = (is.0, public, (next, text, meant, is.1, is.2))

  -- a cause that is another one too
  pub ends_weaker : (IsOther : Stop → Type 0) → ((stop : Stop) → IsCause stop → IsOther stop) → (g g' : Imported P ghosts) (result : Result (Unit {0}) Stop) → ChangeEndsBy see IsCause edits result g g' → ChangeEndsBy see IsOther edits result g g'
  ends_weaker IsOther to g g' (Ok u) is = is
  ends_weaker IsOther to g g' (Err stops.OutOfMemory) is = is
  ends_weaker IsOther to g g' (Err (stops.Ended ends.GroupLost)) is = is
  ends_weaker IsOther to g g' (Err (stops.Ended (ends.Lost parts))) is = is
  ends_weaker IsOther to g g' (Err (stops.Ended (ends.Done copied parts blocks))) is = (is.0, to (stops.Ended (ends.Done copied parts blocks)) is.1)
  ends_weaker IsOther to g g' (Err (stops.Ended (ends.Refused r))) is = (is.0, to (stops.Ended (ends.Refused r)) is.1)
  ends_weaker IsOther to g g' (Err (stops.Ended (ends.Fault told device parts))) is = (is.0, to (stops.Ended (ends.Fault told device parts)) is.1)
  ends_weaker IsOther to g g' (Err (stops.Ended ends.ShelfFailed)) is = (is.0, to (stops.Ended ends.ShelfFailed) is.1)

-- What a stage of these edits is, over the house with this group, where it is refused for such causes.
pub record IsStage {P : Type 0} {ghosts : Ghosts P} (see : P → Seen) (s : Stage) (disks : List DiskAt) (shelf : Shelved) (old : House P ghosts) (g : Imported P ghosts) (edits : List Edit) (IsCause : Stop → Type 0) : Type 0 where
  pub writes : only_reads s ≡ false
  pub wants : (m : Moment) → Wants s m m
  pub gives : (h : House P ghosts) → Gives see s disks h
  pub group : (next : Config) → IsEdited edits g.config next → next.group ≡ g.config.group
  pub keeps_disks : (next : Config) → IsEdited edits g.config next → next.disks ≡ g.config.disks
  pub stays : (next : Config) → IsEdited edits g.config next → EachStays (λ v. Runs g v.name) g.config next
  pub refused : AreRefusals IsCause
  pub refuses : (m : Moment) (r : Refusal) → IsMoment see (at shelf old) m → IsCause (stops.Ended (ends.Refused r)) → Stops s disks m (ends.Refused r) m
  pub done : (m n : Moment) (x : Writing) → IsMoment see (at shelf old) m → IsChange edits m.world x → IsCommitted x m n → IsDone s disks m n
  pub stops : (m n : Moment) (end : End) (x : Writing) → IsMoment see (at shelf old) m → IsChange edits m.world x → IsStopped x m end n → Stops s disks m end n

module _ {P : Type 0} {ghosts : Ghosts P} (see : P → Seen) (s : Stage) (disks : List DiskAt) (shelf : Shelved) (old : House P ghosts) (keeps : KeepsHouse see old) (are_held : AreHeld shelf.held (holders see old)) where
  -- want of memory
  pub unchanged : ((m : Moment) → Wants s m m) → StageGoes {T = Unit {0}} see s disks (Err stops.OutOfMemory) (at shelf old) (at shelf old)
  unchanged wants = record {
    keeps = record { devices = are_held; house = keeps };
    goes = λ m is. (m, is, later_refl m.counts, wants m);
    gives = tt;
    still = λ is. tt;
    faults = faults_refl (scene see (at shelf old));
    blamed = tt;
  }

  pub refused_here : (r : Refusal) → ((m : Moment) → IsMoment see (at shelf old) m → Stops s disks m (ends.Refused r) m) → StageGoes {T = Unit {0}} see s disks (Err (stops.Ended (ends.Refused r))) (at shelf old) (at shelf old)
  refused_here r why = record {
    keeps = record { devices = are_held; house = keeps };
    goes = λ m is. (m, is, later_refl m.counts, why m is);
    gives = tt;
    still = λ is. tt;
    faults = faults_refl (scene see (at shelf old));
    blamed = tt;
  }

  module _ (g : Imported P ghosts) (has : old.group ≡ Some g) where
    pub kept : IsGroupKept see g
    kept = subst (λ o. IfSome o (IsGroupKept see)) has keeps.group

    abbrev pub house : Imported P ghosts → House P ghosts
    house g' = record { volumes = old.volumes; group = Some g'; hand = old.hand }

    pub same_house : (g' : Imported P ghosts) → g' ≡ g → old ≡ house g'
    same_house g' same = ap (λ o. (let h : House P ghosts = record { volumes = old.volumes; group = o; hand = old.hand } in h)) (has ∙ ap (λ x. Some x) (sym same))

    pub group_at : (m : Moment) → IsMoment see (at shelf old) m → (w : Group) × (m.world.group ≡ Some w) × (w.config ≡ g.config)
    group_at m is = let w = group_of see (Some g) in (_, is.group_is ∙ ap (group_of see) has, refl)

    written : (g' : Imported P ghosts) (text : List ℕ) → SamePublic g g' → IsTried see text g.base g'.base → IsWrittenIn see shelf old g g' text
    written g' text public tried = record { has = has; held = are_held; writable = record { slots = kept.slots; ready = kept.carries.alive.ready; private = private_parted (members see g.base) (still_pieces see g.public ++ lent_pieces see g.public) kept.whole.parted }; tried = tried; public = public }

    -- its devices can be joined, as before
    whole_after : (g' : Imported P ghosts) (text : List ℕ) → SamePublic g g' → IsTried see text g.base g'.base → IsGroupWhole see g'
    whole_after g' text public tried = whole_now see g g' (g.base.sequence + 1) g'.base.sequence text tried.committed.goes public kept.whole

    module _ (edits : List Edit) (IsCause : Stop → Type 0) (is_stage : IsStage see s disks shelf old g edits IsCause) where
      refused_by : (end : End) → IsCause (stops.Ended end) → StageGoes {T = Unit {0}} see s disks (Err (stops.Ended end)) (at shelf old) (at shelf old)
      refused_by end is =
          let why = is_stage.refused end is in
          subst (λ e. StageGoes {T = Unit {0}} see s disks (Err (stops.Ended e)) (at shelf old) (at shelf old)) (sym why.1)
          (refused_here why.0 (λ m at_m. is_stage.refuses m why.0 at_m (subst (λ e. IsCause (stops.Ended e)) why.1 is)))

      same_name : (next : Config) → IsEdited edits g.config next → next.group ≡ g.base.name
      same_name next edited = is_stage.group next edited ∙ sym kept.named

      kept_after : (g' : Imported P ghosts) (text : List ℕ) → SamePublic g g' → IsMeant edits g.config g'.config text → IsFinished see text g.base g'.base → IsGroupKept see g'
      kept_after g' text public meant finished = record {
        named = finished.tried.committed.name ∙ kept.named ∙ sym (is_stage.group g'.config meant.edited);
        text = subst (IsTextOf g'.config) (sym finished.carries.holds) meant.printed.0;
        first = g.base.sequence + 1;
        carries = subst (λ t. CarriesText see (g.base.sequence + 1) t g'.base) (sym finished.carries.holds) finished.carries;
        sized = sized_after (written g' text public finished.tried) kept.sized;
        slots = slots_now (g.base.sequence + 1) g'.base.sequence text see g.base.disks.items g'.base.disks.items finished.tried.committed.goes kept.slots;
        recorded = recorded_now (g.base.sequence + 1) g'.base.sequence text see g.config g'.config (is_stage.keeps_disks g'.config meant.edited) g.base.disks.items g'.base.disks.items finished.tried.committed.goes kept.recorded;
        whole = whole_after g' text public finished.tried;
        placed = places_done (written g' text public finished.tried) (is_stage.stays g'.config meant.edited) kept.placed;
      }

      is_change : (m : Moment) → IsMoment see (at shelf old) m → (g' : Imported P ghosts) (text : List ℕ) (public : SamePublic g g') (tried : IsTried see text g.base g'.base) (next : Config) → IsEdited edits g.config next → IsChange edits m.world (x_alone (written g' text public tried) next)
      is_change m is g' text public tried next edited = record { group = group_before see shelf old g has m is; edited = edited; joiners = refl; carriers = refl }

      pub edits_go : (result : Result (Unit {0}) Stop) (g' : Imported P ghosts) → ChangeEndsBy see IsCause edits result g g' → StageGoes see s disks result (at shelf old) (at shelf (house g'))
      edits_go (Ok u) g' (public, (text, meant, finished)) =
          let w = written g' text public finished.tried in
          done_stage (alone w) s disks keeps (record { ordered = keeps.ordered; hand = keeps.hand; volumes = keeps.volumes; group = kept_after g' text public meant finished }) (runs_done w (is_stage.stays g'.config meant.edited)) (is_stage.gives (house g')) is_stage.writes (λ m is.
          is_stage.done m _ (x_alone w g'.config) is (is_change m is g' text public finished.tried g'.config meant.edited)
          (committed_alone w m (moment_but_group see (at shelf old) m is) finished meant.printed.0 meant.printed.1 (same_name g'.config meant.edited)))
      edits_go (Err stops.OutOfMemory) g' same = subst (λ h. StageGoes {T = Unit {0}} see s disks (Err stops.OutOfMemory) (at shelf old) (at shelf h)) (same_house g' same) (unchanged is_stage.wants)
      edits_go (Err (stops.Ended ends.GroupLost)) g' (public, (next, text, meant, tried, risen)) =
          let w = written g' text public tried in
          group_lost_stage (alone w) s disks keeps keeps.hand (whole_after g' text public tried) (runs_lost w) (λ m is.
          is_stage.stops m _ ends.GroupLost (x_alone w next) is (is_change m is g' text public tried next meant.edited)
          (lost_alone w m (moment_but_group see (at shelf old) m is) next meant.printed.0 meant.printed.1 (same_name next meant.edited) risen))
      edits_go (Err (stops.Ended (ends.Lost parts))) g' (none, public, (next, text, meant, tried, cut)) =
          let w = written g' text public tried in
          subst (λ p. StageGoes {T = Unit {0}} see s disks (Err (stops.Ended (ends.Lost p))) (at shelf old) (at shelf (house g'))) (sym none)
          (power_lost_stage (alone w) s disks keeps keeps.hand (whole_after g' text public tried) (runs_lost w) (λ m is.
          is_stage.stops m _ (ends.Lost []) (x_alone w next) is (is_change m is g' text public tried next meant.edited)
          (cut_alone w m (moment_but_group see (at shelf old) m is) next meant.printed.0 meant.printed.1 (same_name next meant.edited) cut)))
      edits_go (Err (stops.Ended (ends.Done copied parts blocks))) g' (same, why) = subst (λ h. StageGoes {T = Unit {0}} see s disks (Err (stops.Ended (ends.Done copied parts blocks))) (at shelf old) (at shelf h)) (same_house g' same) (refused_by (ends.Done copied parts blocks) why)
      edits_go (Err (stops.Ended (ends.Refused r))) g' (same, why) = subst (λ h. StageGoes {T = Unit {0}} see s disks (Err (stops.Ended (ends.Refused r))) (at shelf old) (at shelf h)) (same_house g' same) (refused_by (ends.Refused r) why)
      edits_go (Err (stops.Ended (ends.Fault told device parts))) g' (same, why) = subst (λ h. StageGoes {T = Unit {0}} see s disks (Err (stops.Ended (ends.Fault told device parts))) (at shelf old) (at shelf h)) (same_house g' same) (refused_by (ends.Fault told device parts) why)
      edits_go (Err (stops.Ended ends.ShelfFailed)) g' (same, why) = subst (λ h. StageGoes {T = Unit {0}} see s disks (Err (stops.Ended ends.ShelfFailed)) (at shelf old) (at shelf h)) (same_house g' same) (refused_by ends.ShelfFailed why)

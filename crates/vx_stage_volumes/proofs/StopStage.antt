-- The stop of a running volume as a stage.
use Rattle.std.proofs.Common.{◌≡◌, ◌∙◌, ℕ, ◌<◌, Bool, true, false, cond, List, [], ◌++◌, Option, Some, None, Result, Ok, Err, ◌||◌, map, refl, sym, ap, subst, inl, inr}
use Rattle.std.specs.Prelude.{IfSome, IsSome, is_some}
use Rattle.std.proofs.lemmas.List.{append-nil}
use Rattle.vx_pages.specs.declared.local_piece.LocalPiece.{Ghosts}
use Rattle.vx_base.specs.Named.{Word}
use Rattle.vx_base.proofs.NamedLemmas.{bytes_eq_self}
use Rattle.vx_mask.specs.Mask.{has}
use Rattle.vx_piece.specs.Seen.{Seen, AreCounts, EndsThere}
use Rattle.vx_copies.specs.Commit.{HasRisen}
use Rattle.vx_copies.specs.Disks.{DiskSeen, IsCut}
use Rattle.vx_copies.specs.Lists.{AnyOf, Each}
use Rattle.vx_confdb.specs.Groups.{members}
use Rattle.vx_config_parts.specs.declared.state.VolState.TheVariants as vol
use Rattle.vx_config_parts.specs.declared.vol.Vol.{Vol}
use Rattle.vx_objects.specs.declared.config.Config.{Config}
use Rattle.vx_objects.specs.declared.edit.Edit.{Edit}
use Rattle.vx_objects.specs.Applied.{IsEdited}
use Rattle.vx_answers.specs.declared.answer.End.{End}
use Rattle.vx_answers.specs.declared.answer.End.TheVariants as ends
use Rattle.vx_answers.specs.declared.refusal.Refusal.{Refusal}
use Rattle.vx_answers.specs.declared.refusal.Refusal.TheVariants as refusal
use Rattle.vx_image.specs.UsedPlexes.{IsVolOf}
use Rattle.vx_image.specs.Bytes.{image_of}
use Rattle.vx_image.specs.Image.{regions_of}
use Rattle.vx_image.specs.Meaning.{ReadsOneList, dirty_read}
use Rattle.vx_script_words.specs.declared.value.DiskAt.{DiskAt}
use Rattle.vx_moments.specs.Commit.{Writing, is_slot_of, is_written_slot, parties}
use Rattle.vx_moments.specs.Leaving.{grouped}
use Rattle.vx_moments.specs.Moment.{Moment, AreLater}
use Rattle.vx_moments.specs.World.{Group, Volume}
use Rattle.vx_moments.specs.Group.{image_on, sectors_of}
use Rattle.vx_moments.specs.Volumes.{StandsForVolume}
use Rattle.vx_group_edits.specs.Stays.{EachStays}
use Rattle.vx_group_edits.proofs.Restated.{stop_keeps}
use Rattle.vx_group_stop.specs.Laws.{EachRestIsSettled}
use Rattle.vx_group_stop.specs.Stops.{IsAtRest}
use Rattle.vx_group_stop.specs.Stops.{ComesToRest as Comes}
use Rattle.vx_group_volumes.specs.Laws.{EachStopChangesStates}
use Rattle.vx_group_volumes.specs.RestLaws.{EachRestRunsOn}
use Rattle.vx_group_volumes.proofs.Commits.{commit_keeps_images}
use Rattle.vx_group_volumes.proofs.ExactRests.{well_rest_clean}
use Rattle.vx_state_edits.specs.Edits.{stop_edits, stopped}
use Rattle.vx_state_edits.specs.Laws.{EachStopRestates, Restates, in_state}
use Rattle.vx_stages.specs.Ends.{IsChange}
use Rattle.vx_stages.specs.Recorded.{IsSoundAs}
use Rattle.vx_stages.specs.Stages.{IsDone, Stops, Wants}
use Rattle.vx_stages.specs.Stopping.{IsToRecord, StandsStopped, StopIsRefused, StopStops, StopWants, refusal_by, rested_volume, runs_on_plexes, stop_refusal, without_volume}
use Rattle.vx_stages.specs.Tests.{recorded, volume_in}
use Rattle.vx_stages.specs.declared.stage.Stage.TheVariants as stage
use Rattle.vx_lending.specs.declared.public.Running.{Running}
use Rattle.vx_lending.specs.Public.{running_at}
use Rattle.vx_volume.specs.declared.fault.IoFault.{IoFault}
use Rattle.vx_volume.specs.Volume.{volume_seen}
use Rattle.vx_volume_laws.specs.Leaving.{EachStopStands}
use Rattle.vx_house.specs.Goes.{Goes, StageGoes}
use Rattle.vx_house.specs.Holders.{holders, AreHeld}
use Rattle.vx_house.specs.Runs.{IsAtRun, fronts_in, run_in}
use Rattle.vx_house.specs.Scene.{Shelved, FaultsGoOn, IsBlamed}
use Rattle.vx_house.specs.View.{at, group_of, scene, IsGroupKept, IsMoment, IsMomentButGroup, Keeps, KeepsHouse}
use Rattle.vx_house.specs.declared.house.House.{House}
use Rattle.vx_house.specs.declared.house.Imported.{Imported}
use Rattle.vx_house.specs.declared.stop.Stop.{Stop}
use Rattle.vx_house.specs.declared.stop.Stop.TheVariants as stops
use Rattle.vx_house.proofs.Ends.{goes_ended, keeps_but_group, keeps_ended, moment_but_group}
use Rattle.vx_house.proofs.Moments.{faults_refl, faults_trans, later_refl, later_trans}
use Rattle.vx_house.proofs.Takes.{rests_self}
use Rattle.vx_house_calls.specs.Passes.{with_group}
use Rattle.vx_stage_changes.proofs.Holders.{group_before, world_group}
use Rattle.vx_stage_changes.proofs.Owns.{Runs}
use Rattle.vx_stage_changes.specs.Committing.{IsFinished, IsTried}
use Rattle.vx_stage_changes.specs.Changing.{IsMeant}
use Rattle.vx_stage_volumes.specs.Laying.{IsLaid}
use Rattle.vx_stage_volumes.specs.Resting.{IsFaultTold, RestsIn}
use Rattle.vx_stage_volumes.specs.Stopping.{HasRoom, IsReadyToStop, IsRested, IsUnready, IsUnrested, StopEnds}
use Rattle.vx_stage_volumes.proofs.Commit.{IsCommittedAt, IsStoppedAt, KeepsRunning, committed_at, done_keeps, group_is_lost, power_is_lost, written_but_group, written_faults}
use Rattle.vx_stage_volumes.proofs.Held.{HoldsAlike, holds_alike}
use Rattle.vx_stage_volumes.proofs.LaidHouse.{laid_group, laid_held, laid_keeps, laid_kept, laid_moment}
use Rattle.vx_stage_volumes.proofs.Marks.{marks_of}
use Rattle.vx_stage_volumes.proofs.Named.{found_in_state, found_name, found_of, found_one, found_recorded}
use Rattle.vx_stage_volumes.proofs.Otherwise.{otherwise_scene}
use Rattle.vx_stage_volumes.proofs.Rested.{rest_keeps}
use Rattle.vx_stage_volumes.proofs.RestMoments.{IsRestedAt, rest_blamed, rest_house, rest_stops, rested_at}
use Rattle.vx_stage_volumes.proofs.Room.{room_config, room_held, room_keeps, room_kept, room_moment}
use Rattle.vx_stage_volumes.proofs.Stands.{clear_clean, spared_then, stands_clean}
use Rattle.vx_stage_volumes.proofs.SoundAs.{stop_sound}

-- What the laws below promise.
pub record HaveLaws {P : Type 0} (see : P → Seen) : Type 0 where
  pub rest : EachRestRunsOn
  pub settled : EachRestIsSettled
  pub stands : EachStopStands
  pub states : EachStopChangesStates
  pub restates : EachStopRestates
  pub ends : (p : P) → EndsThere (see p)
  pub counts : (p : P) → AreCounts (see p)

some_one : {X : Type 0} (x y : X) → Some x ≡ Some y → x ≡ y
some_one x y e = cc

-- where none joins, a slot that is written is one of a good disk
few_good : (x : Writing) → x.joiners ≡ [] → (slot : ℕ) → is_written_slot x slot ≡ true → has x.group.good slot ≡ true
few_good x none slot is = or_false (has x.group.good slot) (ap (λ js. has x.group.good slot || is_slot_of js slot) (sym none) ∙ is)
  where
    or_false : (a : Bool) → (a || false) ≡ true → a ≡ true
    or_false true is = refl
    or_false false is = is

-- a volume runs in the world just where it does in the house
at_run_same : {P : Type 0} {ghosts : Ghosts P} (see : P → Seen) (hs : List DiskSeen) (g : Option Group) (name : Word) (r : Option (Running P ghosts)) (o : Option Volume) → IsAtRun see hs g name r o → is_some o ≡ is_some r
at_run_same see hs g name None None is = refl
at_run_same see hs g name None (Some v) is = absurd is
at_run_same see hs g name (Some r) None is = absurd is
at_run_same see hs g name (Some r) (Some v) is = refl

module _ {P : Type 0} {ghosts : Ghosts P} (old : House P ghosts) (alike : (p q : P) → is_some (ghosts.seen p).told ≡ is_some (ghosts.seen q).told) (laws : HaveLaws ghosts.seen) (name : Word) (disks : List DiskAt) (shelf : Shelved) (keeps_house : KeepsHouse ghosts.seen old) (are_held : AreHeld shelf.held (holders ghosts.seen old)) where
  abbrev see : P → Seen
  see = ghosts.seen

  abbrev keeps : Keeps see (at shelf old)
  keeps = record { devices = are_held; house = keeps_house }

  abbrev StopGoes : Result (Unit {0}) Stop → House P ghosts → Type 0
  StopGoes result new = StageGoes see (stage.Stop name) disks result (at shelf old) (at shelf new)

  -- a test refuses it
  refused_so : (r : Refusal) → ((m : Moment) → IsMoment see (at shelf old) m → StopIsRefused name m (ends.Refused r) m) → StopGoes (Err (stops.Ended (ends.Refused r))) old
  refused_so r why = record {
    keeps = keeps;
    goes = λ m is. (m, is, later_refl m.counts, inl (why m is));
    gives = tt;
    still = λ e. tt;
    faults = faults_refl (scene see (at shelf old));
    blamed = tt;
  }

  -- no group is imported
  pub no_group : old.group ≡ None → StopGoes (Err (stops.Ended (ends.Refused (refusal.NoGroup None)))) old
  no_group none = refused_so (refusal.NoGroup None) (λ m is. (
    inl (refusal.NoGroup None, ap (λ o. stop_refusal name o (runs_on_plexes m.world name)) (is.group_is ∙ ap (group_of see) none), refl),
    rests_self m,
  ))

  module _ (g : Imported P ghosts) (has_group : old.group ≡ Some g) where
    kept : IsGroupKept see g
    kept = subst (λ o. IfSome o (IsGroupKept see)) has_group keeps_house.group

    -- the house with another group
    abbrev pub house : Imported P ghosts → House P ghosts
    house g' = with_group old g'

    same_house : (g' : Imported P ghosts) → g' ≡ g → old ≡ house g'
    same_house g' same = ap (λ o. (let h : House P ghosts = record { volumes = old.volumes; group = o; hand = old.hand } in h)) (has_group ∙ ap (λ x. Some x) (sym same))

    -- ---- refused by a test

    module _ (m : Moment) (is : IsMoment see (at shelf old) m) where
      here : m.world.group ≡ Some (world_group see g)
      here = group_before see shelf old g has_group m is

      runs_same : runs_on_plexes m.world name ≡ is_some (running_at g.public name)
      runs_same = at_run_same see (fronts_in see old.group) m.world.group name (run_in old.group name) (grouped (m.world.volumes name)) (is.runs_are name) ∙ ap (λ o. is_some (run_in o name)) has_group

      tested_same : stop_refusal name m.world.group (runs_on_plexes m.world name) ≡ stop_refusal name (Some (world_group see g)) (is_some (running_at g.public name))
      tested_same = ap (λ o. stop_refusal name o (runs_on_plexes m.world name)) here ∙ ap (stop_refusal name (Some (world_group see g))) runs_same

      unready : (end : End) → IsUnready name g (stops.Ended end) → StopIsRefused name m end m
      unready end (inl (r, is_r, same)) = (inl (r, tested_same ∙ is_r, same), rests_self m)
      unready end (inr (v, found, passes, long)) = (
        inr (
          world_group see g,
          here,
          ap (stop_refusal name (Some (world_group see g))) runs_same ∙ ap (λ o. refusal_by name o (is_some (running_at g.public name))) found ∙ passes,
          (v, found, long),
        ),
        rests_self m,
      )

    refused_goes : (g' : Imported P ghosts) → g' ≡ g → (r : Refusal) → IsUnready name g (stops.Ended (ends.Refused r)) → StopGoes (Err (stops.Ended (ends.Refused r))) (house g')
    refused_goes g' same r why = subst (StopGoes (Err (stops.Ended (ends.Refused r)))) (same_house g' same) (refused_so r (λ m is. unready m is (ends.Refused r) why))

    -- ---- want of memory

    wanting : (new : House P ghosts) → Keeps see (at shelf new) → FaultsGoOn (scene see (at shelf old)) (scene see (at shelf new)) → Goes see (StopWants name) (at shelf old) (at shelf new) → StopGoes (Err stops.OutOfMemory) new
    wanting new keeps_now faults goes = record { keeps = keeps_now; goes = goes; gives = tt; still = λ e. tt; faults = faults; blamed = tt }

    wants_same : (g' : Imported P ghosts) → g' ≡ g → StopGoes (Err stops.OutOfMemory) (house g')
    wants_same g' same = subst (StopGoes (Err stops.OutOfMemory)) (same_house g' same)
        (wanting old keeps (faults_refl (scene see (at shelf old))) (λ m is. (m, is, later_refl m.counts, inl refl)))

    -- ---- room for it

    module _ (room : Imported P ghosts) (has_room : HasRoom g room) where
      abbrev h1 : House P ghosts
      h1 = house room

      kept1 : IsGroupKept see room
      kept1 = room_kept see g room has_room kept

      keeps1 : Keeps see (at shelf h1)
      keeps1 = room_keeps see g room has_room shelf old has_group kept keeps

      same_scene : scene see (at shelf h1) ≡ scene see (at shelf old)
      same_scene = otherwise_scene see shelf old g room has_group (room_held see g room has_room)

      moment1 : (m : Moment) → IsMoment see (at shelf old) m → IsMoment see (at shelf h1) m
      moment1 m is = room_moment see g room has_room shelf old has_group m is

      wants_room : StopGoes (Err stops.OutOfMemory) h1
      wants_room = wanting h1 keeps1 (subst (FaultsGoOn (scene see (at shelf old))) (sym same_scene) (faults_refl (scene see (at shelf old)))) (λ m is. (m, moment1 m is, later_refl m.counts, inl refl))

      -- ---- it comes to rest, or does not

      module _ (mid : Imported P ghosts) (result : Result ℕ IoFault) (rests : RestsIn see name result room mid) where
        abbrev h2 : House P ghosts
        h2 = with_group h1 mid

        abbrev after : Running P ghosts
        after = rests.runs.after

        kept2 : IsGroupKept see mid
        kept2 = rest_keeps alike room mid name result rests kept1

        keeps2 : Keeps see (at shelf h2)
        keeps2 = (rest_house alike laws.rest shelf h1 room mid refl name result rests keeps1).keeps

        faults2 : FaultsGoOn (scene see (at shelf old)) (scene see (at shelf h2))
        faults2 = subst (λ s. FaultsGoOn s (scene see (at shelf h2))) same_scene (rest_house alike laws.rest shelf h1 room mid refl name result rests keeps1).faults

        abbrev Rested : Moment → Type 0
        Rested m = IsRestedAt see shelf h2 (members see room.base) name rests.runs.before after m

        rested2 : (m : Moment) → IsMoment see (at shelf old) m → Rested m
        rested2 m is = rested_at alike laws.rest shelf h1 room mid refl name result rests keeps1 m (moment1 m is)

        base2 : mid.base ≡ room.base
        base2 = ap (λ (x : Imported P ghosts). x.base) rests.same

        config2 : mid.config ≡ g.config
        config2 = ap (λ (x : Imported P ghosts). x.config) rests.same ∙ room_config see g room has_room

        was2 : running_at mid.public name ≡ Some after
        was2 = rests.runs.puts name ∙ ap (λ b. cond b (Some after) (running_at room.public name)) (bytes_eq_self name)

        wants_rested : StopGoes (Err stops.OutOfMemory) h2
        wants_rested = wanting h2 keeps2 faults2 (λ m is. let r = rested2 m is in (r.then, r.is, r.later, inr r.rest))

        -- the group, as the world has it
        same_group : (m : Moment) (is : IsMoment see (at shelf old) m) (r : Rested m) → r.rest.group ≡ world_group see g
        same_group m is r = some_one r.rest.group (world_group see g) (sym r.rest.here ∙ here m is)

        -- ---- it was not brought to rest

        module _ (fault : IoFault) (is_fault : result ≡ Err fault) where
          told_goes : (end : End) → IsFaultTold see room.base.disks.items fault (stops.Ended end) → Goes see (λ m n. StopStops name m end n) (at shelf old) (at shelf h2)
          told_goes end told m is =
              let stopped = rest_stops alike laws.rest shelf h1 room mid refl name result rests keeps1 m (moment1 m is) fault is_fault end told in
              (stopped.0.then, stopped.0.is, stopped.0.later, inr (inl stopped.1))

          told_blamed : (end : End) → IsFaultTold see room.base.disks.items fault (stops.Ended end) → IsBlamed end (scene see (at shelf old)) (scene see (at shelf h2))
          told_blamed end told = subst (λ s. IsBlamed end s (scene see (at shelf h2))) same_scene (rest_blamed alike laws.rest shelf h1 room mid refl name result rests keeps1 fault is_fault end told)

        -- ---- the commit

        module _ (marks : ℕ) (is_done : result ≡ Ok marks) (of : Vol) (ready : IsReadyToStop name g of) where
          abbrev edits : List Edit
          edits = stop_edits g.config of marks

          at_rest : IsAtRest (volume_seen see rests.runs.before.volume) (volume_seen see after.volume) marks
          at_rest = subst (λ x. Comes (volume_seen see rests.runs.before.volume) (volume_seen see after.volume) x) is_done rests.runs.rests

          to_record : (m : Moment) (is : IsMoment see (at shelf old) m) (r : Rested m) → IsToRecord name m r.then edits
          to_record m is r = record {
            rest = r.rest;
            of = of;
            recorded_is = ap (recorded name) (here m is) ∙ ready.found;
            active = ready.active;
            marks = marks;
            edits_are = ap (λ (w : Group). stop_edits w.config of marks) (sym (same_group m is r));
            marked = λ sound. marks_of see (members see room.base) r.rest.group name after (rested_volume r.rest) r.run sound marks at_rest.marks;
          }

          restated : (next : Config) → IsEdited edits g.config next → Restates of.name vol.Clean (stopped marks) g.config next
          restated next edited = laws.restates g.config of marks (found_recorded g.config name of ready.found) next edited

          named2 : (next : Config) → IsEdited edits g.config next → next.group ≡ mid.config.group
          named2 next edited = (restated next edited).group ∙ ap (λ (c : Config). c.group) (sym config2)

          meant2 : (next : Config) (text : List ℕ) → IsMeant edits g.config next text → IsMeant edits mid.config next text
          meant2 next text meant = subst (λ c. IsMeant edits c next text) (sym config2) meant

          -- it is stopped, and the volume runs still
          module _ (g' : Imported P ghosts) (next : Config) (text : List ℕ) (meant : IsMeant edits g.config next text) (tried : IsTried see text mid.base g'.base) (public : g'.public ≡ mid.public) where
            abbrev h3 : House P ghosts
            h3 = with_group h2 g'

            -- as the stop records it the volume is sound
            sound_at : (m : Moment) (is : IsMoment see (at shelf old) m) (r : Rested m) (x : Writing) → IsChange edits r.then.world x → r.rest.volume.sound ≡ true → IsSoundAs r.rest.group x.config name r.then.world
            sound_at m is r x change =
                let own = same_group m is r in
                let same : x.group ≡ r.rest.group = some_one x.group r.rest.group (sym change.group ∙ r.group) in
                let run_of : of ≡ r.run.of = sym (found_one g.config name of ready.found r.run.of (subst (λ (w : Group). IsVolOf w.config r.run.of) own r.run.placed.runs.recorded) r.run.named) in
                let edited : IsEdited (stop_edits r.rest.group.config r.run.of marks) r.rest.group.config x.config =
                subst (λ v. IsEdited (stop_edits r.rest.group.config v marks) r.rest.group.config x.config) run_of
                (subst (λ (w : Group). IsEdited (stop_edits w.config of marks) r.rest.group.config x.config) (sym own) (subst (λ (w : Group). IsEdited edits w.config x.config) same change.edited)) in
                let alike_there = subst (λ b. HoldsAlike see (members see b) r.then.world.devices after) base2
                (holds_alike see laws.ends laws.counts (at shelf h2) (keeps_but_group see (at shelf h2) keeps2) r.then (moment_but_group see (at shelf h2) r.then r.is) mid refl name after was2) in
                let settled = (laws.settled (volume_seen see rests.runs.before.volume) (volume_seen see after.volume) marks at_rest).1 in
                stop_sound see laws.stands laws.states (members see room.base) r.rest.group name after (rested_volume r.rest) r.run r.then.world alike_there settled marks x.config edited

            broken_at : (end : End) (m : Moment) (is : IsMoment see (at shelf old) m) (r : Rested m) → IsStoppedAt see shelf h3 edits end r.then → (n : Moment) × IsMomentButGroup see (at shelf h3) n × AreLater m.counts n.counts × StopStops name m end n
            unfolding to_record
            broken_at end m is r stopped = (
              stopped.then,
              stopped.is,
              later_trans m.counts r.then.counts stopped.then.counts r.later stopped.later,
              inr (inr (record { mid = r.then; edits = edits; record_is = to_record m is r; writing = stopped.writing; change = stopped.change; stopped = stopped.stopped; after = stopped.later; sound = sound_at m is r stopped.writing stopped.change })),
            )

            faults3 : FaultsGoOn (scene see (at shelf old)) (scene see (at shelf h3))
            faults3 = faults_trans (scene see (at shelf old)) (scene see (at shelf h2)) (scene see (at shelf h3)) faults2 (written_faults see shelf h2 mid g' refl keeps2 kept2 text public tried)

            group_lost : Each HasRisen (members see mid.base) (members see g'.base) → StopGoes (Err (stops.Ended ends.GroupLost)) h3
            group_lost risen = record {
              keeps = written_but_group see shelf h2 mid g' refl keeps2 kept2 text public tried;
              goes = λ m is. let r = rested2 m is in
                  broken_at ends.GroupLost m is r (group_is_lost see shelf h2 mid g' refl keeps2 kept2 text public tried edits next (meant2 next text meant) (named2 next meant.edited) r.then r.is risen);
              gives = tt;
              still = λ e. tt;
              faults = faults3;
              blamed = tt;
            }

            power_lost : AnyOf IsCut (members see g'.base) → StopGoes (Err (stops.Ended (ends.Lost []))) h3
            power_lost cut = record {
              keeps = written_but_group see shelf h2 mid g' refl keeps2 kept2 text public tried;
              goes = λ m is. let r = rested2 m is in
                  broken_at (ends.Lost []) m is r (power_is_lost see shelf h2 mid g' refl keeps2 kept2 text public tried edits next (meant2 next text meant) (named2 next meant.edited) r.then r.is cut);
              gives = tt;
              still = λ e. tt;
              faults = faults3;
              blamed = tt;
            }

          -- it is done, and the volume is laid down
          module _ (g' : Imported P ghosts) (text : List ℕ) (meant : IsMeant edits g.config g'.config text) (finished : IsFinished see text mid.base g'.base) (laid : IsLaid see name mid.public g'.public) where
            abbrev g3 : Imported P ghosts
            g3 = laid_group see alike mid g'.public name laid after was2 kept2

            abbrev house3 : House P ghosts
            house3 = with_group h2 g3

            kept3 : IsGroupKept see g3
            kept3 = laid_kept see alike mid g'.public name laid after was2 kept2

            keeps3 : Keeps see (at shelf house3)
            keeps3 = laid_keeps see alike mid g'.public name laid after was2 kept2 shelf h2 refl keeps2

            -- no volume of the name runs any more
            gone : IsSome (running_at g'.public name) → ⊥
            gone some = no (running_at g'.public name) (laid.puts name ∙ ap (λ b. cond b None (running_at mid.public name)) (bytes_eq_self name)) some
              where
                no : (o : Option (Running P ghosts)) → o ≡ None → IsSome o → ⊥
                no o none some = cc

            of_name : of.name ≡ name
            of_name = found_name g.config name of ready.found

            runs3 : KeepsRunning g3 g'.config
            runs3 =
                let changes = restated g'.config meant.edited in
                record {
                  group = named2 g'.config meant.edited;
                  disks = changes.disks ∙ ap (λ (c : Config). c.disks) (sym config2);
                  stays = subst (λ c. EachStays (λ v. Runs g3 v.name) c g'.config) (sym config2) (λ v of_v runs good good' fewer.
                      stop_keeps laws.restates g.config g'.config of marks (found_of g.config name of ready.found) meant.edited v of_v
                      (λ same. gone (subst (λ n. IsSome (running_at g'.public n)) (same ∙ of_name) runs)) good good' fewer);
                }

            rested3 : (m : Moment) → Rested m → Moment
            rested3 m r = without_volume name r.then

            done3 : (m : Moment) (r : Rested m) → IsCommittedAt see shelf (with_group house3 g') edits g'.config (without_volume name r.then)
            done3 m r =
                committed_at see shelf house3 g3 g' refl keeps3 kept3 text refl finished edits (meant2 g'.config text meant) runs3 (without_volume name r.then)
                (laid_moment see alike mid g'.public name laid after was2 kept2 shelf h2 refl r.then r.is (rested_volume r.rest) r.there r.rest.plexes r.rest.lies)

            stands : (m : Moment) (is : IsMoment see (at shelf old) m) (r : Rested m) (d : IsCommittedAt see shelf (with_group house3 g') edits g'.config (without_volume name r.then)) → r.rest.volume.sound ≡ true → StandsStopped name (rested_volume r.rest) d.then.world
            stands m is r d sound =
                let x = d.writing in
                let c = d.committed in
                let group : Group = record { config = x.config; good = c.good; members = parties x; sequence = c.last } in
                let now : Vol = record of { state = vol.Clean } in
                let run_of : r.run.of ≡ of = found_one g.config name of ready.found r.run.of (subst (λ (w : Group). IsVolOf w.config r.run.of) (same_group m is r) r.run.placed.runs.recorded) r.run.named in
                let edited : IsEdited (stop_edits r.rest.group.config r.run.of marks) r.rest.group.config g'.config =
                subst (λ (w : Group). IsEdited (stop_edits w.config r.run.of marks) w.config g'.config) (sym (same_group m is r)) (subst (λ v. IsEdited (stop_edits g.config v marks) g.config g'.config) (sym run_of) meant.edited) in
                let group_same : x.group ≡ r.rest.group = some_one x.group r.rest.group (sym d.change.group ∙ r.group) in
                let fewer : (slot : ℕ) → has c.good slot ≡ true → has r.rest.group.good slot ≡ true = λ slot e. subst (λ (w : Group). has w.good slot ≡ true) group_same (few_good x d.change.joiners slot (c.mask.few slot e)) in
                let alike_there = subst (λ b. HoldsAlike see (members see b) r.then.world.devices after) base2
                (holds_alike see laws.ends laws.counts (at shelf h2) (keeps_but_group see (at shelf h2) keeps2) r.then (moment_but_group see (at shelf h2) r.then r.is) mid refl name after was2) in
                let settled = (laws.settled (volume_seen see rests.runs.before.volume) (volume_seen see after.volume) marks at_rest).1 in
                let clean = stands_clean see laws.stands laws.states (members see room.base) r.rest.group name after (rested_volume r.rest) r.run r.then.world.devices alike_there settled marks g'.config edited c.good fewer sound in
                let images : image_on d.then.world.devices group now ≡ image_of g'.config c.good (sectors_of r.then.world.devices r.rest.group.members) (record r.run.of { state = vol.Clean }) =
                commit_keeps_images x c.last (without_volume name r.then) d.then c.committing d.change.joiners group now
                ∙ ap (λ k. image_of k c.good (sectors_of r.then.world.devices (parties x)) now) d.config_is
                ∙ ap (λ ms. image_of g'.config c.good (sectors_of r.then.world.devices ms) now) (ap (λ js. x.group.members ++ js) d.change.joiners ∙ append-nil x.group.members ∙ ap (λ (w : Group). w.members) group_same)
                ∙ ap (λ (v : Vol). image_of g'.config c.good (sectors_of r.then.world.devices r.rest.group.members) (record v { state = vol.Clean })) (sym run_of) in
                record {
                  group = group;
                  here = c.group;
                  of = now;
                  recorded_is = ap (λ (k : Config). volume_in name k.volumes) d.config_is ∙ ap (volume_in name) ((restated g'.config meant.edited).volumes ∙ ap (λ n. map (in_state n vol.Clean) g.config.volumes) of_name)
                      ∙ found_in_state name vol.Clean g.config.volumes of ready.found;
                  clean = refl;
                  stands = subst (λ i. StandsForVolume i (rested_volume r.rest)) (sym images) clean.0;
                  list = clean.1;
                  reads = subst (λ i. ReadsOneList i (rested_volume r.rest).life.candidates clean.1) (sym images) clean.2;
                  clear = λ spared.
                      let members_are = ap (λ js. x.group.members ++ js) d.change.joiners ∙ append-nil x.group.members ∙ ap (λ (w : Group). w.members) group_same in
                      let before = spared_then see laws.stands laws.states (members see room.base) r.rest.group name after (rested_volume r.rest) r.run r.then.world.devices alike_there settled marks g'.config edited c.good fewer
                      group d.config_is members_are (rested_volume r.rest).failed spared in
                      let unmarked = well_rest_clean (volume_seen see rests.runs.before.volume) (volume_seen see after.volume) marks at_rest (r.well before) in
                      subst (λ image. (i : ℕ) → i < regions_of image → dirty_read image i ≡ false) (sym images)
                      (clear_clean see laws.stands laws.states (members see room.base) r.rest.group name after (rested_volume r.rest) r.run r.then.world.devices alike_there settled marks g'.config edited c.good fewer sound unmarked (r.run.exact sound before));
                }

            stopped_goes : StopGoes (Ok tt) (house g')
            unfolding to_record rested2
            stopped_goes = record {
              keeps = done_keeps see shelf house3 g3 g' refl keeps3 kept3 text refl finished edits (meant2 g'.config text meant) runs3;
              goes = λ m is.
                  let r = rested2 m is in
                  let d = done3 m r in (
                    d.then,
                    d.is,
                    later_trans m.counts r.then.counts d.then.counts r.later d.later,
                    record { mid = r.then; edits = edits; record_is = to_record m is r; writing = d.writing; change = d.change; committed = d.committed; after = d.later; stands = stands m is r d },
                  );
              gives = tt;
              still = λ e. cc;
              faults = faults_trans (scene see (at shelf old)) (scene see (at shelf h2)) (scene see (at shelf (house g'))) faults2
                  (subst (λ s. FaultsGoOn s (scene see (at shelf (house g')))) (otherwise_scene see shelf h2 mid g3 refl (laid_held see alike mid g'.public name laid after was2 kept2))
                  (written_faults see shelf house3 g3 g' refl keeps3 kept3 text refl finished.tried));
              blamed = tt;
            }

    -- ---- the stage, by how it ended

    rested_goes : (g' : Imported P ghosts) → IsRested see name g g' → StopGoes (Err stops.OutOfMemory) (house g')
    rested_goes g' is = wants_rested is.room is.has_room g' (Ok is.marks) is.rests

    unrested_goes : (end : End) (g' : Imported P ghosts) → IsUnrested see name (stops.Ended end) g g' → Goes see (λ m n. StopStops name m end n) (at shelf old) (at shelf (house g')) × IsBlamed end (scene see (at shelf old)) (scene see (at shelf (house g')))
    unrested_goes end g' is = (told_goes is.room is.has_room g' (Err is.fault) is.rests is.fault refl end is.told, told_blamed is.room is.has_room g' (Err is.fault) is.rests is.fault refl end is.told)

    unrested_stage : (end : End) (g' : Imported P ghosts) → IsUnrested see name (stops.Ended end) g g' → StopGoes (Err (stops.Ended end)) (house g')
    unrested_stage end g' is =
        let two = unrested_goes end g' is in
        record {
          keeps = keeps_ended see end (at shelf (house g')) (keeps2 is.room is.has_room g' (Err is.fault) is.rests);
          goes = goes_ended see (IsDone (stage.Stop name) disks) (Stops (stage.Stop name) disks) (Wants (stage.Stop name)) end (at shelf old) (at shelf (house g')) two.0;
          gives = tt;
          still = λ e. tt;
          faults = faults2 is.room is.has_room g' (Err is.fault) is.rests;
          blamed = two.1;
        }

    pub stop_goes : (result : Result (Unit {0}) Stop) (g' : Imported P ghosts) → StopEnds see name result g g' → StopGoes result (house g')
    stop_goes (Ok u) g' is = stopped_goes is.rested.room is.rested.has_room is.mid (Ok is.rested.marks) is.rested.rests is.rested.marks refl is.rested.of is.rested.ready g' is.text is.meant is.finished is.laid
    stop_goes (Err stops.OutOfMemory) g' (inl same) = wants_same g' same
    stop_goes (Err stops.OutOfMemory) g' (inr (inl room)) = wants_room g' room
    stop_goes (Err stops.OutOfMemory) g' (inr (inr is)) = rested_goes g' is
    stop_goes (Err (stops.Ended ends.GroupLost)) g' (is, risen) =
        group_lost is.rested.room is.rested.has_room is.mid (Ok is.rested.marks) is.rested.rests is.rested.marks refl is.rested.of is.rested.ready g' is.next is.text is.meant is.tried is.public risen
    stop_goes (Err (stops.Ended (ends.Lost parts))) g' (inl is) = unrested_stage (ends.Lost parts) g' is
    stop_goes (Err (stops.Ended (ends.Lost parts))) g' (inr (none, is, cut)) = subst (λ p. StopGoes (Err (stops.Ended (ends.Lost p))) (house g')) (sym none)
        (power_lost is.rested.room is.rested.has_room is.mid (Ok is.rested.marks) is.rested.rests is.rested.marks refl is.rested.of is.rested.ready g' is.next is.text is.meant is.tried is.public cut)
    stop_goes (Err (stops.Ended (ends.Refused r))) g' (same, why) = refused_goes g' same r why
    stop_goes (Err (stops.Ended (ends.Done copied parts blocks))) g' is = unrested_stage (ends.Done copied parts blocks) g' is
    stop_goes (Err (stops.Ended (ends.Fault told device parts))) g' is = unrested_stage (ends.Fault told device parts) g' is
    stop_goes (Err (stops.Ended ends.ShelfFailed)) g' is = unrested_stage ends.ShelfFailed g' is

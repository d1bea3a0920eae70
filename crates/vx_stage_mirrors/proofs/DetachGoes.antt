-- A data plex of a running volume that goes out of use, as a stage: however it ended on the group, it goes so in the house.
use Rattle.std.proofs.Common.{◌≡◌, ◌∙◌, Bool, true, false, List, Some, None, Result, Ok, Err, refl, sym, ap, subst, inl, inr}
use Rattle.std.specs.Prelude.{◌⊎◌, Contains, IfSome, MatchOption, is_some}
use Rattle.vx_base.specs.Named.{Word}
use Rattle.vx_piece.specs.Seen.{AreCounts, EndsThere, Seen}
use Rattle.vx_pages.specs.declared.local_piece.LocalPiece.{Ghosts}
use Rattle.vx_script_words.specs.declared.value.DiskAt.{DiskAt}
use Rattle.vx_copies.specs.Disks.{DiskSeen}
use Rattle.vx_copies.specs.declared.disk.Disk.{Disk}
use Rattle.vx_confdb.specs.Groups.{members}
use Rattle.vx_config_parts.specs.declared.plex.Plex.{Plex}
use Rattle.vx_config_parts.specs.declared.state.PlexState.TheVariants as plex_state
use Rattle.vx_config_parts.specs.declared.vol.Vol.{Vol}
use Rattle.vx_config_parts.specs.Objects.{is_data_plex_of}
use Rattle.vx_objects.specs.declared.config.Config.{Config}
use Rattle.vx_objects.specs.declared.edit.Edit.{Edit}
use Rattle.vx_answers.specs.declared.answer.End.{End}
use Rattle.vx_answers.specs.declared.answer.End.TheVariants as ends
use Rattle.vx_answers.specs.declared.refusal.Refusal.{Refusal}
use Rattle.vx_answers.specs.declared.refusal.Refusal.TheVariants as refusal
use Rattle.vx_image.specs.Bytes.{map_or_zero}
use Rattle.vx_image.specs.UsedPlexes.{IsVolOf}
use Rattle.vx_moments.specs.Commit.{IsCommitted}
use Rattle.vx_moments.specs.Moment.{AreLater, Moment}
use Rattle.vx_moments.specs.World.{Group}
use Rattle.vx_lending.specs.Public.{running_at}
use Rattle.vx_lending.specs.declared.public.Running.{Running}
use Rattle.vx_volume.specs.declared.fault.IoFault.{IoFault}
use Rattle.vx_volume.specs.declared.fault.IoFault.TheVariants.{Fault, PowerLost, Range}
use Rattle.vx_volume.specs.Switching.{CanSpare, Needs}
use Rattle.vx_volume.specs.Volume.{volume_seen}
use Rattle.vx_joined_volumes.specs.Switched.{SetsState}
use Rattle.vx_stages.specs.Detached.{CanBeSpared, DetachStops, DetachStopsIn, DetachWants, IsDetached, IsRestedFor}
use Rattle.vx_stages.specs.Ends.{EndsIn, refused}
use Rattle.vx_stages.specs.Logging.{AreEditsRefused}
use Rattle.vx_stages.specs.Plexes.{IsDetachRefused, MayDetach, detach_refusal, state_edits}
use Rattle.vx_stages.specs.Recorded.{IsSoundAs}
use Rattle.vx_stages.specs.Stopping.{rested_volume, runs_on_plexes}
use Rattle.vx_stages.specs.declared.stage.Stage.TheVariants as stage
use Rattle.vx_house.specs.Goes.{StageGoes}
use Rattle.vx_house.specs.Scene.{FaultsGoOn, IsBlamed, Shelved}
use Rattle.vx_house.specs.View.{IsGroupKept, IsMoment, IsMomentButGroup, Keeps, View, at, group_of, scene}
use Rattle.vx_house.specs.declared.house.House.{House}
use Rattle.vx_house.specs.declared.house.Imported.{Imported}
use Rattle.vx_house.specs.declared.stop.Stop.{Stop}
use Rattle.vx_house.specs.declared.stop.Stop.TheVariants as stops
use Rattle.vx_house.proofs.Ends.{keeps_but_group, moment_but_group}
use Rattle.vx_house.proofs.Moments.{faults_refl, faults_trans, later_refl, later_trans}
use Rattle.vx_house.proofs.Takes.{rests_self}
use Rattle.vx_house_calls.specs.Passes.{with_group}
use Rattle.vx_stage_changes.specs.declared.planning.NextConfig.{NextConfig}
use Rattle.vx_stage_volumes.specs.Resting.{IsFaultTold, MayRest}
use Rattle.vx_stage_volumes.proofs.Held.{HoldsAlike, holds_alike}
use Rattle.vx_stage_volumes.proofs.Steps.{may_rest}
use Rattle.vx_stage_mirrors.specs.Detaching.{DetachEnds, EndsDetached, EndsNeeded, EndsRested, EndsSpared, EndsUnrested, IsDetachStopped, IsPlannedDetach}
use Rattle.vx_stage_mirrors.specs.Ending.{seen_group}
use Rattle.vx_stage_mirrors.specs.LogEnding.{is_running}
use Rattle.vx_stage_mirrors.specs.LogMoments.{EachFailedRecordStops, IsRecordOf, RecordStops}
use Rattle.vx_stage_mirrors.specs.MarkingLaws.{IsMarkedAt}
use Rattle.vx_stage_mirrors.specs.Planned.{EndsAs}
use Rattle.vx_stage_mirrors.specs.Relogging.{RecordEnds}
use Rattle.vx_stage_mirrors.specs.Settling.{SettlesIn}
use Rattle.vx_stage_mirrors.specs.Switching.{SwitchEnds, SwitchesIn}
use Rattle.vx_stage_mirrors.specs.SwitchMoments.{EachSwitchGoes, EachSwitchIsSound, IsReadyToSwitch, IsSwitchPlanned}
use Rattle.vx_stage_mirrors.proofs.DetachFacts.{IsRunningIn, edits_own, found_vol, it_runs, plex_data, plex_there, vol_runs}
use Rattle.vx_stage_mirrors.proofs.LogGoing.{GoesAs, has_done, has_ended, has_wanted, here, runs_same, same_house, some_one}
use Rattle.vx_stage_mirrors.proofs.MarkingMoments.{PassFacts, pass_blamed, pass_house, pass_stops, rested_at}
use Rattle.vx_stage_mirrors.proofs.SettlingFacts.{is_settled, is_tight, settle_facts, settle_reason, settled_there, was_whole}
use Rattle.vx_stage_mirrors.proofs.Settlings.{FirmLaws}
use Rattle.vx_stage_mirrors.proofs.SparedPlexes.{is_needed, is_spared}

-- What the laws of the steps promise.
pub record DetachLaws {P : Type 0} (ghosts : Ghosts P) : Type 0 where
  pub firm : FirmLaws
  pub stops : (h : House P ghosts) (old new : Imported P ghosts) → EachFailedRecordStops ghosts.seen h old new
  pub switches : (h : House P ghosts) (old new : Imported P ghosts) → EachSwitchGoes ghosts.seen h old new
  pub sound : (r : Running P ghosts) → EachSwitchIsSound ghosts.seen r
  pub ends : (p : P) → EndsThere (ghosts.seen p)
  pub counts : (p : P) → AreCounts (ghosts.seen p)

-- as a stage
pub as_detach : {P : Type 0} {ghosts : Ghosts P} (see : P → Seen) (name : Word) (disks : List DiskAt) (result : Result (Unit {0}) Stop) (old new : View P ghosts) →
    GoesAs see (IsDetached name) (DetachStops name) (DetachWants name) result old new → StageGoes see (stage.Detach name) disks result old new
as_detach see name disks (Ok u) old new is = record { keeps = is.keeps; goes = is.goes; gives = tt; still = λ e. cc; faults = is.faults; blamed = is.blamed }
as_detach see name disks (Err stop) old new is = record { keeps = is.keeps; goes = is.goes; gives = tt; still = λ e. tt; faults = is.faults; blamed = is.blamed }

untold : {P : Type 0} (see : P → Seen) (ds : List (Disk P)) (fault : IoFault) → IsFaultTold see ds fault stops.OutOfMemory → ⊥
untold see ds (Fault place) (told, device, same, any) = cc
untold see ds PowerLost same = cc
untold see ds Range never = never

module _ {P : Type 0} {ghosts : Ghosts P} (alike : (p q : P) → is_some (ghosts.seen p).told ≡ is_some (ghosts.seen q).told) (laws : DetachLaws ghosts) (name : Word) (shelf : Shelved) (h : House P ghosts) (keeps : Keeps ghosts.seen (at shelf h)) where
  abbrev see : P → Seen
  see = ghosts.seen

  abbrev GoesTo : Result (Unit {0}) Stop → House P ghosts → Type 0
  GoesTo result h' = GoesAs see (IsDetached name) (DetachStops name) (DetachWants name) result (at shelf h) (at shelf h')

  -- no group is imported
  pub no_group : h.group ≡ None → GoesTo (Err (stops.Ended (ends.Refused (refusal.NoGroup None)))) h
  no_group none = has_ended see (IsDetached name) (DetachStops name) (DetachWants name) (at shelf h) (at shelf h) (ends.Refused (refusal.NoGroup None)) keeps (λ m is. (
    m,
    is,
    later_refl m.counts,
    subst (λ o. MatchOption o (EndsIn (refusal.NoGroup None) m (ends.Refused (refusal.NoGroup None)) m) (λ g. DetachStopsIn g name m (ends.Refused (refusal.NoGroup None)) m))
        (sym (is.group_is ∙ ap (group_of see) none)) (refl, rests_self m),
  ))
      (faults_refl (scene see (at shelf h))) tt

  module _ (g : Imported P ghosts) (has_group : h.group ≡ Some g) where
    abbrev gm : Group
    gm = seen_group see g

    kept : IsGroupKept see g
    kept = subst (λ o. IfSome o (IsGroupKept see)) has_group keeps.house.group

    here_is : (m : Moment) → IsMoment see (at shelf h) m → m.world.group ≡ Some gm
    here_is m is = here see shelf h g has_group m is

    stops_in : (m k : Moment) (end : End) → IsMoment see (at shelf h) m → DetachStopsIn gm name m end k → DetachStops name m end k
    stops_in m k end is s = subst (λ o. MatchOption o (EndsIn (refusal.NoGroup None) m end k) (λ w. DetachStopsIn w name m end k)) (sym (here_is m is)) s

    runs_is : (m : Moment) → IsMoment see (at shelf h) m → ◌≡◌ {A = Word → Bool} (runs_on_plexes m.world) (is_running g)
    runs_is m is = λ i vol. runs_same see shelf h g has_group vol m is i

    -- ---- refused before anything is touched

    refuses_edits : (c : Config) (edits : List Edit) (end : End) → AreEditsRefused c edits end → (r : Refusal) × (end ≡ refused r)
    refuses_edits c edits end (inl (r, is, e)) = (r, e)
    refuses_edits c edits end (inr (next, edited, (text, is, long, e))) = (_, e)

    refuses : (end : End) → IsDetachRefused (is_running g) gm name end → (r : Refusal) × (end ≡ refused r)
    refuses end (inl (r, is, e)) = (r, e)
    refuses end (inr (v, p, may, is)) = refuses_edits g.config (state_edits v.name p plex_state.Stale) end is

    refused_goes : (end : End) → IsDetachRefused (is_running g) gm name end → GoesTo (Err (stops.Ended end)) h
    refused_goes end is = has_ended see (IsDetached name) (DetachStops name) (DetachWants name) (at shelf h) (at shelf h) end keeps
        (λ m at_m. (m, at_m, later_refl m.counts, stops_in m m end at_m (inl (subst (λ (f : Word → Bool). IsDetachRefused f gm name end) (sym (runs_is m at_m)) is, rests_self m))))
        (faults_refl (scene see (at shelf h)))
        (let why = refuses end is in subst (λ e. IsBlamed e (scene see (at shelf h)) (scene see (at shelf h))) (sym why.1) tt)

    refused_by : (stop : Stop) (new : Imported P ghosts) → new ≡ g → EndsAs (IsDetachRefused (is_running g) gm name) stop → GoesTo (Err stop) (with_group h new)
    refused_by (stops.Ended end) new same is = subst (GoesTo (Err (stops.Ended end))) (same_house see shelf h g has_group new same) (refused_goes end is)
    refused_by stops.OutOfMemory new same is =
        subst (GoesTo (Err stops.OutOfMemory)) (same_house see shelf h g has_group new same)
        (has_wanted see (IsDetached name) (DetachStops name) (DetachWants name) (at shelf h) (at shelf h) keeps (λ m is. (m, is, later_refl m.counts, inl refl)) (faults_refl (scene see (at shelf h))))

    -- ---- planned

    module _ (v : Vol) (of : IsVolOf g.config v) (p : Plex) (next : NextConfig) (planned : IsPlannedDetach name v.name p next g) where
      there : Contains g.config.plexes p
      there = plex_there (is_running g) g.config name v.name p planned.found planned.own planned.fits

      data_is : is_data_plex_of v.name p ≡ true
      data_is = plex_data (is_running g) g.config name v.name p planned.found planned.own planned.fits

      may : MayRest see (running_at g.public v.name)
      may = may_rest see g.public v.name kept.whole.volumes (vol_runs (is_running g) g.config name v.name p planned.found planned.own planned.fits)

      may_detach : (m : Moment) → IsMoment see (at shelf h) m → MayDetach (runs_on_plexes m.world) gm.config name v p
      may_detach m is = record {
        found = planned.found;
        fits = subst (λ (f : Word → Bool). detach_refusal f g.config name ≡ None) (sym (runs_is m is)) planned.fits;
        volume = found_vol g.config v of;
        own = planned.own;
      }

      -- ---- it could not be brought to rest

      module _ (g1 : Imported P ghosts) (result : Result (Unit {0}) IoFault) (settles : SettlesIn see v.name result g g1) where
        abbrev facts : PassFacts see v.name g g1
        facts = settle_facts alike g g1 v.name result may settles laws.firm

        abbrev h1 : House P ghosts
        h1 = with_group h g1

        keeps1 : Keeps see (at shelf h1)
        keeps1 = (pass_house shelf h g g1 has_group v.name facts keeps).keeps

        faults1 : FaultsGoOn (scene see (at shelf h)) (scene see (at shelf h1))
        faults1 = (pass_house shelf h g g1 has_group v.name facts keeps).faults

        module _ (fault : IoFault) (is_fault : result ≡ Err fault) where
          unsettled_by : (stop : Stop) → IsFaultTold see g.base.disks.items fault stop → GoesTo (Err stop) h1
          unsettled_by stops.OutOfMemory told = absurd (untold see g.base.disks.items fault told)
          unsettled_by (stops.Ended end) told =
              let reason = settle_reason alike g g1 v.name result may settles fault is_fault in
              has_ended see (IsDetached name) (DetachStops name) (DetachWants name) (at shelf h) (at shelf h1) end keeps1
              (λ m is. let s = pass_stops shelf h g g1 has_group v.name facts keeps m is fault reason end told in (
                s.0,
                s.1,
                s.2.rest.later,
                stops_in m s.0 end is (inr (inl (record { volume = v; plex = p; may = may_detach m is; stops = s.2 }))),
              ))
              faults1
              (pass_blamed shelf h g g1 has_group v.name facts keeps fault reason end told)

      -- ---- it has come to rest

      module _ (g1 : Imported P ghosts) (settles : SettlesIn see v.name (Ok tt) g g1) where
        abbrev facts2 : PassFacts see v.name g g1
        facts2 = settle_facts alike g g1 v.name (Ok tt) may settles laws.firm

        abbrev hm : House P ghosts
        hm = with_group h g1

        abbrev hs : List DiskSeen
        hs = members see g.base

        abbrev before : Running P ghosts
        before = settles.runs.before

        abbrev after : Running P ghosts
        after = settles.runs.after

        keeps2 : Keeps see (at shelf hm)
        keeps2 = keeps1 g1 (Ok tt) settles

        faults2 : FaultsGoOn (scene see (at shelf h)) (scene see (at shelf hm))
        faults2 = faults1 g1 (Ok tt) settles

        abbrev Rested : Moment → Type 0
        Rested m = IsMarkedAt see shelf hm hs v.name before after m

        at_rest : (m : Moment) → IsMoment see (at shelf h) m → Rested m
        at_rest m is = rested_at shelf h g g1 has_group v.name facts2 keeps m is

        config1 : g1.config ≡ g.config
        config1 = ap (λ (x : Imported P ghosts). x.config) settles.same

        base1 : g1.base ≡ g.base
        base1 = ap (λ (x : Imported P ghosts). x.base) settles.same

        there1 : running_at g1.public v.name ≡ Some after
        there1 = settled_there alike g g1 v.name (Ok tt) may settles

        group_same : (m : Moment) (is : IsMoment see (at shelf h) m) (r : Rested m) → gm ≡ r.rest.group
        group_same m is r = some_one gm r.rest.group (sym (here_is m is) ∙ r.rest.here)

        rested_for : (m : Moment) (is : IsMoment see (at shelf h) m) (r : Rested m) → IsRestedFor name m r.then
        rested_for m is r = record {
          group = r.rest.group;
          here = r.rest.here;
          volume = v;
          plex = p;
          may = subst (λ (w : Group). MayDetach (runs_on_plexes m.world) w.config name v p) (group_same m is r) (may_detach m is);
          rest = r.rest;
        }

        wants_goes : GoesTo (Err stops.OutOfMemory) hm
        wants_goes = has_wanted see (IsDetached name) (DetachStops name) (DetachWants name) (at shelf h) (at shelf hm) keeps2
            (λ m is. let r = at_rest m is in (r.then, r.is, r.later, inr (rested_for m is r))) faults2

        -- what the world has of it
        module _ (m : Moment) (is : IsMoment see (at shelf h) m) (r : Rested m) (known : r.rest.volume.sound ≡ true) where
          there_then : Contains r.rest.group.config.plexes p
          there_then = subst (λ (x : Group). Contains x.config.plexes p) (group_same m is r) there

        -- ---- some region needs the plex

        needed_goes : Needs (map_or_zero p.map) (volume_seen see after.volume) → GoesTo (Err (stops.Ended (refused (refusal.OnlyPlex name)))) hm
        unfolding at_rest rested_for
        needed_goes needs = has_ended see (IsDetached name) (DetachStops name) (DetachWants name) (at shelf h) (at shelf hm) (refused (refusal.OnlyPlex name)) keeps2
            (λ m is. let r = at_rest m is in (
              r.then,
              r.is,
              r.later,
              stops_in m r.then (refused (refusal.OnlyPlex name)) is (inr (inr (inl (record {
                rested = rested_for m is r;
                needed = λ known. is_needed hs r.rest.group v.name after (rested_volume r.rest) r.run known p (there_then m is r known) data_is r.rest.plexes r.rest.lies needs;
                end_is = refl;
              })))),
            ))
            faults2 tt

        -- ---- each can spare it

        module _ (spare : CanSpare (map_or_zero p.map) (volume_seen see after.volume)) where
          abbrev edits : List Edit
          edits = state_edits v.name p plex_state.Stale

          ready : IsReadyToSwitch see p false after
          ready = (
            is_settled see g g1 v.name settles laws.firm (was_whole alike g g1 v.name (Ok tt) may settles),
            (is_tight see g g1 v.name settles, spare),
          )

          sets : SetsState g.config v p plex_state.Stale next.config
          sets = record { there = there; data_is = data_is; edited = planned.next_is.0 }

          record_of : IsRecordOf g1 v.name edits next
          record_of = subst (λ c. IsRecordOf (let x : Imported P ghosts = record { config = c; base = g1.base; public = g1.public } in x) v.name edits next) (sym config1) (record {
            own = edits_own (is_running g) g.config name v.name p planned.found planned.own planned.fits plex_state.Stale;
            edited = planned.next_is.0;
            printed = planned.next_is.1;
          })

          switch_planned : IsSwitchPlanned g1 v.name v p plex_state.Stale false next
          switch_planned = subst (λ c. IsSwitchPlanned (let x : Imported P ghosts = record { config = c; base = g1.base; public = g1.public } in x) v.name v p plex_state.Stale false next) (sym config1) (record {
            of = of;
            named = refl;
            sets = sets;
            printed = planned.next_is.1;
            available = refl;
          })

          spared_in : (m : Moment) (is : IsMoment see (at shelf h) m) (r : Rested m) → r.rest.volume.sound ≡ true → CanBeSpared r.rest.group v.name r.rest.plexes p (rested_volume r.rest)
          spared_in m is r known = is_spared hs r.rest.group v.name after (rested_volume r.rest) r.run known p (there_then m is r known) data_is r.rest.plexes r.rest.lies spare

          -- it is recorded as out of use, and the volume runs on without it

          detached_goes : (new : Imported P ghosts) → SwitchesIn see v.name (map_or_zero p.map) false next g1 new → GoesTo (Ok tt) (with_group h new)
          unfolding at_rest rested_for
          detached_goes new switches =
              let s = laws.switches hm g1 new shelf v.name v p plex_state.Stale false next alike refl keeps2 switch_planned after there1 ready switches in
              has_done see (IsDetached name) (DetachStops name) (DetachWants name) (at shelf h) (at shelf (with_group h new)) s.keeps
              (λ m is.
              let r = at_rest m is in
              let x = s.moments r.then r.is in
              let rest = subst (λ (k : Moment). AreLater r.then.counts k.counts) (sym x.goes) x.rest in (
                x.then,
                x.is,
                later_trans m.counts r.then.counts x.then.counts r.later rest,
                record {
                  mid = r.then;
                  rested = rested_for m is r;
                  spared = λ known. spared_in m is r known;
                  writing = x.writing;
                  change = x.change;
                  committed = subst (IsCommitted x.writing r.then) (sym x.goes) x.committed;
                  after = rest;
                },
              ))
              (faults_trans (scene see (at shelf h)) (scene see (at shelf hm)) (scene see (at shelf (with_group h new))) faults2 s.faults)

          -- ---- the commit is not done

          module _ (m : Moment) (is : IsMoment see (at shelf h) m) (r : Rested m) (known : r.rest.volume.sound ≡ true) where
            holds : HoldsAlike see hs r.then.world.devices after
            holds = subst (λ b. HoldsAlike see (members see b) r.then.world.devices after) base1
                (holds_alike see laws.ends laws.counts (at shelf hm) (keeps_but_group see (at shelf hm) keeps2) r.then (moment_but_group see (at shelf hm) r.then r.is) g1 refl v.name after there1)

            sound_then : IsSoundAs r.rest.group next.config v.name r.then.world
            sound_then = laws.sound after hs r.rest.group v.name (rested_volume r.rest) r.run known r.then.world holds.held (record { hold = holds.hold; public = holds.public })
                v (subst (λ (x : Group). IsVolOf x.config v) (group_same m is r) of) refl p plex_state.Stale false next.config
                (subst (λ (x : Group). SetsState x.config v p plex_state.Stale next.config) (group_same m is r) sets) refl ready

          undetached_at : (end : End) (new : Imported P ghosts) (s : RecordStops see shelf hm edits next.config new end) (m : Moment) → IsMoment see (at shelf h) m →
              (k : Moment) × IsMomentButGroup see (at shelf (with_group h new)) k × AreLater m.counts k.counts × DetachStops name m end k
          unfolding at_rest rested_for
          undetached_at end new s m is =
              let r = at_rest m is in
              let x = s.moments r.then r.is in (
                x.then,
                x.is,
                later_trans m.counts r.then.counts x.then.counts r.later x.after,
                stops_in m x.then end is (inr (inr (inr (record {
                  mid = r.then;
                  rested = rested_for m is r;
                  rest = x.after;
                  stops = (x.writing, x.change, x.stopped);
                  sound = λ known. subst (λ c. IsSoundAs r.rest.group c v.name r.then.world) (sym x.config_is) (sound_then m is r known);
                })))),
              )

          faults_then : (new : Imported P ghosts) → FaultsGoOn (scene see (at shelf hm)) (scene see (at shelf (with_group h new))) → FaultsGoOn (scene see (at shelf h)) (scene see (at shelf (with_group h new)))
          faults_then new f = faults_trans (scene see (at shelf h)) (scene see (at shelf hm)) (scene see (at shelf (with_group h new))) faults2 f

          record_stops : (end : End) (new : Imported P ghosts) → RecordEnds see next (Err (stops.Ended end)) g1 new → RecordStops see shelf hm edits next.config new end
          record_stops end new e = laws.stops hm g1 new shelf v.name edits next refl keeps2 record_of end e

          unrecorded_by : (stop : Stop) (new : Imported P ghosts) → RecordEnds see next (Err stop) g1 new → GoesTo (Err stop) (with_group h new)
          unrecorded_by stops.OutOfMemory new (same, rest) =
              subst (λ (x : Imported P ghosts). GoesTo (Err stops.OutOfMemory) (with_group h x)) (sym (rest ∙ ap (λ b. (let x : Imported P ghosts = record { config = g1.config; base = b; public = g1.public } in x)) same)) wants_goes
          unrecorded_by (stops.Ended ends.GroupLost) new e =
              let s = record_stops ends.GroupLost new e in record { keeps = s.keeps; goes = undetached_at ends.GroupLost new s; faults = faults_then new s.faults; blamed = tt }
          unrecorded_by (stops.Ended (ends.Lost parts)) new e =
              let s = record_stops (ends.Lost parts) new e in record { keeps = s.keeps; goes = undetached_at (ends.Lost parts) new s; faults = faults_then new s.faults; blamed = tt }
          unrecorded_by (stops.Ended (ends.Done copied parts blocks)) new e = absurd e.0
          unrecorded_by (stops.Ended (ends.Refused why)) new e = absurd e.0
          unrecorded_by (stops.Ended (ends.Fault told device parts)) new e = absurd e.0
          unrecorded_by (stops.Ended ends.ShelfFailed) new e = absurd e.0

          spared_by : (result : Result (Unit {0}) Stop) (new : Imported P ghosts) → SwitchEnds see v.name (map_or_zero p.map) false next result g1 new → GoesTo result (with_group h new)
          spared_by (Ok u) new e = detached_goes new e
          spared_by (Err stop) new e = unrecorded_by stop new e

      -- ---- however it ended

      rested_by : (result : Result (Unit {0}) Stop) (new : Imported P ghosts) → EndsRested see name v.name p next result g new → GoesTo result (with_group h new)
      rested_by result new e = by e.ends
        where
          by : EndsNeeded see name (map_or_zero p.map) result e.settles.runs.after e.mid new ⊎ EndsSpared see v.name (map_or_zero p.map) next result e.settles.runs.after e.mid new → GoesTo result (with_group h new)
          by (inl n) =
              subst (λ x. GoesTo x (with_group h new)) (sym n.result_is)
              (subst (λ (x : Imported P ghosts). GoesTo (Err (stops.Ended (refused (refusal.OnlyPlex name)))) (with_group h x)) (sym n.same) (needed_goes e.mid e.settles n.needs))
          by (inr s) = spared_by e.mid e.settles s.spare result new s.ends

      unrested_by : (result : Result (Unit {0}) Stop) (new : Imported P ghosts) → EndsUnrested see v.name result g new → GoesTo result (with_group h new)
      unrested_by result new e = subst (λ x. GoesTo x (with_group h new)) (sym e.result_is) (unsettled_by new (Err e.ends.fault) e.ends.settles e.ends.fault refl e.stop e.ends.told)

      planned_by : (result : Result (Unit {0}) Stop) (new : Imported P ghosts) → EndsUnrested see v.name result g new ⊎ EndsRested see name v.name p next result g new → GoesTo result (with_group h new)
      planned_by result new (inl e) = unrested_by result new e
      planned_by result new (inr e) = rested_by result new e

    stopped_by : (result : Result (Unit {0}) Stop) (new : Imported P ghosts) → IsDetachStopped see name result g new → GoesTo result (with_group h new)
    stopped_by (Ok u) new e = absurd e
    stopped_by (Err stop) new e = refused_by stop new e.0 e.1

    ends_by : (result : Result (Unit {0}) Stop) (new : Imported P ghosts) → EndsDetached see name result g new → GoesTo result (with_group h new)
    ends_by result new e =
        let it : IsRunningIn see g e.vol = it_runs see g kept e.vol (vol_runs (is_running g) g.config name e.vol e.plex e.planned.found e.planned.own e.planned.fits) in
        let both = subst (λ (n : Word). IsPlannedDetach name n e.plex e.next g × (EndsUnrested see n result g new ⊎ EndsRested see name n e.plex e.next result g new)) (sym it.named) (e.planned, e.ends) in
        planned_by it.volume it.placed.runs.recorded e.plex e.next both.0 result new both.1

    pub detach_goes : (result : Result (Unit {0}) Stop) (new : Imported P ghosts) → DetachEnds see name result g new → GoesTo result (with_group h new)
    detach_goes result new (inl e) = stopped_by result new e
    detach_goes result new (inr e) = ends_by result new e

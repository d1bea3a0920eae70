-- A plex that is put into use, as a stage: however it ended on the group, it goes so in the house.
use Rattle.std.proofs.Common.{◌≡◌, ◌∙◌, ℕ, ◌<◌, Bool, true, cond, List, [], Option, Some, None, Result, Ok, Err, refl, sym, ap, subst, inl, inr, arith}
use Rattle.std.specs.Prelude.{Contains, IfSome, IsErrAnd, MatchOption, is_some, length}
use Rattle.std.specs.Str.{bytes_eq}
use Rattle.std.proofs.lemmas.Bool.{ltb-true}
use Rattle.vx_base.specs.Named.{Word}
use Rattle.vx_base.proofs.NamedLemmas.{bytes_eq_same, bytes_eq_self}
use Rattle.vx_block.specs.Regions.{region_count}
use Rattle.vx_mask.specs.Mask.{has, only}
use Rattle.vx_mask.proofs.MaskLemmas.{has-only_same, has-union}
use Rattle.vx_mask.proofs.Tests.{or_from_right}
use Rattle.vx_pages.specs.declared.local_piece.LocalPiece.{Ghosts}
use Rattle.vx_piece.specs.Seen.{AreCounts, EndsThere, Seen}
use Rattle.vx_copies.specs.Disks.{DiskSeen}
use Rattle.vx_confdb.specs.Groups.{members}
use Rattle.vx_config_parts.specs.declared.plex.Plex.{Plex}
use Rattle.vx_config_parts.specs.declared.state.PlexState.TheVariants as plex_state
use Rattle.vx_config_parts.specs.declared.vol.Vol.{Vol}
use Rattle.vx_config_parts.specs.Objects.{is_data_plex_of}
use Rattle.vx_objects.specs.declared.config.Config.{Config}
use Rattle.vx_objects.specs.declared.edit.Edit.{Edit}
use Rattle.vx_image.proofs.Members.{contains, is_in}
use Rattle.vx_image.specs.Bytes.{map_or_zero}
use Rattle.vx_image.specs.Counts.{IsSizeBetween}
use Rattle.vx_script_words.specs.declared.value.DiskAt.{DiskAt}
use Rattle.vx_lending.proofs.Rules.{one_plex}
use Rattle.vx_answers.specs.declared.answer.End.{End}
use Rattle.vx_answers.specs.declared.answer.End.TheVariants as ends
use Rattle.vx_answers.specs.declared.refusal.Refusal.{Refusal}
use Rattle.vx_answers.specs.declared.refusal.Refusal.TheVariants as refusal
use Rattle.vx_moments.specs.Commit.{Writing}
use Rattle.vx_moments.specs.Leaving.{grouped}
use Rattle.vx_moments.specs.Moment.{AreLater, Moment}
use Rattle.vx_moments.specs.World.{Group, Volume}
use Rattle.vx_lending.specs.Public.{running_at}
use Rattle.vx_lending.specs.declared.public.Running.{Running}
use Rattle.vx_volume.specs.declared.fault.IoFault.{IoFault}
use Rattle.vx_volume.specs.declared.fault.IoFault.TheVariants.{Fault, PowerLost, Range}
use Rattle.vx_volume.specs.Switching.{Switches}
use Rattle.vx_volume.specs.Volume.{volume_seen}
use Rattle.vx_group_start.specs.Copying.{missed_regions}
use Rattle.vx_joined_volumes.specs.Switched.{IsStateSet}
use Rattle.vx_joined_volumes.proofs.SwitchEdits.{each_state_set}
use Rattle.vx_stages.specs.Attached.{AttachStops, AttachStopsIn, GoesOn, IsAttachCopied, IsAttachedBy, IsCopyCount, IsReadWithin}
use Rattle.vx_stages.specs.Ends.{EndsIn, refused}
use Rattle.vx_stages.specs.Logging.{AreEditsRefused}
use Rattle.vx_stages.specs.Plexes.{IsAttachRefused, MayAttach, state_edits}
use Rattle.vx_stages.specs.Recorded.{IsSoundAs}
use Rattle.vx_stages.specs.Stopping.{ComesToRest, RestStops, runs_on_plexes}
use Rattle.vx_stages.specs.declared.stage.Stage.TheVariants as stage
use Rattle.vx_house.specs.Goes.{Goes, StageGoes}
use Rattle.vx_house.specs.Runs.{IsAtRun, fronts_in, run_in}
use Rattle.vx_house.specs.Scene.{FaultsGoOn, IsBlamed, Shelved}
use Rattle.vx_house.specs.View.{IsGroupKept, IsMoment, IsMomentButGroup, Keeps, View, at, group_of, scene}
use Rattle.vx_house.specs.declared.house.House.{House}
use Rattle.vx_house.specs.declared.house.Imported.{Imported}
use Rattle.vx_house.specs.declared.stop.Stop.{Stop}
use Rattle.vx_house.specs.declared.stop.Stop.TheVariants as stops
use Rattle.vx_house.proofs.Ends.{keeps_but_group, moment_but_group}
use Rattle.vx_house.proofs.Moments.{faults_refl, faults_trans, later_refl, later_trans}
use Rattle.vx_house.proofs.Takes.{blamed_later, rests_self}
use Rattle.vx_house_calls.specs.Passes.{with_group}
use Rattle.vx_house_calls.proofs.Moments.{IsRunThere, run_there}
use Rattle.vx_stage_changes.specs.declared.planning.NextConfig.{NextConfig}
use Rattle.vx_stage_volumes.specs.Resting.{IsFaultTold}
use Rattle.vx_stage_volumes.proofs.Held.{HoldsAlike, holds_alike}
use Rattle.vx_stage_mirrors.specs.Attaching.{IsAttachEnd, IsPlannedAttach}
use Rattle.vx_stage_mirrors.specs.Copying.{CopiesIn, CopyStops}
use Rattle.vx_stage_mirrors.specs.CopyingLaws.{AreToCopy, CopyingGoes, HasCopied, HasPlexToCopy}
use Rattle.vx_stage_mirrors.specs.Ending.{seen_group}
use Rattle.vx_stage_mirrors.specs.LogEnding.{is_running}
use Rattle.vx_stage_mirrors.specs.LogMoments.{EachFailedRecordStops, RecordGoes, RecordStops}
use Rattle.vx_stage_mirrors.specs.Planned.{EndsAs}
use Rattle.vx_stage_mirrors.specs.Relogging.{RecordEnds}
use Rattle.vx_stage_mirrors.specs.SwitchMoments.{EachSwitchGoes, EachSwitchIsSound, EachSwitchIsWithin, IsSwitchedAt}
use Rattle.vx_stage_mirrors.specs.Switching.{SwitchesIn}
use Rattle.vx_stage_mirrors.proofs.AttachCopied.{att_copied, att_stopped, att_unlogged}
use Rattle.vx_stage_mirrors.proofs.AttachCount.{count_fits}
use Rattle.vx_stage_mirrors.proofs.AttachFacts.{low, of, own, place, plex_named, plex_there, record_of, run, same_vol, sets, switch_plan, taken, there, volume_named}
use Rattle.vx_stage_mirrors.proofs.CopyingFacts.{CopyLaws, facts}
use Rattle.vx_stage_mirrors.proofs.CopyingGoes.{copying_goes_on}
use Rattle.vx_stage_mirrors.proofs.LogGoing.{GoesAs, has_ended, has_wanted, here, runs_same, same_house, some_one}
use Rattle.vx_stage_mirrors.proofs.MarkingMoments.{rested_at}

-- What the laws of the steps promise.
pub record AttachLaws {P : Type 0} (ghosts : Ghosts P) : Type 0 where
  pub switches : (h : House P ghosts) (old new : Imported P ghosts) → EachSwitchGoes ghosts.seen h old new
  pub sound : (r : Running P ghosts) → EachSwitchIsSound ghosts.seen r
  pub within : (r : Running P ghosts) → EachSwitchIsWithin ghosts.seen r
  pub stops : (h : House P ghosts) (old new : Imported P ghosts) → EachFailedRecordStops ghosts.seen h old new
  pub copies : CopyLaws
  pub ends : (p : P) → EndsThere (ghosts.seen p)
  pub counts : (p : P) → AreCounts (ghosts.seen p)

module _ {P : Type 0} {ghosts : Ghosts P} (alike : (p q : P) → is_some (ghosts.seen p).told ≡ is_some (ghosts.seen q).told) (laws : AttachLaws ghosts) (vol name : Word) (shelf : Shelved) (h : House P ghosts) where
  abbrev see : P → Seen
  see = ghosts.seen

  abbrev None_done : Moment → Moment → Type 0
  None_done m k = ⊥

  abbrev Left : Moment → Moment → Type 0
  Left m k = k.world ≡ m.world

  abbrev GoesTo : Stop → House P ghosts → Type 0
  GoesTo stop h' = GoesAs see None_done (AttachStops vol name) Left (Err stop) (at shelf h) (at shelf h')

  module _ (keeps : Keeps see (at shelf h)) where
    -- no group is imported
    pub att_no_group : h.group ≡ None → GoesTo (stops.Ended (ends.Refused (refusal.NoGroup None))) h
    att_no_group none = has_ended see None_done (AttachStops vol name) Left (at shelf h) (at shelf h) (ends.Refused (refusal.NoGroup None)) keeps (λ m is. (
      m,
      is,
      later_refl m.counts,
      subst (λ o. MatchOption o (EndsIn (refusal.NoGroup None) m (ends.Refused (refusal.NoGroup None)) m) (λ g. AttachStopsIn g vol name m (ends.Refused (refusal.NoGroup None)) m))
          (sym (is.group_is ∙ ap (group_of see) none)) (refl, rests_self m),
    ))
        (faults_refl (scene see (at shelf h))) tt

    module _ (g : Imported P ghosts) (has_group : h.group ≡ Some g) where
      abbrev gm : Group
      gm = seen_group see g

      abbrev hs : List DiskSeen
      hs = members see g.base

      kept : IsGroupKept see g
      kept = subst (λ o. IfSome o (IsGroupKept see)) has_group keeps.house.group

      here_is : (m : Moment) → IsMoment see (at shelf h) m → m.world.group ≡ Some gm
      here_is m is = here see shelf h g has_group m is

      stops_in : (m k : Moment) (end : End) → IsMoment see (at shelf h) m → AttachStopsIn gm vol name m end k → AttachStops vol name m end k
      stops_in m k end is s = subst (λ o. MatchOption o (EndsIn (refusal.NoGroup None) m end k) (λ w. AttachStopsIn w vol name m end k)) (sym (here_is m is)) s

      runs_is : (m : Moment) → IsMoment see (at shelf h) m → runs_on_plexes m.world vol ≡ is_running g vol
      runs_is m is = runs_same see shelf h g has_group vol m is

      -- ---- refused before anything is touched

      refuses_edits : (c : Config) (edits : List Edit) (end : End) → AreEditsRefused c edits end → (r : Refusal) × (end ≡ refused r)
      refuses_edits c edits end (inl (r, is, e)) = (r, e)
      refuses_edits c edits end (inr (next, edited, (text, is, long, e))) = (_, e)

      refuses : (runs : Bool) (end : End) → IsAttachRefused runs gm vol name end → (r : Refusal) × (end ≡ refused r)
      refuses runs end (inl (r, is, e)) = (r, e)
      refuses runs end (inr (v, p, may, is)) = refuses_edits g.config (state_edits v.name p plex_state.Active) end is

      refused_goes : (end : End) → IsAttachRefused (is_running g vol) gm vol name end → GoesTo (stops.Ended end) h
      refused_goes end is = has_ended see None_done (AttachStops vol name) Left (at shelf h) (at shelf h) end keeps
          (λ m at_m. (m, at_m, later_refl m.counts, stops_in m m end at_m (inl (subst (λ b. IsAttachRefused b gm vol name end) (sym (runs_is m at_m)) is, rests_self m))))
          (faults_refl (scene see (at shelf h)))
          (let why = refuses (is_running g vol) end is in subst (λ e. IsBlamed e (scene see (at shelf h)) (scene see (at shelf h))) (sym why.1) tt)

      refused_by : (stop : Stop) (new : Imported P ghosts) → new ≡ g → EndsAs (IsAttachRefused (is_running g vol) gm vol name) stop → GoesTo stop (with_group h new)
      refused_by (stops.Ended end) new same is = subst (GoesTo (stops.Ended end)) (same_house see shelf h g has_group new same) (refused_goes end is)
      refused_by stops.OutOfMemory new same is =
          subst (GoesTo stops.OutOfMemory) (same_house see shelf h g has_group new same)
          (has_wanted see None_done (AttachStops vol name) Left (at shelf h) (at shelf h) keeps (λ m is. (m, is, later_refl m.counts, refl)) (faults_refl (scene see (at shelf h))))

      -- ---- planned

      module _ (v : Vol) (p : Plex) (next : NextConfig) (planned : IsPlannedAttach see vol name v p next g) where
        abbrev m0 : ℕ
        m0 = map_or_zero p.map

        abbrev edits : List Edit
        edits = state_edits v.name p plex_state.Active

        abbrev before : Running P ghosts
        before = run see g kept vol name v p planned.may

        was_there : running_at g.public vol ≡ Some before
        was_there = there see g kept vol name v p planned.may

        v_named : v.name ≡ vol
        v_named = volume_named see g kept vol name v p planned.may

        p_named : p.name ≡ name
        p_named = plex_named see g kept vol name v p planned.may

        low64 : m0 < 64
        low64 = let lt = low see g kept vol name v p planned.may in omega (arith, lt)

        may_at : (m : Moment) → IsMoment see (at shelf h) m → MayAttach (runs_on_plexes m.world vol) gm.config gm.good vol name v p
        may_at m is = subst (λ b. MayAttach b gm.config gm.good vol name v p) (sym (runs_is m is)) planned.may

        -- the volume of the world as the command begins
        was_run : (m : Moment) → IsMoment see (at shelf h) m → IsRunThere see hs gm vol before (m.world.volumes vol)
        was_run m is = run_there see hs gm vol before (m.world.volumes vol)
            (subst (λ o. IsAtRun see hs o vol (Some before) (grouped (m.world.volumes vol))) (here_is m is)
            (subst (λ o. IsAtRun see hs m.world.group vol o (grouped (m.world.volumes vol))) was_there
            (runs_at m is)))
          where
            runs_at : (m : Moment) → IsMoment see (at shelf h) m → IsAtRun see hs m.world.group vol (running_at g.public vol) (grouped (m.world.volumes vol))
            runs_at m is = subst (λ (o : Option (Imported P ghosts)). IsAtRun see (fronts_in see o) m.world.group vol (run_in o vol) (grouped (m.world.volumes vol))) has_group (is.runs_are vol)

        -- ---- not recorded

        holds : (m : Moment) → IsMoment see (at shelf h) m → HoldsAlike see hs m.world.devices before
        holds m is = holds_alike see laws.ends laws.counts (at shelf h) (keeps_but_group see (at shelf h) keeps) m (moment_but_group see (at shelf h) m is) g has_group vol before was_there

        sound_at : (m : Moment) (is : IsMoment see (at shelf h) m) (x : Writing) → x.config ≡ next.config → (was_run m is).volume.sound ≡ true → IsSoundAs gm x.config vol m.world
        sound_at m is x config_is known =
            let r = was_run m is in
            let d = holds m is in
            subst (λ c. IsSoundAs gm c vol m.world) (sym config_is)
            (laws.sound before hs gm vol r.volume r.run known m.world d.held (record { hold = d.hold; public = d.public }) v (of see g kept vol name v p planned.may) v_named p plex_state.Active true next.config
            (sets see g kept vol name v p planned.may next planned) refl (taken see g kept vol name v p planned.may))

        within_at : (m : Moment) (is : IsMoment see (at shelf h) m) (x : Writing) → x.config ≡ next.config → (known : (was_run m is).volume.sound ≡ true) → IsReadWithin gm x.config vol m.world (was_run m is).volume.life.candidates
        within_at m is x config_is known =
            let r = was_run m is in
            let d = holds m is in
            subst (λ c. IsReadWithin gm c vol m.world r.volume.life.candidates) (sym config_is)
            (laws.within before hs gm vol r.volume r.run known m.world d.held (record { hold = d.hold; public = d.public }) v (of see g kept vol name v p planned.may) v_named p plex_state.Active next.config
            (sets see g kept vol name v p planned.may next planned) refl (taken see g kept vol name v p planned.may))

        module _ (end : End) (new : Imported P ghosts) (s : RecordStops see shelf h edits next.config new end) where
          stopped_at : (m : Moment) → IsMoment see (at shelf h) m → (k : Moment) × IsMomentButGroup see (at shelf (with_group h new)) k × AreLater m.counts k.counts × AttachStops vol name m end k
          stopped_at m is = let x = s.moments m is in (
            x.then,
            x.is,
            x.after,
            stops_in m x.then end is (inr (inl (record {
              volume = v;
              plex = p;
              may = may_at m is;
              running = (was_run m is).volume;
              runs = (was_run m is).there;
              rest = x.after;
              stops = (x.writing, x.change, x.stopped);
              sound = sound_at m is x.writing x.config_is;
              within = within_at m is x.writing x.config_is;
            }))),
          )

        record_stops : (end : End) (new : Imported P ghosts) → RecordEnds see next (Err (stops.Ended end)) g new → RecordStops see shelf h edits next.config new end
        record_stops end new e = laws.stops h g new shelf vol edits next has_group keeps (record_of see g kept vol name v p planned.may next planned) end e

        unrecorded_by : (stop : Stop) (new : Imported P ghosts) → RecordEnds see next (Err stop) g new → GoesTo stop (with_group h new)
        unrecorded_by stops.OutOfMemory new (same, rest) = refused_by stops.OutOfMemory new (rest ∙ ap (λ b. (let x : Imported P ghosts = record { config = g.config; base = b; public = g.public } in x)) same) tt
        unrecorded_by (stops.Ended ends.GroupLost) new e =
            let s = record_stops ends.GroupLost new e in record { keeps = s.keeps; goes = stopped_at ends.GroupLost new s; faults = s.faults; blamed = tt }
        unrecorded_by (stops.Ended (ends.Lost parts)) new e =
            let s = record_stops (ends.Lost parts) new e in record { keeps = s.keeps; goes = stopped_at (ends.Lost parts) new s; faults = s.faults; blamed = tt }
        unrecorded_by (stops.Ended (ends.Done copied parts blocks)) new e = absurd e.0
        unrecorded_by (stops.Ended (ends.Refused why)) new e = absurd e.0
        unrecorded_by (stops.Ended (ends.Fault told device parts)) new e = absurd e.0
        unrecorded_by (stops.Ended ends.ShelfFailed) new e = absurd e.0

        -- ---- the plex is on

        module _ (g1 : Imported P ghosts) (switches : SwitchesIn see vol m0 true next g g1) where
          abbrev h1 : House P ghosts
          h1 = with_group h g1

          abbrev after : Running P ghosts
          after = switches.runs.after

          before_is : switches.runs.before ≡ before
          before_is = some_one switches.runs.before before (sym switches.runs.was ∙ was_there)

          now_there : running_at g1.public vol ≡ Some after
          now_there = switches.runs.puts vol ∙ ap (λ b. cond b (Some after) (running_at g.public vol)) (bytes_eq_self vol)

          switched : RecordGoes see shelf h g1 (IsSwitchedAt see shelf h1 v p plex_state.Active true next.config)
          switched = laws.switches h g g1 shelf vol v p plex_state.Active true next alike has_group keeps (switch_plan see g kept vol name v p planned.may next planned) before was_there (taken see g kept vol name v p planned.may) switches

          abbrev on_at : (m : Moment) → IsMoment see (at shelf h) m → IsSwitchedAt see shelf h1 v p plex_state.Active true next.config m
          on_at m is = switched.moments m is

          goes_on : (m : Moment) (is : IsMoment see (at shelf h) m) → GoesOn vol name (on_at m is).recorded (on_at m is).then
          goes_on m is = subst (λ n. GoesOn n name (on_at m is).recorded (on_at m is).then) v_named (subst (λ n. GoesOn v.name n (on_at m is).recorded (on_at m is).then) p_named (on_at m is).goes)

          abbrev attached : (m : Moment) (is : IsMoment see (at shelf h) m) → IsAttachedBy gm vol name m (on_at m is).then
          attached m is = record {
            volume = v;
            plex = p;
            may = may_at m is;
            writing = (on_at m is).writing;
            change = (on_at m is).change;
            recorded = (on_at m is).recorded;
            committed = (on_at m is).committed;
            rest = (on_at m is).rest;
            goes = goes_on m is;
          }

          later_on : (m : Moment) (is : IsMoment see (at shelf h) m) → AreLater m.counts (on_at m is).then.counts
          later_on m is = subst (AreLater m.counts) (sym (goes_on m is).counts) (on_at m is).rest

          -- ---- what is copied

          form_on : has after.form.shape.on m0 ≡ true
          form_on =
              ap (λ s. has s.on m0) switches.runs.form.shape
              ∙ has-union switches.runs.before.form.shape.on (only m0) m0 ∙ or_from_right (has switches.runs.before.form.shape.on m0) (has (only m0) m0) (has-only_same m0 low64)

          same_maps : (q : Plex) → Contains g1.config.plexes q → q.name ≡ p.name → map_or_zero q.map ≡ m0
          same_maps q there_q same =
              let set : IsStateSet g.config v p plex_state.Active next.config = each_state_set g.config v (of see g kept vol name v p planned.may) p plex_state.Active next.config (sets see g kept vol name v p planned.may next planned) in
              elim (set.none_added q (subst (λ c. Contains c.plexes q) switches.config there_q)) [
                | inl is ↦ ap (λ (x : Plex). map_or_zero x.map) is
                | inr old ↦ ap (λ (x : Plex). map_or_zero x.map) (one_plex g.config q p (is_in g.config.plexes q old) (plex_there see g kept vol name v p planned.may) same)
              ]

          module _ (stop : Stop) (g2 : Imported P ghosts) (copies : CopiesIn see vol (only m0) stop g1 g2) where
            abbrev h2 : House P ghosts
            h2 = with_group h1 g2

            after_is : copies.one.before ≡ after
            after_is = some_one copies.one.before after (sym copies.one.was ∙ now_there)

            copying : CopyingGoes see shelf h1 vol (only m0) stop g1 g2 copies
            copying = copying_goes_on laws.copies shelf h1 g1 g2 alike refl vol (only m0) stop copies switched.keeps

            faults2 : FaultsGoOn (scene see (at shelf h)) (scene see (at shelf h2))
            faults2 = faults_trans (scene see (at shelf h)) (scene see (at shelf h1)) (scene see (at shelf h2)) switched.faults copying.faults

            is_on : has copies.one.before.form.shape.on m0 ≡ true
            is_on = subst (λ (r : Running P ghosts). has r.form.shape.on m0 ≡ true) (sym after_is) form_on

            to : AreToCopy g1.config vol (only m0) copies.one.before (bytes_eq p.name)
            to q there_q own_q same = let map_is = same_maps q there_q (sym (bytes_eq_same p.name q.name same)) in record {
              low = subst (λ k. k < 64) (sym map_is) low64;
              in_mask = subst (λ k. has (only m0) k ≡ true) (sym map_is) (has-only_same m0 low64);
              on = subst (λ k. has copies.one.before.form.shape.on k ≡ true) (sym map_is) is_on;
            }

            some : is_some v.dco ≡ true → HasPlexToCopy (only m0) copies.one.before
            some logged =
                let place0 = place see g kept vol name v p planned.may in
                let had : 0 < length before.form.logs.items = ltb-true 0 (length before.form.logs.items) (place0.placed.runs.logged ∙ ap (λ (x : Vol). is_some x.dco) (same_vol see g kept vol name v p planned.may) ∙ logged) in
                record {
                  map = m0;
                  low = low64;
                  in_mask = has-only_same m0 low64;
                  on = is_on;
                  logged = subst (λ (r : Running P ghosts). 0 < length r.form.logs.items) (sym after_is)
                      (subst (λ n. 0 < n) (sym (ap length switches.runs.form.logs ∙ ap (λ (r : Running P ghosts). length r.form.logs.items) before_is)) had);
                }

            -- the number that is told
            counted : (m : Moment) (is : IsMoment see (at shelf h) m) (n : ℕ) → copies.result ≡ Ok n → IsCopyCount (goes_on m is).volume name n
            counted m is n is_n known =
                let r = was_run m is in
                let o = on_at m is in
                let same : (goes_on m is).volume ≡ r.volume = some_one (goes_on m is).volume r.volume (sym (goes_on m is).was ∙ ap (λ (f : Word → Option Volume). f vol) o.committed.committing.volumes ∙ r.there) in
                let many : n ≡ missed_regions (only m0) (volume_seen see after.volume) = copies.one.count n is_n ∙ ap (λ (x : Running P ghosts). missed_regions (only m0) (volume_seen see x.volume)) after_is in
                let sizes = count_fits see hs gm vol before after r.volume r.run p (contains g.config.plexes p (plex_there see g kept vol name v p planned.may))
                (subst (λ x. is_data_plex_of x p ≡ true) v_named (own see g kept vol name v p planned.may)) low64
                (subst (λ (x : Running P ghosts). Switches m0 true (volume_seen see x.volume) (volume_seen see after.volume)) before_is switches.runs.volume.switches)
                (ap (λ (x : Volume). x.sound) (sym same) ∙ known) in
                subst (λ (x : Volume). IsSizeBetween n (region_count x.length x.region) (x.tracks name).sure (x.tracks name).possible) (sym same)
                (subst (λ x. IsSizeBetween n (region_count r.volume.length r.volume.region) (r.volume.tracks x).sure (r.volume.tracks x).possible) p_named
                (subst (λ k. IsSizeBetween k (region_count r.volume.length r.volume.region) (r.volume.tracks p.name).sure (r.volume.tracks p.name).possible) (sym many) sizes))

            -- ---- how it ends

            ends_at : (m k : Moment) (end : End) (is : IsMoment see (at shelf h) m) → AreLater (on_at m is).then.counts k.counts → IsAttachCopied v name (goes_on m is).volume (on_at m is).then end k → AttachStops vol name m end k
            ends_at m k end is later copied = stops_in m k end is (inr (inr (record { attached = (on_at m is).then; is = attached m is; rest = later; copied = copied })))

            later_at : (m k : Moment) (is : IsMoment see (at shelf h) m) → AreLater (on_at m is).then.counts k.counts → AreLater m.counts k.counts
            later_at m k is later = later_trans m.counts (on_at m is).then.counts k.counts (later_on m is) later

            done_logged : is_some v.dco ≡ true → (n : ℕ) → copies.result ≡ Ok n → Goes see (λ m x. AttachStops vol name m (ends.Done (Some n) [] []) x) (at shelf h) (at shelf h2)
            done_logged logged n is_n m is =
                let o = on_at m is in
                let x = copying.done n is_n (some logged) (bytes_eq p.name) to o.then o.is in
                let copied = subst (λ q. HasCopied v.name (bytes_eq q) o.then x.0) p_named (subst (λ w. HasCopied w (bytes_eq p.name) o.then x.0) (sym v_named) x.2) in
                (x.0, x.1, later_at m x.0 is x.2.after, ends_at m x.0 (ends.Done (Some n) [] []) is x.2.after (att_copied v name (goes_on m is).volume o.then n (counted m is n is_n) x.0 copied))

            done_unlogged : v.dco ≡ None → (n : ℕ) → copies.result ≡ Ok n → Goes see (λ m x. AttachStops vol name m (ends.Done (Some n) [] []) x) (at shelf h) (at shelf h2)
            done_unlogged none n is_n m is =
                let o = on_at m is in
                let x = rested_at shelf h1 g1 g2 refl vol (facts g1 g2 vol (only m0) copies.result copies.one copies.same alike laws.copies) switched.keeps o.then o.is in
                let rest = subst (λ w. ComesToRest w o.then x.then) (sym v_named) x.rest in
                (x.then, x.is, later_at m x.then is x.later, ends_at m x.then (ends.Done (Some n) [] []) is x.later (att_unlogged v name (goes_on m is).volume o.then none n (counted m is n is_n) x.then rest))

            done_goes : (n : ℕ) → copies.result ≡ Ok n → Goes see (λ m x. AttachStops vol name m (ends.Done (Some n) [] []) x) (at shelf h) (at shelf h2)
            done_goes n is_n = by v.dco refl
              where
                by : (o : Option Word) → v.dco ≡ o → Goes see (λ m x. AttachStops vol name m (ends.Done (Some n) [] []) x) (at shelf h) (at shelf h2)
                by None e = done_unlogged e n is_n
                by (Some dco) e = done_logged (ap is_some e) n is_n

            fault_goes : (fault : IoFault) → copies.result ≡ Err fault → (end : End) → stop ≡ stops.Ended end → Goes see (λ m x. AttachStops vol name m end x) (at shelf h) (at shelf h2)
            fault_goes fault is_fault end ended m is =
                let o = on_at m is in
                let x = copying.ended fault is_fault end ended o.then o.is in
                let stopped = subst (λ w. RestStops w o.then end x.0) (sym v_named) x.2 in
                (x.0, x.1, later_at m x.0 is x.2.rest.later, ends_at m x.0 end is x.2.rest.later (att_stopped v name (goes_on m is).volume o.then end x.0 stopped))

            -- the stop, and how the moments go
            goes_by : (result : Result ℕ IoFault) → copies.result ≡ result → (end : End) × (stop ≡ stops.Ended end) × Goes see (λ m x. AttachStops vol name m end x) (at shelf h) (at shelf h2)
            goes_by (Ok n) is = let ended : stop ≡ stops.Ended (ends.Done (Some n) [] []) = subst (λ r. CopyStops see g1.base.disks.items r stop) is copies.stop_is in (ends.Done (Some n) [] [], ended, done_goes n is)
            goes_by (Err fault) is = by fault is (subst (λ r. CopyStops see g1.base.disks.items r stop) is copies.stop_is)
              where
                by : (f : IoFault) → copies.result ≡ Err f → IsFaultTold see g1.base.disks.items f stop → (end : End) × (stop ≡ stops.Ended end) × Goes see (λ m x. AttachStops vol name m end x) (at shelf h) (at shelf h2)
                by (Fault place) is_f (told, device, ended, any) = (ends.Fault told device [], ended, fault_goes (Fault place) is_f (ends.Fault told device []) ended)
                by PowerLost is_f ended = (ends.Lost [], ended, fault_goes PowerLost is_f (ends.Lost []) ended)
                by Range is_f ended = absurd ended

            copied_goes : GoesTo stop h2
            copied_goes =
                let x = goes_by copies.result refl in
                subst (λ s. GoesTo s h2) (sym x.1)
                (has_ended see None_done (AttachStops vol name) Left (at shelf h) (at shelf h2) x.0 copying.keeps x.2 faults2
                (blamed_later x.0 (scene see (at shelf h)) (scene see (at shelf h1)) (scene see (at shelf h2)) switched.faults (copying.blamed x.0 x.1)))

      -- ---- however it ends

      pub attach_goes : (stop : Stop) (new : Imported P ghosts) → IsAttachEnd see vol name stop g new → GoesTo stop (with_group h new)
      attach_goes stop new (inl (same, why)) = refused_by stop new same why
      attach_goes stop new (inr e) = elim e.ends [
        | inl unrecorded ↦ unrecorded_by e.volume e.plex e.next e.planned stop new unrecorded
        | inr on ↦ copied_goes e.volume e.plex e.next e.planned on.switched on.switches stop new on.copies
      ]

      pub attach_ends : (result : Result (Unit {0}) Stop) (new : Imported P ghosts) → IsErrAnd result (λ stop. IsAttachEnd see vol name stop g new) → GoesAs see None_done (AttachStops vol name) Left result (at shelf h) (at shelf (with_group h new))
      attach_ends (Ok u) new e = absurd e
      attach_ends (Err stop) new e = attach_goes stop new e

-- as a stage
pub as_attach : {P : Type 0} {ghosts : Ghosts P} (see : P → Seen) (vol name : Word) (disks : List DiskAt) (result : Result (Unit {0}) Stop) (old new : View P ghosts) →
    GoesAs see (λ m k. ⊥) (AttachStops vol name) (λ m k. k.world ≡ m.world) result old new → StageGoes see (stage.Attach vol name) disks result old new
as_attach see vol name disks (Ok u) old new is = record { keeps = is.keeps; goes = is.goes; gives = tt; still = λ e. cc; faults = is.faults; blamed = is.blamed }
as_attach see vol name disks (Err stop) old new is = record { keeps = is.keeps; goes = is.goes; gives = tt; still = λ e. tt; faults = is.faults; blamed = is.blamed }

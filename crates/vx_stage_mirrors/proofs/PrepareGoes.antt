-- A volume that gets logs, as a stage: however it ended on the group, it goes so in the house.
use Rattle.std.proofs.Common.{◌≡◌, ◌∙◌, Bool, true, false, List, Option, Some, None, Result, Ok, Err, refl, sym, ap, subst, inl, inr}
use Rattle.std.specs.Prelude.{◌++◌, Contains, MatchBool, MatchOption, is_some}
use Rattle.std.specs.BTreeMap.{get}
use Rattle.std.specs.Cmp.Lexicographic.{slice_cmp}
use Rattle.std.specs.Ordering.{nat_cmp}
use Rattle.std.proofs.lemmas.Bool.{false≢true}
use Rattle.vx_base.specs.Named.{Word}
use Rattle.vx_pages.specs.declared.local_piece.LocalPiece.{Ghosts}
use Rattle.vx_piece.specs.Seen.{Seen}
use Rattle.vx_layout.specs.declared.layout.Layout.{Layout}
use Rattle.vx_config_parts.specs.declared.vol.Vol.{Vol}
use Rattle.vx_objects.specs.declared.config.Config.{Config}
use Rattle.vx_objects.specs.declared.edit.Edit.{Edit}
use Rattle.vx_objects.specs.Applied.{IsEdited}
use Rattle.vx_state_edits.specs.Edits.{is_new}
use Rattle.vx_answers.specs.declared.answer.End.{End}
use Rattle.vx_answers.specs.declared.answer.End.TheVariants as ends
use Rattle.vx_answers.specs.declared.refusal.Refusal.{Refusal}
use Rattle.vx_answers.specs.declared.refusal.Refusal.TheVariants as refusal
use Rattle.vx_moments.specs.Commit.{IsCommitted, Writing}
use Rattle.vx_moments.specs.Group.{image_on}
use Rattle.vx_moments.specs.Moment.{AreLater, Moment}
use Rattle.vx_moments.specs.World.{Group, World}
use Rattle.vx_lending.specs.Public.{running_at}
use Rattle.vx_new_volumes.specs.declared.logs.NewLogs.{NewLogs}
use Rattle.vx_stages.specs.Ends.{EndsIn, IsChange, refused}
use Rattle.vx_stages.specs.Logged.{AreNewLogs, HasEmptyLog, IsLogTouched, IsLogWritten, IsPrepared, IsRelogged, PrepareStops, PrepareStopsIn, PrepareWants, RelogsIfRunning, WritesLog, by_config, log_names}
use Rattle.vx_stages.specs.Logging.{AreEditsRefused, AreLogsUnplanned, IsPrepareRefused, prepare_refusal}
use Rattle.vx_stages.specs.Recorded.{IsSoundAs}
use Rattle.vx_stages.specs.Stopping.{runs_on_plexes}
use Rattle.vx_stages.specs.Touching.{PassHasCause}
use Rattle.vx_group_edits.specs.OfVolume.{AreEditsOf}
use Rattle.vx_group_edits.proofs.DcoEdits.{preparing_own}
use Rattle.vx_house.specs.Scene.{FaultsGoOn, IsBlamed, Shelved}
use Rattle.vx_house.specs.View.{IsMoment, IsMomentButGroup, Keeps, at, group_of, scene}
use Rattle.vx_house.specs.declared.house.House.{House}
use Rattle.vx_house.specs.declared.house.Imported.{Imported}
use Rattle.vx_house.specs.declared.stop.Stop.{Stop}
use Rattle.vx_house.specs.declared.stop.Stop.TheVariants as stops
use Rattle.vx_house.proofs.Moments.{faults_refl, faults_trans, later_refl, later_trans}
use Rattle.vx_house.proofs.Takes.{blamed_later, rests_self}
use Rattle.vx_house_calls.specs.Passes.{with_group}
use Rattle.vx_stage_changes.specs.declared.planning.NextConfig.{NextConfig}
use Rattle.vx_stage_volumes.specs.Opening.{SameButStill, good_of}
use Rattle.vx_stage_volumes.specs.Parting.{PartsGroup}
use Rattle.vx_stage_volumes.proofs.Named.{found_name}
use Rattle.vx_stage_volumes.proofs.PartedHouse.{keeps_now, moment_now, same_scene}
use Rattle.vx_stage_mirrors.specs.Ending.{seen_group}
use Rattle.vx_stage_mirrors.specs.LogEnding.{EndsUnmade, FilledEnds, IsPlannedPrepare, IsPoweredIn, IsPrepareStopped, IsVolNext, MakesAndRecords, PlannedEnds, PrepareEnds, ReadyEnds, is_running}
use Rattle.vx_stage_mirrors.specs.Making.{MakesIn}
use Rattle.vx_stage_mirrors.specs.LogMoments.{EachFailedRecordStops, EachLogIsMade, EachLogIsUnmade, EachRecordGoes, EndsUnmadeFor, IsNextOf, IsRecordOf, IsRelogAt, LogGoes, RecordGoes, RecordStops}
use Rattle.vx_stage_mirrors.specs.Planned.{EndsAs}
use Rattle.vx_stage_mirrors.specs.Relogging.{IsLogJoined, IsRecordedIn, RecordEnds}
use Rattle.vx_stage_mirrors.proofs.LogGoing.{GoesAs, has_done, has_ended, has_wanted, here, runs_same, same_house, some_one}

-- What the laws of the steps promise.
pub record StepLaws {P : Type 0} (ghosts : Ghosts P) : Type 0 where
  pub made : (h : House P ghosts) (old new : Imported P ghosts) → EachLogIsMade ghosts.seen h old new
  pub unmade : (h : House P ghosts) (old new : Imported P ghosts) → EachLogIsUnmade ghosts.seen h old new
  pub records : (h : House P ghosts) (old new : Imported P ghosts) → EachRecordGoes ghosts.seen h old new
  pub stops : (h : House P ghosts) (old new : Imported P ghosts) → EachFailedRecordStops ghosts.seen h old new

-- the moment behind the commit of a volume that runs: it goes on with the log, on its plex and the logs
abbrev pub JoinsAt : {P : Type 0} {ghosts : Ghosts P} → (P → Seen) → Shelved → House P ghosts → Word → List Edit → Config → List Word → Moment → Type 0
JoinsAt see shelf h name edits config logs m = IsRelogAt see shelf h name edits config (λ plexes later. later ≡ plexes ++ logs) m

-- What is known of the logs that are planned for the volume of a group.
pub record PlanFacts {P : Type 0} {ghosts : Ghosts P} (see : P → Seen) (g : Imported P ghosts) (n : NewLogs) (v : Vol) (next : NextConfig) (planned : IsPlannedPrepare see n v next g) : Type 0 where
  -- one that was never started does not run
  pub idle : is_new v.state ≡ true → running_at g.public n.vol ≡ None
  -- one that was started has them by the next configuration, on a group of that configuration and those good slots
  pub next_is : is_new v.state ≡ false → (later : Vol) → IsVolNext v next later → (g1 : Imported P ghosts) → g1.config ≡ g.config → good_of see g1 ≡ good_of see g → IsNextOf see g1 next.config n.vol later
  -- with them it is sound by its bytes, if nothing is marked in them
  pub sound : (w : World) → (is_new v.state ≡ false → (later : Vol) → Contains next.config.volumes later → later.name ≡ n.vol → HasEmptyLog (image_on w.devices (by_config next.config (seen_group see g)) later)) → IsSoundAs (seen_group see g) next.config n.vol w
  -- where it runs it goes on with the log that was made
  pub joins : is_new v.state ≡ false → is_running g n.vol ≡ true → IsPoweredIn see n.vol g → (shelf : Shelved) (h : House P ghosts) (mid : Imported P ghosts) → h.group ≡ Some mid → Keeps see (at shelf h) →
      (ready : Imported P ghosts) → PartsGroup see g ready → (later : Vol) → IsVolNext v next later → (layouts : List Layout) → MakesIn see next.config later layouts ready mid →
      (recorded new : Imported P ghosts) → IsRecordedIn see next mid recorded → IsLogJoined see v.name layouts recorded new →
      RecordGoes see shelf h new (JoinsAt see shelf (with_group h new) n.vol planned.planned.edits next.config (log_names next.config (good_of see g) n.vol))

none_of : {X : Type 0} (o : Option X) → is_some o ≡ false → o ≡ None
none_of None e = refl
none_of (Some y) e = absurd (false≢true (sym e))

module _ {P : Type 0} {ghosts : Ghosts P} (alike : (p q : P) → is_some (ghosts.seen p).told ≡ is_some (ghosts.seen q).told) (laws : StepLaws ghosts) (n : NewLogs) (shelf : Shelved) (h : House P ghosts) where
  abbrev see : P → Seen
  see = ghosts.seen

  abbrev GoesTo : Result (Unit {0}) Stop → House P ghosts → Type 0
  GoesTo result h' = GoesAs see (IsPrepared n) (PrepareStops n) (PrepareWants n) result (at shelf h) (at shelf h')

  module _ (keeps : Keeps see (at shelf h)) where
    -- no group is imported
    pub no_group : h.group ≡ None → GoesTo (Err (stops.Ended (ends.Refused (refusal.NoGroup None)))) h
    no_group none = has_ended see (IsPrepared n) (PrepareStops n) (PrepareWants n) (at shelf h) (at shelf h) (ends.Refused (refusal.NoGroup None)) keeps (λ m is. (
      m,
      is,
      later_refl m.counts,
      subst (λ o. MatchOption o (EndsIn (refusal.NoGroup None) m (ends.Refused (refusal.NoGroup None)) m) (λ g. PrepareStopsIn g n m (ends.Refused (refusal.NoGroup None)) m)) (sym (none_here m is none)) (refl, rests_self m),
    ))
        (faults_refl (scene see (at shelf h))) tt
      where
        none_here : (m : Moment) → IsMoment see (at shelf h) m → h.group ≡ None → m.world.group ≡ None
        none_here m is none = is.group_is ∙ ap (group_of see) none

    module _ (g : Imported P ghosts) (has_group : h.group ≡ Some g) where
      abbrev gm : Group
      gm = seen_group see g

      abbrev runs : Bool
      runs = is_running g n.vol

      here_is : (m : Moment) → IsMoment see (at shelf h) m → m.world.group ≡ Some gm
      here_is m is = here see shelf h g has_group m is

      stops_in : (m k : Moment) (end : End) → IsMoment see (at shelf h) m → PrepareStopsIn gm n m end k → PrepareStops n m end k
      stops_in m k end is s = subst (λ o. MatchOption o (EndsIn (refusal.NoGroup None) m end k) (λ w. PrepareStopsIn w n m end k)) (sym (here_is m is)) s

      runs_is : (m : Moment) → IsMoment see (at shelf h) m → runs_on_plexes m.world n.vol ≡ runs
      runs_is m is = runs_same see shelf h g has_group n.vol m is

      -- ---- refused before anything is touched

      refuses_edits : (c : Config) (edits : List Edit) (end : End) → AreEditsRefused c edits end → (r : Refusal) × (end ≡ refused r)
      refuses_edits c edits end (inl (r, is, e)) = (r, e)
      refuses_edits c edits end (inr (next, edited, (text, is, long, e))) = (_, e)

      refuses_plan : (v : Vol) (end : End) → AreLogsUnplanned g.config gm.good v n end → (r : Refusal) × (end ≡ refused r)
      refuses_plan v end (inl (r, is, e)) = (r, e)
      refuses_plan v end (inr (plex, added, edits, laid, is)) = refuses_edits g.config edits end is

      refuses : (b : Bool) (end : End) → IsPrepareRefused b gm n end → (r : Refusal) × (end ≡ refused r)
      refuses b end (inl (r, is, e)) = (r, e)
      refuses b end (inr (v, found, fits, is)) = refuses_plan v end is

      refused_goes : (end : End) → IsPrepareRefused runs gm n end → GoesTo (Err (stops.Ended end)) h
      refused_goes end is = has_ended see (IsPrepared n) (PrepareStops n) (PrepareWants n) (at shelf h) (at shelf h) end keeps
          (λ m at_m. (m, at_m, later_refl m.counts, stops_in m m end at_m (inl (subst (λ b. IsPrepareRefused b gm n end) (sym (runs_is m at_m)) is, rests_self m))))
          (faults_refl (scene see (at shelf h)))
          (let why = refuses runs end is in subst (λ e. IsBlamed e (scene see (at shelf h)) (scene see (at shelf h))) (sym why.1) tt)

      refused_by : (stop : Stop) (new : Imported P ghosts) → new ≡ g → EndsAs (IsPrepareRefused runs gm n) stop → GoesTo (Err stop) (with_group h new)
      refused_by (stops.Ended end) new same is = subst (GoesTo (Err (stops.Ended end))) (same_house see shelf h g has_group new same) (refused_goes end is)
      refused_by stops.OutOfMemory new same is =
          subst (GoesTo (Err stops.OutOfMemory)) (same_house see shelf h g has_group new same)
          (has_wanted see (IsPrepared n) (PrepareStops n) (PrepareWants n) (at shelf h) (at shelf h) keeps (λ m is. (m, is, later_refl m.counts, inl refl)) (faults_refl (scene see (at shelf h))))

      -- ---- want of memory once it was made ready

      module _ (g' : Imported P ghosts) (parts : PartsGroup see g g') where
        parted_faults : FaultsGoOn (scene see (at shelf h)) (scene see (at shelf (with_group h g')))
        parted_faults = subst (λ s. FaultsGoOn (scene see (at shelf h)) s) (sym (same_scene see shelf h g g' has_group parts)) (faults_refl (scene see (at shelf h)))

        parted_wants : GoesTo (Err stops.OutOfMemory) (with_group h g')
        parted_wants = has_wanted see (IsPrepared n) (PrepareStops n) (PrepareWants n) (at shelf h) (at shelf (with_group h g')) (keeps_now see shelf h g g' has_group parts keeps)
            (λ m is. (m, moment_now see shelf h g g' has_group parts m is, later_refl m.counts, inl refl)) parted_faults

      -- ---- planned

      module _ (v : Vol) (next : NextConfig) (planned : IsPlannedPrepare see n v next g) (facts : PlanFacts see g n v next planned) where
        abbrev edits : List Edit
        edits = planned.planned.edits

        named : v.name ≡ n.vol
        named = found_name g.config n.vol v planned.found

        own : AreEditsOf g.config n.vol edits
        own = subst (λ x. AreEditsOf g.config x edits) named (preparing_own g.config (good_of see g) v n planned.planned.plex planned.planned.added edits planned.planned.laid)

        logs_at : (m : Moment) → IsMoment see (at shelf h) m → AreNewLogs gm n (runs_on_plexes m.world n.vol) v next.config edits
        logs_at m is = record {
          found = planned.found;
          fits = subst (λ b. prepare_refusal b g.config n ≡ None) (sym (runs_is m is)) planned.fits;
          plex = planned.planned.plex;
          added = planned.planned.added;
          laid = planned.planned.laid;
          edited = planned.planned.next.0;
        }

        -- ---- a volume that was never started

        module _ (fresh : is_new v.state ≡ true) where
          abbrev record_of : IsRecordOf g n.vol edits next
          record_of = record { own = own; edited = planned.planned.next.0; printed = planned.planned.next.1 }

          none_runs : runs ≡ false
          none_runs = ap is_some (facts.idle fresh)

          sound_at : (m : Moment) → (x : Writing) → x.config ≡ next.config → IsSoundAs gm x.config n.vol m.world
          sound_at m x same = subst (λ c. IsSoundAs gm c n.vol m.world) (sym same) (facts.sound m.world (λ filled. absurd (false≢true (sym filled ∙ fresh))))

          nothing_written : (m : Moment) → WritesLog gm next.config v m m
          nothing_written m = subst (λ b. MatchBool b (m ≡ m) (IsLogWritten gm next.config v.name m m × AreLater m.counts m.counts)) (sym fresh) refl

          recorded_goes : (new : Imported P ghosts) → IsRecordedIn see next g new → GoesTo (Ok tt) (with_group h new)
          recorded_goes new recorded =
              let r = laws.records h g new shelf n.vol edits next has_group keeps record_of (facts.idle fresh) recorded in
              has_done see (IsPrepared n) (PrepareStops n) (PrepareWants n) (at shelf h) (at shelf (with_group h new)) r.keeps
              (λ m is. let x = r.moments m is in (
                x.then,
                x.is,
                x.after,
                record {
                  group = gm;
                  here = here_is m is;
                  volume = v;
                  next = next.config;
                  edits = edits;
                  logs = logs_at m is;
                  written = m;
                  writes = nothing_written m;
                  writing = x.writing;
                  change = x.change;
                  sound = sound_at m x.writing x.config_is;
                  recorded = x.then;
                  committed = x.committed;
                  rest = x.after;
                  runs = subst (λ b. MatchBool b (IsRelogged n.vol (λ plexes later. later ≡ plexes ++ log_names next.config gm.good n.vol) x.then x.then) (x.then ≡ x.then)) (sym (runs_is m is ∙ none_runs)) refl;
                },
              ))
              r.faults

          module _ (end : End) (new : Imported P ghosts) (s : RecordStops see shelf h edits next.config new end) where
            unrecorded_at : (m : Moment) → IsMoment see (at shelf h) m → (k : Moment) × IsMomentButGroup see (at shelf (with_group h new)) k × AreLater m.counts k.counts × PrepareStops n m end k
            unrecorded_at m is = let x = s.moments m is in (
              x.then,
              x.is,
              x.after,
              stops_in m x.then end is (inr (inr (record {
                volume = v;
                next = next.config;
                edits = edits;
                logs = logs_at m is;
                written = m;
                writes = nothing_written m;
                rest = x.after;
                stops = (x.writing, x.change, x.stopped);
                sound = sound_at m x.writing x.config_is;
              }))),
            )

          record_stops : (end : End) (new : Imported P ghosts) → RecordEnds see next (Err (stops.Ended end)) g new → RecordStops see shelf h edits next.config new end
          record_stops end new e = laws.stops h g new shelf n.vol edits next has_group keeps record_of end e

          empty_ends : (result : Result (Unit {0}) Stop) (new : Imported P ghosts) → RecordEnds see next result g new → GoesTo result (with_group h new)
          empty_ends (Ok u) new e = recorded_goes new e
          empty_ends (Err stops.OutOfMemory) new (same, rest) = refused_by stops.OutOfMemory new (rest ∙ ap (λ b. (let x : Imported P ghosts = record { config = g.config; base = b; public = g.public } in x)) same) tt
          empty_ends (Err (stops.Ended ends.GroupLost)) new e =
              let s = record_stops ends.GroupLost new e in record { keeps = s.keeps; goes = unrecorded_at ends.GroupLost new s; faults = s.faults; blamed = tt }
          empty_ends (Err (stops.Ended (ends.Lost parts))) new e =
              let s = record_stops (ends.Lost parts) new e in record { keeps = s.keeps; goes = unrecorded_at (ends.Lost parts) new s; faults = s.faults; blamed = tt }
          empty_ends (Err (stops.Ended (ends.Done copied parts blocks))) new e = absurd e.0
          empty_ends (Err (stops.Ended (ends.Refused why))) new e = absurd e.0
          empty_ends (Err (stops.Ended (ends.Fault told device parts))) new e = absurd e.0
          empty_ends (Err (stops.Ended ends.ShelfFailed)) new e = absurd e.0

        -- ---- one that was started before

        module _ (filled : is_new v.state ≡ false) (power : IsPoweredIn see v.name g) (ready : Imported P ghosts) (parts : PartsGroup see g ready) where
          abbrev h1 : House P ghosts
          h1 = with_group h ready

          keeps1 : Keeps see (at shelf h1)
          keeps1 = keeps_now see shelf h g ready has_group parts keeps

          moment1 : (m : Moment) → IsMoment see (at shelf h) m → IsMoment see (at shelf h1) m
          moment1 m is = moment_now see shelf h g ready has_group parts m is

          faults1 : FaultsGoOn (scene see (at shelf h)) (scene see (at shelf h1))
          faults1 = parted_faults ready parts

          same_group : seen_group see ready ≡ gm
          same_group = some_one (seen_group see ready) gm parts.group

          same_good : good_of see ready ≡ good_of see g
          same_good = ap (λ (w : Group). w.good) same_group

          next_is : (later : Vol) → IsVolNext v next later → IsNextOf see ready next.config n.vol later
          next_is later of = facts.next_is filled later of ready parts.config same_good

          -- ---- the log is called, made or not

          module _ (mid : Imported P ghosts) (goes : LogGoes see shelf h1 next.config n.vol ready mid) where
            abbrev h2 : House P ghosts
            h2 = with_group h1 mid

            faults2 : FaultsGoOn (scene see (at shelf h)) (scene see (at shelf h2))
            faults2 = faults_trans (scene see (at shelf h)) (scene see (at shelf h1)) (scene see (at shelf h2)) faults1 goes.faults

            abbrev called : (m : Moment) → IsMoment see (at shelf h) m → Moment
            called m is = goes.then m (moment1 m is)

            called_is : (m : Moment) (is : IsMoment see (at shelf h) m) → IsMoment see (at shelf h2) (called m is)
            called_is m is = goes.is m (moment1 m is)

            called_later : (m : Moment) (is : IsMoment see (at shelf h) m) → AreLater m.counts (called m is).counts
            called_later m is = goes.later m (moment1 m is)

            touched : (m : Moment) (is : IsMoment see (at shelf h) m) → IsLogTouched gm next.config n.vol m (called m is)
            touched m is = subst (λ (w : Group). IsLogTouched w next.config n.vol m (called m is)) same_group (goes.touched m (moment1 m is))

            -- memory was wanting
            called_wants : GoesTo (Err stops.OutOfMemory) h2
            called_wants = has_wanted see (IsPrepared n) (PrepareStops n) (PrepareWants n) (at shelf h) (at shelf h2) goes.keeps
                (λ m is. (called m is, called_is m is, called_later m is, inr (gm, v, next.config, edits, here_is m is, logs_at m is, filled, touched m is))) faults2

            -- ---- it was made

            module _ (written : (m : Moment) (is : IsMoment see (at shelf h1) m) → IsLogWritten (seen_group see ready) next.config n.vol m (goes.then m is)) where
              written_at : (m : Moment) (is : IsMoment see (at shelf h) m) → IsLogWritten gm next.config n.vol m (called m is)
              written_at m is = subst (λ (w : Group). IsLogWritten w next.config n.vol m (called m is)) same_group (written m (moment1 m is))

              writes_at : (m : Moment) (is : IsMoment see (at shelf h) m) → WritesLog gm next.config v m (called m is)
              writes_at m is =
                  subst (λ b. MatchBool b (called m is ≡ m) (IsLogWritten gm next.config v.name m (called m is) × AreLater m.counts (called m is).counts)) (sym filled)
                  (subst (λ x. IsLogWritten gm next.config x m (called m is)) (sym named) (written_at m is), called_later m is)

              sound_then : (m : Moment) (is : IsMoment see (at shelf h) m) (x : Writing) → x.config ≡ next.config → IsSoundAs gm x.config n.vol (called m is).world
              sound_then m is x same = subst (λ c. IsSoundAs gm c n.vol (called m is).world) (sym same)
                  (facts.sound (called m is).world (λ old later there name. (written_at m is).written later there name))

              own_mid : mid.config ≡ g.config → IsRecordOf mid n.vol edits next
              own_mid same = record {
                own = subst (λ c. AreEditsOf c n.vol edits) (sym same) own;
                edited = subst (λ c. IsEdited edits c next.config) (sym same) planned.planned.next.0;
                printed = planned.planned.next.1;
              }

              -- ---- recorded, by whatever it goes to

              prepared : (m : Moment) (is : IsMoment see (at shelf h) m) (x : Writing) → x.config ≡ next.config → IsChange edits (called m is).world x → (recorded : Moment) → IsCommitted x (called m is) recorded → AreLater (called m is).counts recorded.counts → (then : Moment) →
                  RelogsIfRunning m.world n.vol (λ plexes later. later ≡ plexes ++ log_names next.config gm.good n.vol) recorded then → IsPrepared n m then
              prepared m is x same change recorded committed rest then runs = record {
                group = gm;
                here = here_is m is;
                volume = v;
                next = next.config;
                edits = edits;
                logs = logs_at m is;
                written = called m is;
                writes = writes_at m is;
                writing = x;
                change = change;
                sound = sound_then m is x same;
                recorded = recorded;
                committed = committed;
                rest = rest;
                runs = runs;
              }

              module _ (end : End) (new : Imported P ghosts) (s : RecordStops see shelf h2 edits next.config new end) where
                stopped_at : (m : Moment) → IsMoment see (at shelf h) m → (k : Moment) × IsMomentButGroup see (at shelf (with_group h2 new)) k × AreLater m.counts k.counts × PrepareStops n m end k
                stopped_at m is = let x = s.moments (called m is) (called_is m is) in (
                  x.then,
                  x.is,
                  later_trans m.counts (called m is).counts x.then.counts (called_later m is) x.after,
                  stops_in m x.then end is (inr (inr (record {
                    volume = v;
                    next = next.config;
                    edits = edits;
                    logs = logs_at m is;
                    written = called m is;
                    writes = writes_at m is;
                    rest = x.after;
                    stops = (x.writing, x.change, x.stopped);
                    sound = sound_then m is x.writing x.config_is;
                  }))),
                )

                faults_then : FaultsGoOn (scene see (at shelf h)) (scene see (at shelf (with_group h2 new)))
                faults_then = faults_trans (scene see (at shelf h)) (scene see (at shelf h2)) (scene see (at shelf (with_group h2 new))) faults2 s.faults

              module _ (config : mid.config ≡ g.config) where
                stops_by : (end : End) (new : Imported P ghosts) → RecordEnds see next (Err (stops.Ended end)) mid new → RecordStops see shelf h2 edits next.config new end
                stops_by end new e = laws.stops h2 mid new shelf n.vol edits next refl goes.keeps (own_mid config) end e

                unrecorded_by : (stop : Stop) (new : Imported P ghosts) → RecordEnds see next (Err stop) mid new → GoesTo (Err stop) (with_group h new)
                unrecorded_by stops.OutOfMemory new (same, rest) =
                    subst (λ (x : Imported P ghosts). GoesTo (Err stops.OutOfMemory) (with_group h x)) (sym (rest ∙ ap (λ b. (let x : Imported P ghosts = record { config = mid.config; base = b; public = mid.public } in x)) same)) called_wants
                unrecorded_by (stops.Ended ends.GroupLost) new e =
                    let s = stops_by ends.GroupLost new e in record { keeps = s.keeps; goes = stopped_at ends.GroupLost new s; faults = faults_then ends.GroupLost new s; blamed = tt }
                unrecorded_by (stops.Ended (ends.Lost parts')) new e =
                    let s = stops_by (ends.Lost parts') new e in record { keeps = s.keeps; goes = stopped_at (ends.Lost parts') new s; faults = faults_then (ends.Lost parts') new s; blamed = tt }
                unrecorded_by (stops.Ended (ends.Done copied parts' blocks)) new e = absurd e.0
                unrecorded_by (stops.Ended (ends.Refused why)) new e = absurd e.0
                unrecorded_by (stops.Ended (ends.Fault told device parts')) new e = absurd e.0
                unrecorded_by (stops.Ended ends.ShelfFailed) new e = absurd e.0

                -- the volume does not run
                still_goes : running_at mid.public n.vol ≡ None → runs ≡ false → (new : Imported P ghosts) → IsRecordedIn see next mid new → GoesTo (Ok tt) (with_group h new)
                still_goes none off new recorded =
                    let r = laws.records h2 mid new shelf n.vol edits next refl goes.keeps (own_mid config) none recorded in
                    has_done see (IsPrepared n) (PrepareStops n) (PrepareWants n) (at shelf h) (at shelf (with_group h new)) r.keeps
                    (λ m is. let x = r.moments (called m is) (called_is m is) in (
                      x.then,
                      x.is,
                      later_trans m.counts (called m is).counts x.then.counts (called_later m is) x.after,
                      prepared m is x.writing x.config_is x.change x.then x.committed x.after x.then (subst (λ b. MatchBool b (IsRelogged n.vol (λ plexes later. later ≡ plexes ++ log_names next.config gm.good n.vol) x.then x.then) (x.then ≡ x.then)) (sym (runs_is m is ∙ off)) refl),
                    ))
                    (faults_trans (scene see (at shelf h)) (scene see (at shelf h2)) (scene see (at shelf (with_group h new))) faults2 r.faults)

                -- it runs, and goes on with the log
                joined_goes : runs ≡ true → (new : Imported P ghosts) → RecordGoes see shelf h2 new (JoinsAt see shelf (with_group h2 new) n.vol edits next.config (log_names next.config (good_of see g) n.vol)) → GoesTo (Ok tt) (with_group h new)
                joined_goes on new r =
                    has_done see (IsPrepared n) (PrepareStops n) (PrepareWants n) (at shelf h) (at shelf (with_group h new)) r.keeps
                    (λ m is. let x = r.moments (called m is) (called_is m is) in (
                      x.then,
                      x.is,
                      later_trans m.counts (called m is).counts x.then.counts (called_later m is) x.after,
                      prepared m is x.writing x.config_is x.change x.recorded x.committed (subst (AreLater (called m is).counts) x.counts x.after) x.then
                          (subst (λ b. MatchBool b (IsRelogged n.vol (λ plexes later. later ≡ plexes ++ log_names next.config gm.good n.vol) x.recorded x.then) (x.then ≡ x.recorded)) (sym (runs_is m is ∙ on))
                          (record { volume = x.before; was = x.was; plexes = x.plexes; lies = x.lay; later = x.plexes_then; goes = x.goes; world = x.world; counts = x.counts })),
                    ))
                    (faults_trans (scene see (at shelf h)) (scene see (at shelf h2)) (scene see (at shelf (with_group h new))) faults2 r.faults)

          -- ---- it could not be made

          unmade_by : (stop : Stop) (new : Imported P ghosts) → EndsUnmade see v next stop ready new → GoesTo (Err stop) (with_group h new)
          unmade_by stop new e =
              let x = laws.unmade h1 ready new shelf next.config n.vol e.later alike refl keeps1 (next_is e.later e.of) stop e.unmade in
              by stop x.0 x.1
            where
              by : (s : Stop) (goes : LogGoes see shelf h1 next.config n.vol ready new) → EndsUnmadeFor see shelf h1 next.config n.vol ready new goes s → GoesTo (Err s) (with_group h new)
              by stops.OutOfMemory goes why = called_wants new goes
              by (stops.Ended end) goes why =
                  has_ended see (IsPrepared n) (PrepareStops n) (PrepareWants n) (at shelf h) (at shelf (with_group h new)) end goes.keeps
                  (λ m is. (
                    called new goes m is,
                    called_is new goes m is,
                    called_later new goes m is,
                    stops_in m (called new goes m is) end is (inr (inl (record {
                      volume = v;
                      next = next.config;
                      edits = edits;
                      logs = logs_at m is;
                      started = filled;
                      log = touched new goes m is;
                      cause = subst (λ (w : Group). PassHasCause (by_config next.config w) n.vol m.counts (called new goes m is).counts end) same_group (why.cause m (moment1 m is));
                    }))),
                  ))
                  (faults2 new goes)
                  (blamed_later end (scene see (at shelf h)) (scene see (at shelf h1)) (scene see (at shelf (with_group h new))) faults1 why.blamed)

          -- ---- it was made

          made_of : (result : Result (Unit {0}) Stop) (new : Imported P ghosts) (e : MakesAndRecords see v next result ready new) →
              (goes : LogGoes see shelf h1 next.config n.vol ready e.mid) × ((m : Moment) (is : IsMoment see (at shelf h1) m) → IsLogWritten (seen_group see ready) next.config n.vol m (goes.then m is))
          made_of result new e = laws.made h1 ready e.mid shelf next.config n.vol e.later e.layouts alike refl keeps1 (next_is e.later e.of) e.makes

          config_mid : (mid : Imported P ghosts) → SameButStill ready mid → mid.config ≡ g.config
          config_mid mid same = ap (λ (x : Imported P ghosts). x.config) same.group ∙ parts.config

          running_mid : (mid : Imported P ghosts) → SameButStill ready mid → running_at mid.public n.vol ≡ running_at g.public n.vol
          running_mid mid same = ap (λ r. get (slice_cmp nat_cmp) r n.vol) (same.running ∙ parts.running)

          runs_ready : is_running ready n.vol ≡ runs
          runs_ready = ap (λ r. is_some (get (slice_cmp nat_cmp) r n.vol)) parts.running

          ready_ends : (result : Result (Unit {0}) Stop) (new : Imported P ghosts) → FilledEnds see v next result ready new → GoesTo result (with_group h new)
          ready_ends (Err stop) new (inl e) = unmade_by stop new e
          ready_ends (Err stop) new (inr e) =
              let x = made_of (Err stop) new e in
              unrecorded_by e.mid x.0 x.1 (config_mid e.mid e.makes.same) stop new e.records
          ready_ends (Ok u) new e = by runs refl
            where
              x : (goes : LogGoes see shelf h1 next.config n.vol ready e.makes.mid) × ((m : Moment) (is : IsMoment see (at shelf h1) m) → IsLogWritten (seen_group see ready) next.config n.vol m (goes.then m is))
              x = made_of (Ok tt) e.recorded e.makes

              joins_by : (b : Bool) → runs ≡ b → MatchBool b (IsLogJoined see v.name e.makes.layouts e.recorded new) (new ≡ e.recorded)
              joins_by b is = subst (λ y. MatchBool y (IsLogJoined see v.name e.makes.layouts e.recorded new) (new ≡ e.recorded)) (ap (is_running ready) named ∙ runs_ready ∙ is) e.joins

              by : (b : Bool) → runs ≡ b → GoesTo (Ok tt) (with_group h new)
              by true is =
                  joined_goes e.makes.mid x.0 x.1 (config_mid e.makes.mid e.makes.makes.same) is new
                  (facts.joins filled is (subst (λ y. IsPoweredIn see y g) named power) shelf (h2 e.makes.mid x.0) e.makes.mid refl x.0.keeps ready parts e.makes.later e.makes.of e.makes.layouts e.makes.makes e.recorded new e.makes.records (joins_by true is))
              by false is =
                  subst (λ (y : Imported P ghosts). GoesTo (Ok tt) (with_group h y)) (sym (joins_by false is))
                  (still_goes e.makes.mid x.0 x.1 (config_mid e.makes.mid e.makes.makes.same) (running_mid e.makes.mid e.makes.makes.same ∙ none_of (running_at g.public n.vol) is) is e.recorded e.makes.records)

        -- ---- however it ended

        planned_ends : (result : Result (Unit {0}) Stop) (new : Imported P ghosts) → PlannedEnds see v next result g new → GoesTo result (with_group h new)
        planned_ends result new e = by (is_new v.state) refl e
          where
            by : (b : Bool) → is_new v.state ≡ b → MatchBool b (RecordEnds see next result g new) (ReadyEnds see v next result g new) → GoesTo result (with_group h new)
            by true fresh r = empty_ends fresh result new r
            by false filled r = ready_ends filled r.power r.ready r.parts result new r.ends

      stopped_ends : (result : Result (Unit {0}) Stop) (new : Imported P ghosts) → IsPrepareStopped see n result g new → GoesTo result (with_group h new)
      stopped_ends (Ok u) new e = absurd e
      stopped_ends (Err stop) new (inl (same, is)) = refused_by stop new same is
      stopped_ends (Err stop) new (inr (wants, parts)) = subst (λ s. GoesTo (Err s) (with_group h new)) (sym wants) (parted_wants new parts)

      pub prepare_goes : ((v : Vol) (next : NextConfig) (planned : IsPlannedPrepare see n v next g) → PlanFacts see g n v next planned) → (result : Result (Unit {0}) Stop) (new : Imported P ghosts) → PrepareEnds see n result g new → GoesTo result (with_group h new)
      prepare_goes facts result new (inl e) = stopped_ends result new e
      prepare_goes facts result new (inr e) = planned_ends e.volume e.next e.planned (facts e.volume e.next e.planned) result new e.ends

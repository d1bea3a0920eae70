-- A job begins and goes on, by the clauses of `next` and of a device call.
use Rattle.std.proofs.Common.{◌≡◌, ℕ, ◌+◌, ◌*◌, ◌<◌, Bool, true, false, refl, sym, ◌∙◌, ap, subst, inl, inr, arith, ◌⊎◌, List, [], ◌∷◌, ◌++◌, length, Option, Some, None, Result, Ok}
use Rattle.vx_base.specs.Blocks.{Contents, block_at, blocks_in}
use Rattle.vx_life.specs.Entry.{Entry}
use Rattle.vx_life.specs.Candidates.{Any}
use Rattle.vx_mask.proofs.MaskLemmas.{has-lt}
use Rattle.std.specs.Prelude.{IsSome}
use Rattle.vx_core.specs.declared.stage.Job.{Job}
use Rattle.vx_core.specs.declared.stage.Event.{Event}
use Rattle.vx_core.specs.declared.stage.Act.{Act}
use Rattle.vx_core.specs.declared.stage.Step.{Step}
use Rattle.vx_core.specs.declared.stage.Work.{Work}
use Rattle.vx_core.specs.declared.stage.Phase.{Phase}
use Rattle.vx_core.specs.declared.stage.Stage.{Stage}
use Rattle.vx_core.specs.declared.stage.Job.TheVariants.{Read as ReadJob, Write as WriteJob, Copy as CopyJob, Settle, Clear}
use Rattle.vx_core.specs.declared.stage.Event.TheVariants.{Begin, Marked, MarkFailed, Unmarked, UnmarkFailed, Wrote, WriteFailed, Got, ReadFailed, Cut}
use Rattle.vx_core.specs.declared.stage.Act.TheVariants.{Mark, Unmark, WriteCall, WriteRegion, ReadCall, ReadRegion, Done, Skipped, Fault, Lost}
use Rattle.vx_core.specs.declared.stage.Step.TheVariants.{Mark as AtMark, Write as AtWrite, MarkFailed as AtMarkFailed, Find as AtFind, Equal as AtEqual, Copy as AtCopy, Unmark as AtUnmark, Read as AtRead}
use Rattle.vx_core.specs.declared.stage.Phase.TheVariants.{Settled, Unsettled, Dead, Busy}
use Rattle.vx_core.specs.Table.{current, act_at, read_act, busy, answered, begun, goes_on, next_of, IsNamed, NamesAct}
use Rattle.vx_core.specs.History.{Pending}
use Rattle.vx_core.specs.Region.{Around, Disks, Fixed, RegionState, CallOf, FitsIn, Answers, ReadGives, MayAnswer, entries_after, pending_after, last_at}
use Rattle.vx_core.specs.Schedule.{Happening, Comes, Elsewhere, happens, IsIdle}
use Rattle.vx_cell.specs.Calls.{Stands, HasRun}
use Rattle.vx_core.specs.Recovery.{region_after}
use Rattle.vx_core.specs.Progress.{steps_left, ProgressFrom, KeepsForm}
use Rattle.vx_core.specs.Form.{IsFormed, MayCome}
use Rattle.vx_core.specs.Follow.{AsksPossible, FollowsFrom, FailsFrom, ReadsFrom, IsFailure, IsReadDone, SameMasks, Rewrites, IsPossible, PossibleIn}
use Rattle.vx_core.specs.Causes.{Faults, IsPlain, Blames, CausesFrom}
use Rattle.vx_core.proofs.PossibleLaws.{possible_in}
use Rattle.vx_core_laws.specs.Exact.{AreWell, IsWell}
use Rattle.vx_core_laws.specs.Course.{EachFits}
use Rattle.vx_core_laws.proofs.Courses.{after_both, fits_both}
use Rattle.vx_marks.specs.Log.{LogSeen, KeepsLog, OnMarks}
use Rattle.vx_runs.specs.declared.run.RunFault.{RunFault}
use Rattle.vx_cell.specs.declared.fault.Place.{Place}
use Rattle.vx_cell.specs.declared.fault.Place.TheVariants.{Data, Log}
use Rattle.vx_cell.specs.declared.acts.Answered.{Answered}
use Rattle.vx_cell.specs.Plexes.{PlexSeen, contents_of, holds, AllTell, KeepPlexes, ChangesPlex}
use Rattle.vx_cell.specs.Acts.{Bytes, IsRange, IsAskable, IsPlaced, HasRisen, LogCause, earlier, Carries, IsPlexRead, read_event}
use Rattle.vx_cell.specs.Region.{RegionSeen, IsWhole, IsLogOf, SameLogFaults, Tells, TidiesOthers, disks_of, state_of}
use Rattle.vx_cell.specs.Running.{Caller, values_at, call_of, IsCallable, plex_fails, log_fails, IsBacked, act_of, AreBacked, GoesBy, start_last, start_call, Allows, IsMarking, MayRun, Begins, RunsIn, SameBytes, HasBlame, IsRunning}
use Rattle.vx_cell.proofs.Changes.{keep_same, keep_more, keep_tell, keep_cover, keep_cut, keep_differ, holds_alike, rose_now, rose_still, at_now, at_still}
use Rattle.vx_cell.proofs.Blocks.{read_same, read_blocks}
use Rattle.vx_cell.proofs.LogMarks.{carried_answers, carried_gives, Fit}
use Rattle.vx_cell.proofs.LogLaws.{log_same, log_more, others_same, others_more, carried_plexes, carried_log, carried_others, carried_tells, carried_may, carried_shows, with_failures, has_failed, or_cases}
use Rattle.vx_cell.proofs.Measure.{phase_steps}
use Rattle.vx_cell.proofs.Answers.{called_none, called_more}
use Rattle.vx_cell.proofs.Rises.{some_from_fits}
use Rattle.vx_cell.specs.Running.{settles_in, MayWrite, IsQuiet}
use Rattle.vx_cell.proofs.WriteScope.{same_writes, more_writes, carried_writes, stays_quiet, quiet_work as quiet_step, form_work, standing_quiet}
use Rattle.vx_cell.proofs.Scratch.{got_ok, scratch_after}
use Rattle.vx_cell.proofs.Work.{call_fits, no_faults, no_true, runs_from, lost_by_cut, quiet, still, may_come, follows_work, runs_work, possible_work, act_work, blames_work, moved_callable, moved_call, askable, fit_for, full_scratch, same_formed, log_still, log_now, some_steps, falls_to, still_current}

-- the log of the region stays its log
pub same_log : (s t : Stage) → SameMasks s t → (log : LogSeen) (region : ℕ) → IsLogOf log region s → IsLogOf log region t
same_log s t same log region is =
    record { there = is.there; known = is.known; maps = rw (same.0, same.1, same.2) is.maps; dirty = is.dirty }

-- ---- a job begins

may_begin : (s : Stage) (phase : Phase) (job : Job) → Begins phase → MayRun job phase → MayCome s phase (Begin job)
may_begin s Settled job fresh may = tt
may_begin s Unsettled job fresh may = tt
may_begin s Dead job fresh may = absurd may
may_begin s (Busy w) job fresh may = absurd fresh

begun_runs : (s : Stage) (phase : Phase) (job : Job) (x : Stage × Act) (old : RegionSeen) (size : ℕ) (ps : List PlexSeen) (scratch : List ℕ) → Begins phase → MayRun job phase → FollowsFrom s phase (Begin job) x →
    RunsIn job old size ps scratch x.1 x.0.phase × SameMasks s x.0
begun_runs s Settled job x old size ps scratch fresh may follows = (runs_from job AtMark (Begin job) 0 x.1 x.0.phase old size ps scratch (λ r. absurd r) follows.0, follows.1)
begun_runs s Unsettled job x old size ps scratch fresh may follows = (runs_from job AtFind (Begin job) 0 x.1 x.0.phase old size ps scratch (λ r. absurd r) follows.0, follows.1)
begun_runs s Dead job x old size ps scratch fresh may follows = absurd may
begun_runs s (Busy w) job x old size ps scratch fresh may follows = absurd fresh

begun_blames : (s : Stage) (phase : Phase) (job : Job) (x : Stage × Act) → Begins phase → MayRun job phase → IsPlain job → CausesFrom s phase (Begin job) x → Blames x (current s) no_faults
begun_blames s Settled job x fresh may plain causes = causes no_faults plain
begun_blames s Unsettled job x fresh may plain causes = causes no_faults plain
begun_blames s Dead job x fresh may plain causes = absurd may
begun_blames s (Busy w) job x fresh may plain causes = absurd fresh

not_lost_begun : (s : Stage) (phase : Phase) (job : Job) (x : Stage × Act) → Begins phase → MayRun job phase → FollowsFrom s phase (Begin job) x → NamesAct x → x.1 ≡ Lost → ⊥
not_lost_begun s Settled job x fresh may follows names lost = let e : Begin job ≡ Cut = lost_by_cut job AtMark (Begin job) 0 x.0 x.1 x.0.phase follows.0 names lost in cc
not_lost_begun s Unsettled job x fresh may follows names lost = let e : Begin job ≡ Cut = lost_by_cut job AtFind (Begin job) 0 x.0 x.1 x.0.phase follows.0 names lost in cc
not_lost_begun s Dead job x fresh may follows names lost = absurd may
not_lost_begun s (Busy w) job x fresh may follows names lost = absurd fresh

begun_quiet : (s : Stage) (phase : Phase) (job : Job) (x : Stage × Act) → Begins phase → MayRun job phase → FollowsFrom s phase (Begin job) x → settles_in phase ≡ false → IsQuiet x.0.phase
begun_quiet s Settled job x fresh may follows quiet = stays_quiet job AtMark (Begin job) 0 x.1 x.0.phase follows.0 refl
begun_quiet s Unsettled job x fresh may follows quiet = cc
begun_quiet s Dead job x fresh may follows quiet = absurd may
begun_quiet s (Busy w) job x fresh may follows quiet = absurd fresh

no_read_begun : (s : Stage) (phase : Phase) (job : Job) (x : Stage × Act) → Begins phase → MayRun job phase → ReadsFrom s phase (Begin job) x → job ≡ ReadJob → x.1 ≡ Done → ⊥
no_read_begun s Settled ReadJob x fresh may reads is done = reads done
no_read_begun s Unsettled ReadJob x fresh may reads is done = reads done
no_read_begun s Dead ReadJob x fresh may reads is done = absurd may
no_read_begun s (Busy w) ReadJob x fresh may reads is done = absurd fresh
no_read_begun s phase WriteJob x fresh may reads is done = cc
no_read_begun s phase (CopyJob k) x fresh may reads is done = cc
no_read_begun s phase Settle x fresh may reads is done = cc
no_read_begun s phase Clear x fresh may reads is done = cc

-- where no job answers Fault, no place is wanted
pub no_blame : (act : Act) (first : Option Place) → (act ≡ Fault → IsSome first) → HasBlame act first
no_blame Fault None some = let e : IsSome {T = Place} None = some refl in cc
no_blame Fault (Some place) some = tt
no_blame (Mark b) first some = tt
no_blame (Unmark b) first some = tt
no_blame (WriteCall k) first some = tt
no_blame (WriteRegion k) first some = tt
no_blame (ReadCall b) first some = tt
no_blame (ReadRegion k) first some = tt
no_blame Done first some = tt
no_blame Skipped first some = tt
no_blame Lost first some = tt

fits_begin : (s : Stage) (phase : Phase) (job : Job) (disks : Disks) (fixed : Fixed) (entries : List Entry) (n : ℕ) (call : Pending) (values : Contents) → Begins phase → MayRun job phase → CallOf job call →
    Allows phase (start_last phase job n) call fixed entries →
    FitsIn s phase (record { disks = disks; fixed = fixed; entries = entries; pending = start_call phase call; last = start_last phase job n }) (Begin job) disks call values
fits_begin s Settled job disks fixed entries n call values fresh may of allows = (refl, of, allows)
fits_begin s Unsettled job disks fixed entries n call values fresh may of allows = (refl, of, allows)
fits_begin s Dead job disks fixed entries n call values fresh may of allows = absurd may
fits_begin s (Busy w) job disks fixed entries n call values fresh may of allows = absurd fresh

-- the number is drawn
drawn : (phase : Phase) (job : Job) (io : Bytes) (r : RegionSeen) (who : Caller) (call : Pending) → Begins phase → last_at (start_last phase job r.number) (Begin job) (call_of job io r who) ≡ r.number
drawn Settled ReadJob io r who call fresh = refl
drawn Settled WriteJob io r who call fresh = refl
drawn Settled (CopyJob k) io r who call fresh = refl
drawn Settled Settle io r who call fresh = refl
drawn Settled Clear io r who call fresh = refl
drawn Unsettled ReadJob io r who call fresh = refl
drawn Unsettled WriteJob io r who call fresh = refl
drawn Unsettled (CopyJob k) io r who call fresh = refl
drawn Unsettled Settle io r who call fresh = refl
drawn Unsettled Clear io r who call fresh = refl
drawn Dead ReadJob io r who call fresh = refl
drawn Dead WriteJob io r who call fresh = refl
drawn Dead (CopyJob k) io r who call fresh = refl
drawn Dead Settle io r who call fresh = refl
drawn Dead Clear io r who call fresh = refl
drawn (Busy w) job io r who call fresh = absurd fresh

module _ (s : Stage) (region start size number epoch : ℕ) (ps : List PlexSeen) (log : LogSeen) where
  abbrev pub seen_as : Stage → RegionSeen
  seen_as t = record { stage = t; region = region; start = start; size = size; number = number; epoch = epoch; plexes = ps; log = log }

  -- the state once the job was begun
  begun_state : (job : Job) (io : Bytes) (x : Stage × Act) (who : Caller) (fixed : Fixed) (entries : List Entry) → Begins s.phase → x ≡ next_of s (Begin job) →
      happens (state_of (seen_as s) fixed entries (start_call s.phase (call_of job io (seen_as s) who)) (start_last s.phase job number))
      (Comes (Begin job) (disks_of (seen_as s)) (call_of job io (seen_as s) who) (values_at (start + io.at) io.into))
      ≡ state_of (seen_as x.0) fixed (entries_after x.1 (call_of job io (seen_as s) who) (values_at (start + io.at) io.into) entries) (pending_after x.1 (call_of job io (seen_as s) who)) number
  begun_state job io x who fixed entries fresh table =
      let call = call_of job io (seen_as s) who in
      let values = values_at (start + io.at) io.into in
      ap (λ (n : ℕ). record {
        stage = (next_of s (Begin job)).0;
        around = record {
          disks = disks_of (seen_as s);
          fixed = fixed;
          entries = entries_after (next_of s (Begin job)).1 call values entries;
          pending = pending_after (next_of s (Begin job)).1 call;
          last = n;
        };
      }) (drawn s.phase job io (seen_as s) who call fresh)
      ∙ ap (λ (y : Stage × Act). state_of (seen_as y.0) fixed (entries_after y.1 call values entries) (pending_after y.1 call) number) (sym table)

  pub running_begins : (job : Job) (io : Bytes) (x : Stage × Act) → Begins s.phase → MayRun job s.phase → IsWhole (seen_as s) → NamesAct x → KeepsForm s (Begin job) x → AsksPossible s (Begin job) x →
      CausesFrom s s.phase (Begin job) x → FollowsFrom s s.phase (Begin job) x → FailsFrom s (Begin job) x → ReadsFrom s s.phase (Begin job) x → x ≡ next_of s (Begin job) →
      IsRunning job io (seen_as s) (seen_as x.0) None x.1 io
  running_begins job io x fresh may whole names form possible causes follows fails reads table =
      let come = may_begin s s.phase job fresh may in
      let formed = form (holds ps) whole.formed come in
      let runs = begun_runs s s.phase job x (seen_as s) size ps io.scratch fresh may follows in
      record {
        whole = record {
          formed = formed.0;
          differ = whole.differ;
          cover = whole.cover;
          some = whole.some;
          fits = whole.fits;
          logged = λ logged. same_log s x.0 runs.1 log region (whole.logged (sym runs.1.3 ∙ logged));
        };
        kept = record { region = refl; start = refl; size = refl; epoch = refl; plexes = keep_same ps; log = log_same log; others = others_same region log.told };
        number = refl;
        masks = runs.1;
        named = names;
        asks = possible (holds ps) whole.formed come;
        runs = runs.0;
        bytes = record { same_at = refl; same_from = refl; same_into = refl; same_scratch = refl };
        tells = λ told. told;
        goes = λ told who. (
          Comes (Begin job) (disks_of (seen_as s)) (call_of job io (seen_as s) who) (values_at (start + io.at) io.into) ∷ [],
          record {
            fits = λ fixed entries allows.
                (fits_begin s s.phase job (disks_of (seen_as s)) fixed entries number (call_of job io (seen_as s) who) (values_at (start + io.at) io.into) fresh may (call_fits job io (seen_as s) who) allows, tt);
            ends = λ fixed entries. begun_state job io x who fixed entries fresh table;
            backed = (begin_backed (act_of s s.phase) job (seen_as s) (seen_as x.0), tt);
          },
        );
        causes = λ plain begins. (no_faults, record { plexes = λ k e. no_true e; log = λ e. no_true e }, begun_blames s s.phase job x fresh may plain causes);
        cut = λ lost. absurd (not_lost_begun s s.phase job x fresh may follows names lost);
        quiet = λ quiet. begun_quiet s s.phase job x fresh may follows quiet;
        writes = same_writes (MayWrite job (settles_in s.phase)) ps;
        calls = called_none s job x table;
        rose = tt;
        well = λ fault lost copy device. refl;
        courses = λ fault lost told who. (tt, tt);
        blames = no_blame x.1 None (λ fault. absurd (fails (holds ps) whole.formed come fault));
        gives = λ done is told. absurd (no_read_begun s s.phase job x fresh may reads is done);
      }
    where
      begin_backed : (act : Act) (job : Job) (old new : RegionSeen) → IsBacked act (Begin job) old new
      begin_backed (Mark b) job old new = record { plexes = λ k e. cc; log = λ e. cc; cut = λ e. cc }
      begin_backed (Unmark b) job old new = record { plexes = λ k e. cc; log = λ e. cc; cut = λ e. cc }
      begin_backed (WriteCall k) job old new = record { plexes = λ k e. cc; log = λ e. cc; cut = λ e. cc }
      begin_backed (WriteRegion k) job old new = record { plexes = λ k e. cc; log = λ e. cc; cut = λ e. cc }
      begin_backed (ReadCall b) job old new = record { plexes = λ k e. cc; log = λ e. cc; cut = λ e. cc }
      begin_backed (ReadRegion k) job old new = record { plexes = λ k e. cc; log = λ e. cc; cut = λ e. cc }
      begin_backed Done job old new = record { plexes = λ k e. cc; log = λ e. cc; cut = λ e. cc }
      begin_backed Skipped job old new = record { plexes = λ k e. cc; log = λ e. cc; cut = λ e. cc }
      begin_backed Fault job old new = record { plexes = λ k e. cc; log = λ e. cc; cut = λ e. cc }
      begin_backed Lost job old new = record { plexes = λ k e. cc; log = λ e. cc; cut = λ e. cc }

  -- ---- a job that stands before a mark goes on

  again : (w : Work) (step : Step) (job : Job) → answered s w step (Begin job) ≡ busy s w
  again w AtMark job = refl
  again w AtWrite job = refl
  again w AtMarkFailed job = refl
  again w AtFind job = refl
  again w AtEqual job = refl
  again w AtCopy job = refl
  again w AtUnmark job = refl
  again w AtRead job = refl

  named_again : (w : Work) (job : Job) → s.phase ≡ Busy w → next_of s (Begin job) ≡ (s, act_at s w w.step)
  named_again w job is =
      ap (λ (p : Phase). begun s p job) is ∙ again w w.step job ∙ ap (λ (p : Phase). (record s { phase = p }, act_at s w w.step)) (sym is)

  not_rewriting : (step : Step) → IsMarking step → Rewrites step → ⊥
  not_rewriting AtMark marks rewrites = rewrites
  not_rewriting AtMarkFailed marks rewrites = rewrites
  not_rewriting AtUnmark marks rewrites = rewrites
  not_rewriting AtWrite marks rewrites = marks
  not_rewriting AtFind marks rewrites = marks
  not_rewriting AtEqual marks rewrites = marks
  not_rewriting AtCopy marks rewrites = marks
  not_rewriting AtRead marks rewrites = marks

  standing_runs : (w : Work) (phase : Phase) (job : Job) (scratch : List ℕ) (act : Act) → phase ≡ Busy w → w.job ≡ job → IsMarking w.step → RunsIn job (seen_as s) size ps scratch act phase
  standing_runs w (Busy v) job scratch act is job_is marks =
      subst (λ (u : Work). RunsIn job (seen_as s) size ps scratch act (Busy u)) (busy_same v w is) (job_is, λ rewrites. absurd (not_rewriting w.step marks rewrites))
    where
      busy_same : (v w : Work) → Busy v ≡ Busy w → w ≡ v
      busy_same v w e = cc
  standing_runs w Settled job scratch act is job_is marks = cc
  standing_runs w Unsettled job scratch act is job_is marks = cc
  standing_runs w Dead job scratch act is job_is marks = cc

  not_an_end : (w : Work) (act : Act) → IsPossible s (holds ps) w.job w.source (act_at s w w.step) → act_at s w w.step ≡ act → IsPossible s (holds ps) w.job w.source act
  not_an_end w act can is = subst (λ (x : Act). IsPossible s (holds ps) w.job w.source x) is can

  pub running_stands : (job : Job) (io : Bytes) (w : Work) → s.phase ≡ Busy w → w.job ≡ job → IsMarking w.step → IsWhole (seen_as s) → IsRunning job io (seen_as s) (seen_as s) None (act_at s w w.step) io
  running_stands job io w is job_is marks whole =
      let named : IsNamed s s.phase (act_at s w w.step) = subst (λ (p : Phase). IsNamed s p (act_at s w w.step)) (sym is) refl in
      let asks : PossibleIn s (holds ps) s.phase (act_at s w w.step) = possible_in s (holds ps) s.phase (act_at s w w.step) whole.formed named in
      let can : IsPossible s (holds ps) w.job w.source (act_at s w w.step) = possible_work s (holds ps) s.phase w (act_at s w w.step) is asks in
      record {
        whole = whole;
        kept = record { region = refl; start = refl; size = refl; epoch = refl; plexes = keep_same ps; log = log_same log; others = others_same region log.told };
        number = refl;
        masks = (refl, refl, refl, refl);
        named = named;
        asks = asks;
        runs = standing_runs w s.phase job io.scratch (act_at s w w.step) is job_is marks;
        bytes = record { same_at = refl; same_from = refl; same_into = refl; same_scratch = refl };
        tells = λ told. told;
        goes = λ told who.
            let call = call_of job io (seen_as s) who in (
              [],
              record {
                fits = λ fixed entries allows. tt;
                ends = λ fixed entries.
                    let q = quiet s w w.step call (values_at (start + io.at) io.into) entries in
                    ap (λ (p : Phase). state_of (seen_as s) fixed entries (start_call p call) (start_last p job number)) is
                    ∙ ap (λ (c : Pending). state_of (seen_as s) fixed entries c number) (sym q.1)
                    ∙ ap (λ (es : List Entry). state_of (seen_as s) fixed es (pending_after (act_at s w w.step) call) number) (sym q.0);
                backed = tt;
              },
            );
        causes = λ plain begins. absurd (subst (λ (p : Phase). Begins p) is begins);
        cut = λ lost. absurd (not_an_end w Lost can lost);
        quiet = λ quiet. standing_quiet s.phase quiet;
        writes = same_writes (MayWrite job (settles_in s.phase)) ps;
        calls = called_none s job (s, act_at s w w.step) (sym (named_again w job is));
        rose = tt;
        well = λ fault lost copy device. refl;
        courses = λ fault lost told who. tt;
        blames = no_blame (act_at s w w.step) None (λ fault. absurd (not_an_end w Fault can fault));
        gives = λ done read told. absurd (not_an_end w Done can done);
      }

  starts_in : (phase : Phase) (job : Job) (io : Bytes) (x : Stage × Act) → s.phase ≡ phase → MayRun job phase → IsWhole (seen_as s) → NamesAct x → KeepsForm s (Begin job) x → AsksPossible s (Begin job) x →
      CausesFrom s s.phase (Begin job) x → FollowsFrom s s.phase (Begin job) x → FailsFrom s (Begin job) x → ReadsFrom s s.phase (Begin job) x → x ≡ next_of s (Begin job) →
      IsRunning job io (seen_as s) (seen_as x.0) None x.1 io
  starts_in Settled job io x is may whole names form possible causes follows fails reads table =
      running_begins job io x (subst (λ (p : Phase). Begins p) (sym is) tt) (subst (λ (p : Phase). MayRun job p) (sym is) may) whole names form possible causes follows fails reads table
  starts_in Unsettled job io x is may whole names form possible causes follows fails reads table =
      running_begins job io x (subst (λ (p : Phase). Begins p) (sym is) tt) (subst (λ (p : Phase). MayRun job p) (sym is) may) whole names form possible causes follows fails reads table
  starts_in Dead job io x is may whole names form possible causes follows fails reads table = absurd may
  starts_in (Busy w) job io x is may whole names form possible causes follows fails reads table =
      subst (λ (y : Stage × Act). IsRunning job io (seen_as s) (seen_as y.0) None y.1 io) (sym (table ∙ named_again w job is)) (running_stands job io w is may.0 may.1 whole)

  pub running_starts : (job : Job) (io : Bytes) (x : Stage × Act) → MayRun job s.phase → IsWhole (seen_as s) → NamesAct x → KeepsForm s (Begin job) x → AsksPossible s (Begin job) x →
      CausesFrom s s.phase (Begin job) x → FollowsFrom s s.phase (Begin job) x → FailsFrom s (Begin job) x → ReadsFrom s s.phase (Begin job) x → x ≡ next_of s (Begin job) →
      IsRunning job io (seen_as s) (seen_as x.0) None x.1 io
  running_starts job io x may whole names form possible causes follows fails reads table = starts_in s.phase job io x refl may whole names form possible causes follows fails reads table

-- ---- a job goes on

fails_work : (s : Stage) (held : ℕ → Bool) (event : Event) (x : Stage × Act) → IsFormed s s.phase held → MayCome s s.phase event → FailsFrom s event x → x.1 ≡ Fault → IsFailure event
fails_work s held event x formed may fails fault = fails held formed may fault

reads_work : (s : Stage) (phase : Phase) (w : Work) (act : Act) (event : Event) (x : Stage × Act) (held : ℕ → Bool) → phase ≡ Busy w → IsNamed s phase act → MayAnswer act event →
    IsFormed s phase held → ReadsFrom s phase event x → w.job ≡ ReadJob → x.1 ≡ Done → IsReadDone w.step event s.bits x.0.bits
reads_work s (Busy v) w act event x held is named may formed reads job done =
    let same : v ≡ w = cc in
    subst (λ (u : Work). IsReadDone u.step event s.bits x.0.bits) same (reads held formed (subst (λ (y : Act). MayAnswer y event) named may) (ap (λ (u : Work). u.job) same ∙ job) done)
reads_work s Settled w act event x held is named may formed reads job done = cc
reads_work s Unsettled w act event x held is named may formed reads job done = cc
reads_work s Dead w act event x held is named may formed reads job done = cc

fits_answer : (s : Stage) (phase : Phase) (w : Work) (act : Act) (event : Event) (a : Around) (after : Disks) (call : Pending) (values : Contents) →
    phase ≡ Busy w → IsNamed s phase act → Answers a.pending w.source act event a.disks after → ReadGives a act event values → FitsIn s phase a event after call values
fits_answer s (Busy v) w act event a after call values is named answers gives =
    let same : w ≡ v = cc in (
      subst (λ (x : Act). Answers a.pending v.source x event a.disks after) named (subst (λ (u : Work). Answers a.pending u.source act event a.disks after) same answers),
      subst (λ (x : Act). ReadGives a x event values) named gives,
    )
fits_answer s Settled w act event a after call values is named answers gives = cc
fits_answer s Unsettled w act event a after call values is named answers gives = cc
fits_answer s Dead w act event a after call values is named answers gives = cc

-- ---- courses grow

-- the stage after a course
unfoldable pub stage_after : List Happening → Stage → Stage
stage_after [] s = s
stage_after (Comes event now call values ∷ hs) s = stage_after hs (next_of s event).0
stage_after (Elsewhere marks ∷ hs) s = stage_after hs s

pub course_stage : (course : List Happening) (r : RegionState) → (region_after course r).stage ≡ stage_after course r.stage
unfolding stage_after
course_stage [] r = refl
course_stage (Comes event now call values ∷ hs) r = course_stage hs (happens r (Comes event now call values))
course_stage (Elsewhere marks ∷ hs) r = course_stage hs (happens r (Elsewhere marks))

backed_now : (act : Act) (event : Event) (old now new : RegionSeen) → KeepPlexes now.plexes new.plexes → KeepsLog now.log new.log → IsBacked act event old now → IsBacked act event old new
backed_now act event old now new plexes log h =
    record {
      plexes = λ k e. rose_still k old.plexes now.plexes new.plexes (h.plexes k e) plexes;
      log = λ e. log_still old.log now.log new.log (h.log e) log;
      cut = λ e. elim (h.cut e) [ inl piece ↦ inl (keep_cut now.plexes new.plexes plexes piece) | inr cut ↦ inr (log.cut cut) ];
    }

pub backed_more : (course : List Happening) (s : Stage) (old now new : RegionSeen) → KeepPlexes now.plexes new.plexes → KeepsLog now.log new.log → AreBacked course s old now → AreBacked course s old new
backed_more [] s old now new plexes log h = tt
backed_more (Comes event disks call values ∷ hs) s old now new plexes log h = (backed_now (act_of s s.phase) event old now new plexes log h.0, backed_more hs (next_of s event).0 old now new plexes log h.1)
backed_more (Elsewhere marks ∷ hs) s old now new plexes log h = absurd h

backed_add : (course : List Happening) (s : Stage) (old new : RegionSeen) (event : Event) (disks : Disks) (call : Pending) (values : Contents) → AreBacked course s old new →
    IsBacked (act_of (stage_after course s) (stage_after course s).phase) event old new → AreBacked (course ++ (Comes event disks call values ∷ [])) s old new
unfolding stage_after
backed_add [] s old new event disks call values h last = (last, tt)
backed_add (Comes first d c v ∷ hs) s old new event disks call values h last = (h.0, backed_add hs (next_of s first).0 old new event disks call values h.1 last)
backed_add (Elsewhere marks ∷ hs) s old new event disks call values h last = absurd h

-- some history, to tell the stage at the end of a course
pub some_fixed : Fixed
some_fixed = record { held = λ k. false; copies = 0; base = λ k i. []; first = λ k. Any; region = 0; from = 0 }

act_is : (s : Stage) (phase : Phase) (w : Work) (act : Act) → phase ≡ Busy w → IsNamed s phase act → act_of s phase ≡ act
act_is s (Busy v) w act is named = sym named
act_is s Settled w act is named = cc
act_is s Unsettled w act is named = cc
act_is s Dead w act is named = cc

last_still : (event : Event) (job : Job) (io : Bytes) (r : RegionSeen) (who : Caller) → last_at r.number event (call_of job io r who) ≡ r.number
last_still (Begin begun) ReadJob io r who = refl
last_still (Begin begun) WriteJob io r who = refl
last_still (Begin begun) (CopyJob k) io r who = refl
last_still (Begin begun) Settle io r who = refl
last_still (Begin begun) Clear io r who = refl
last_still Marked job io r who = refl
last_still MarkFailed job io r who = refl
last_still Unmarked job io r who = refl
last_still UnmarkFailed job io r who = refl
last_still Wrote job io r who = refl
last_still WriteFailed job io r who = refl
last_still Got job io r who = refl
last_still (ReadFailed k) job io r who = refl
last_still Cut job io r who = refl

pub quiet_work : (s : Stage) (phase : Phase) (w : Work) (act : Act) (call : Pending) (values : Contents) (entries : List Entry) → phase ≡ Busy w → IsNamed s phase act →
    (entries_after act call values entries ≡ entries) × (pending_after act call ≡ call)
quiet_work s (Busy v) w act call values entries is named =
    subst (λ (x : Act). (entries_after x call values entries ≡ entries) × (pending_after x call ≡ call)) (sym named) (quiet s v v.step call values entries)
quiet_work s Settled w act call values entries is named = cc
quiet_work s Unsettled w act call values entries is named = cc
quiet_work s Dead w act call values entries is named = cc

-- one more event, where the region stands with this call under way
module _ (allows : Fixed → List Entry → Type 0) (old now new : RegionSeen) (last : ℕ) (call0 call : Pending) (act : Act) (event : Event) (x : Stage × Act) (values values' : Contents) where
  abbrev pub step : Happening
  step = Comes event (disks_of new) call values'

  pub goes_more : (course : List Happening) → GoesBy allows course old last call0 now (pending_after act call) (entries_after act call values) →
      ((entries : List Entry) → (entries_after act call values entries ≡ entries) × (pending_after act call ≡ call)) →
      act_of now.stage now.stage.phase ≡ act →
      ((fixed : Fixed) (entries : List Entry) → FitsIn now.stage now.stage.phase (state_of now fixed entries call now.number).around event (disks_of new) call values') →
      x ≡ next_of now.stage event → new.stage ≡ x.0 → last_at now.number event call ≡ new.number →
      KeepPlexes now.plexes new.plexes → KeepsLog now.log new.log → IsBacked act event old new →
      GoesBy allows (course ++ (step ∷ [])) old last call0 new (pending_after x.1 call) (entries_after x.1 call values')
  goes_more course g quiet_act act_here fits table stage number plexes log backed =
      let there : (fixed : Fixed) (entries : List Entry) → region_after course (state_of old fixed entries call0 last) ≡ state_of now fixed entries call now.number =
      λ fixed entries. g.ends fixed entries ∙ ap (λ (es : List Entry). state_of now fixed es (pending_after act call) now.number) (quiet_act entries).0 ∙ ap (λ (c : Pending). state_of now fixed entries c now.number) (quiet_act entries).1 in
      record {
        fits = λ fixed entries may.
            fits_both course (step ∷ []) (state_of old fixed entries call0 last) (g.fits fixed entries may)
            (subst (λ (r : RegionState). EachFits (step ∷ []) r) (sym (there fixed entries)) (fits fixed entries, tt));
        ends = λ fixed entries.
            after_both course (step ∷ []) (state_of old fixed entries call0 last)
            ∙ ap (λ (r : RegionState). happens r step) (there fixed entries)
            ∙ ap (λ (c : Pending). record {
              stage = (next_of now.stage event).0;
              around = record { disks = disks_of new; fixed = fixed; entries = entries_after (next_of now.stage event).1 c values' entries; pending = pending_after (next_of now.stage event).1 c; last = last_at now.number event call };
            }) (still event call)
            ∙ ap (λ (y : Stage × Act). record {
              stage = y.0;
              around = record { disks = disks_of new; fixed = fixed; entries = entries_after y.1 call values' entries; pending = pending_after y.1 call; last = last_at now.number event call };
            }) (sym table)
            ∙ ap (λ (t : Stage). record {
              stage = t;
              around = record { disks = disks_of new; fixed = fixed; entries = entries_after x.1 call values' entries; pending = pending_after x.1 call; last = last_at now.number event call };
            }) (sym stage)
            ∙ ap (λ (n : ℕ). state_of new fixed (entries_after x.1 call values' entries) (pending_after x.1 call) n) number;
        backed =
            let at_end : stage_after course old.stage ≡ now.stage = sym (course_stage course (state_of old some_fixed [] call0 last)) ∙ ap (λ (r : RegionState). r.stage) (there some_fixed []) in
            backed_add course old.stage old new event (disks_of new) call values' (backed_more course old.stage old now new plexes log g.backed)
            (subst (λ (a : Act). IsBacked a event old new) (sym (ap (λ (t : Stage). act_of t t.phase) at_end ∙ act_here)) backed);
      }

-- ---- the step

less_steps : (phase after : Phase) (w : Work) → phase ≡ Busy w → ProgressFrom phase after → phase_steps after < phase_steps phase
less_steps Settled after w is progress = cc
less_steps Unsettled after w is progress = cc
less_steps Dead after w is progress = cc
less_steps (Busy v) after w is progress = falls_to after (steps_left v) (some_steps v v.step) progress

pub running_smaller : (s : Stage) (ps : List PlexSeen) (act : Act) (w : Work) (event : Event) (x : Stage × Act) → s.phase ≡ Busy w → IsNamed s s.phase act → IsFormed s s.phase (holds ps) → MayAnswer act event → KeepsForm s event x →
    phase_steps x.0.phase < phase_steps s.phase
running_smaller s ps act w event x is named formed may form = less_steps s.phase x.0.phase w is (form (holds ps) formed (may_come s s.phase w act event is named may)).1

-- the first place that failed, after one more answer
risen_first : (first place : Option Place) (ps qs rs : List PlexSeen) (a b c : LogSeen) → KeepPlexes ps qs → KeepsLog a b → KeepPlexes qs rs → KeepsLog b c → HasRisen first ps a qs b → HasRisen place qs b rs c → HasRisen (earlier first place) ps a rs c
risen_first None None ps qs rs a b c kp kl lp ll was now = tt
risen_first None (Some (Data map piece device)) ps qs rs a b c kp kl lp ll was now = at_now map piece device ps qs rs kp now
risen_first None (Some (Log copy device)) ps qs rs a b c kp kl lp ll was now = let f = kl.faults copy device in omega (arith, f, now)
risen_first (Some (Data map piece device)) place ps qs rs a b c kp kl lp ll was now = at_still map piece device ps qs rs was lp
risen_first (Some (Log copy device)) place ps qs rs a b c kp kl lp ll was now = let f = ll.faults copy device in omega (arith, f, was)

some_earlier : (first place : Option Place) → IsSome place → IsSome (earlier first place)
some_earlier None place some = some
some_earlier (Some first) place some = refl

-- what a read has got
given : (ps qs : List PlexSeen) (k at at' : ℕ) (into : List ℕ) (result : Result (Unit {0}) RunFault) → Some Got ≡ Some (read_event k result) → ChangesPlex k (IsPlexRead at into result) ps qs → AllTell ps →
    at' ≡ at → (i : ℕ) → i < blocks_in into → block_at into i ≡ contents_of qs k (at' + i)
given ps qs k at at' into result e c tell same i lt =
    let c_ok : ChangesPlex k (IsPlexRead at into (Ok tt)) ps qs = subst (λ (r : Result (Unit {0}) RunFault). ChangesPlex k (IsPlexRead at into r) ps qs) (got_ok k result e) c in
    read_blocks k at into ps qs tell c_ok i lt ∙ sym (ap (λ (f : ℕ → Contents). f k (at + i)) (read_same k at into (Ok tt) ps qs c_ok))
    ∙ ap (λ (n : ℕ). contents_of qs k (n + i)) (sym same)

-- ---- the counts of the log

-- a call on the log that failed ends the job with a fault, and a cut ends it without power
mark_faults : (s : Stage) (w : Work) (step : Step) (b : ℕ) → Mark b ≡ act_at s w step → (answered s w step MarkFailed).1 ≡ Fault
mark_faults s w AtMark b e = refl
mark_faults s w AtMarkFailed b e = refl
mark_faults s w AtWrite b e = cc
mark_faults s w AtFind b e = cc
mark_faults s w AtEqual b e = cc
mark_faults s w AtCopy b e = cc
mark_faults s w AtUnmark b e = cc
mark_faults s w AtRead b e = by w.job e
  where
    by : (job : Job) → Mark b ≡ read_act w job → (answered s w AtRead MarkFailed).1 ≡ Fault
    by ReadJob e = cc
    by WriteJob e = cc
    by (CopyJob k) e = cc
    by Settle e = cc
    by Clear e = cc

unmark_faults : (s : Stage) (w : Work) (step : Step) (b : ℕ) → Unmark b ≡ act_at s w step → (answered s w step UnmarkFailed).1 ≡ Fault
unmark_faults s w AtUnmark b e = refl
unmark_faults s w AtMark b e = cc
unmark_faults s w AtMarkFailed b e = cc
unmark_faults s w AtWrite b e = cc
unmark_faults s w AtFind b e = cc
unmark_faults s w AtEqual b e = cc
unmark_faults s w AtCopy b e = cc
unmark_faults s w AtRead b e = by w.job e
  where
    by : (job : Job) → Unmark b ≡ read_act w job → (answered s w AtRead UnmarkFailed).1 ≡ Fault
    by ReadJob e = cc
    by WriteJob e = cc
    by (CopyJob k) e = cc
    by Settle e = cc
    by Clear e = cc

goes_by : (s : Stage) (w : Work) (event : Event) → s.phase ≡ Busy w → goes_on s s.phase event ≡ answered s w w.step event
goes_by s w event is = ap (λ (p : Phase). goes_on s p event) is

-- where the act that comes next is no such end, no count has risen
module _ (s : Stage) (w : Work) (x : Stage × Act) (region : ℕ) (ps qs : List PlexSeen) (log log' : LogSeen) (io io' : Bytes) (is : s.phase ≡ Busy w) (fault : x.1 ≡ Fault → ⊥) (lost : x.1 ≡ Lost → ⊥) where
  well_mark : (b : ℕ) (event : Event) → Mark b ≡ act_at s w w.step → x ≡ next_of s event → MayAnswer (Mark b) event → LogCause (Some event) log log' → SameLogFaults log log'
  well_mark b Marked at table may cause = cause
  well_mark b MarkFailed at table may cause = absurd (fault (ap (λ (y : Stage × Act). y.1) table ∙ ap (λ (y : Stage × Act). y.1) (goes_by s w MarkFailed is) ∙ mark_faults s w w.step b at))
  well_mark b Cut at table may cause = absurd (lost (ap (λ (y : Stage × Act). y.1) table))
  well_mark b (Begin job) at table may cause = absurd may
  well_mark b Unmarked at table may cause = absurd may
  well_mark b UnmarkFailed at table may cause = absurd may
  well_mark b Wrote at table may cause = absurd may
  well_mark b WriteFailed at table may cause = absurd may
  well_mark b Got at table may cause = absurd may
  well_mark b (ReadFailed k) at table may cause = absurd may

  well_unmark : (b : ℕ) (event : Event) → Unmark b ≡ act_at s w w.step → x ≡ next_of s event → MayAnswer (Unmark b) event → LogCause (Some event) log log' → SameLogFaults log log'
  well_unmark b Unmarked at table may cause = cause
  well_unmark b UnmarkFailed at table may cause = absurd (fault (ap (λ (y : Stage × Act). y.1) table ∙ ap (λ (y : Stage × Act). y.1) (goes_by s w UnmarkFailed is) ∙ unmark_faults s w w.step b at))
  well_unmark b Cut at table may cause = absurd (lost (ap (λ (y : Stage × Act). y.1) table))
  well_unmark b (Begin job) at table may cause = absurd may
  well_unmark b Marked at table may cause = absurd may
  well_unmark b MarkFailed at table may cause = absurd may
  well_unmark b Wrote at table may cause = absurd may
  well_unmark b WriteFailed at table may cause = absurd may
  well_unmark b Got at table may cause = absurd may
  well_unmark b (ReadFailed k) at table may cause = absurd may

  same_well : log' ≡ log → SameLogFaults log log'
  same_well e copy device = ap (λ (l : LogSeen). l.faults copy device) e

  well_here : (act : Act) (event : Event) → act ≡ act_at s w w.step → x ≡ next_of s event → Carries region act (Some event) io ps log io' qs log' → SameLogFaults log log'
  well_here (Mark b) event at table h = well_mark b event at table h.0.fits h.0.cause
  well_here (Unmark b) event at table h = well_unmark b event at table h.0.fits h.0.cause
  well_here (WriteCall k) event at table h = same_well h.1
  well_here (WriteRegion k) event at table h = same_well h.1
  well_here (ReadCall b) event at table h = same_well h.3
  well_here (ReadRegion k) event at table h = same_well h.1
  well_here Done event at table h = absurd h
  well_here Skipped event at table h = absurd h
  well_here Fault event at table h = absurd h
  well_here Lost event at table h = absurd h

-- nor is the event one that tells a call on the log that failed, or a cut
module _ (s : Stage) (w : Work) (x : Stage × Act) (is : s.phase ≡ Busy w) (fault : x.1 ≡ Fault → ⊥) (lost : x.1 ≡ Lost → ⊥) (now : Disks) (call : Pending) (values : Contents) where
  well_event : (act : Act) (event : Event) → act ≡ act_at s w w.step → x ≡ next_of s event → MayAnswer act event → IsWell (Comes event now call values)
  well_event (Mark b) MarkFailed at table may = fault (ap (λ (y : Stage × Act). y.1) table ∙ ap (λ (y : Stage × Act). y.1) (goes_by s w MarkFailed is) ∙ mark_faults s w w.step b at)
  well_event (Unmark b) UnmarkFailed at table may = fault (ap (λ (y : Stage × Act). y.1) table ∙ ap (λ (y : Stage × Act). y.1) (goes_by s w UnmarkFailed is) ∙ unmark_faults s w w.step b at)
  well_event act Cut at table may = lost (ap (λ (y : Stage × Act). y.1) table)
  well_event act MarkFailed at table may = absurd may
  well_event act UnmarkFailed at table may = absurd may
  well_event act (Begin job) at table may = tt
  well_event act Marked at table may = tt
  well_event act Unmarked at table may = tt
  well_event act Wrote at table may = tt
  well_event act WriteFailed at table may = tt
  well_event act Got at table may = tt
  well_event act (ReadFailed k) at table may = tt

well_more : (course : List Happening) (h : Happening) → AreWell course → IsWell h → AreWell (course ++ (h ∷ []))
well_more [] h well last = (last, tt)
well_more (x ∷ xs) h well last = (well.0, well_more xs h well.1 last)

module _ (job : Job) (io0 : Bytes) (old : RegionSeen) (s : Stage) (region start size number epoch : ℕ) (ps : List PlexSeen) (log : LogSeen) (first : Option Place) (act : Act) (io : Bytes) (w : Work) (answer : Answered)
    (qs : List PlexSeen) (log' : LogSeen) (io' : Bytes) (x : Stage × Act) where
  abbrev now : RegionSeen
  now = record { stage = s; region = region; start = start; size = size; number = number; epoch = epoch; plexes = ps; log = log }

  abbrev next_region : RegionSeen
  next_region = record { stage = x.0; region = region; start = start; size = size; number = number; epoch = epoch; plexes = qs; log = log' }

  pub running_goes_on : s.phase ≡ Busy w → IsRunning job io0 old now first act io → IsCallable size job io0 → length io0.scratch ≡ 512 * size →
      Carries region act (Some answer.event) io ps log io' qs log' → IsPlaced act (Some answer) ps log qs log' → SameBytes io io' →
      NamesAct x → KeepsForm s answer.event x → AsksPossible s answer.event x → CausesFrom s s.phase answer.event x → FollowsFrom s s.phase answer.event x → FailsFrom s answer.event x → ReadsFrom s s.phase answer.event x → x ≡ next_of s answer.event →
      IsRunning job io0 old next_region (earlier first answer.place) x.1 io'
  running_goes_on is run callable scratch carries placed same names form possible causes follows fails reads table =
      let event = answer.event in
      let may = carried_may region ps qs log log' io io' act event carries in
      let kept_plexes = carried_plexes region ps qs log log' io io' act (Some event) carries in
      let kept_log = carried_log region ps qs log log' io io' act (Some event) carries in
      let shows = carried_shows region ps qs log log' io io' act event carries in
      let come = may_come s s.phase w act event is run.named may in
      let formed = form (holds ps) run.whole.formed come in
      let alike : holds qs ≡ holds ps = holds_alike ps qs kept_plexes in
      let can : IsPossible s (holds ps) w.job w.source act = possible_work s (holds ps) s.phase w act is run.asks in
      let runs = runs_work job old size ps io.scratch act s.phase w is run.runs in
      let on = follows_work s s.phase w act event x (holds ps) is run.named may run.whole.formed follows in
      let at_step : act ≡ act_at s w w.step = act_work s s.phase w act is run.named in
      let bytes : SameBytes io0 io' = record {
        same_at = same.same_at ∙ run.bytes.same_at;
        same_from = same.same_from ∙ run.bytes.same_from;
        same_into = same.same_into ∙ run.bytes.same_into;
        same_scratch = same.same_scratch ∙ run.bytes.same_scratch;
      } in
      let full : blocks_in io.scratch ≡ size = full_scratch size io0.scratch io.scratch scratch run.bytes.same_scratch in
      let full' : blocks_in io'.scratch ≡ size = full_scratch size io0.scratch io'.scratch scratch bytes.same_scratch in
      let can_job : IsPossible s (holds ps) job w.source act = subst (λ (j : Job). IsPossible s (holds ps) j w.source act) runs.0 can in
      let callable_io : IsCallable size job io = moved_callable size job io0 io run.bytes callable in
      let all_plexes : KeepPlexes old.plexes qs = keep_more old.plexes ps qs run.kept.plexes kept_plexes in
      let all_log : KeepsLog old.log log' = log_more old.log log log' run.kept.log kept_log in
      let backed : IsBacked act event old next_region = record {
        plexes = λ k e. rose_now k old.plexes ps qs run.kept.plexes (shows.0 k e);
        log = λ e. log_now old.log log log' run.kept.log (shows.1 e);
        cut = λ e. shows.2 e;
      } in
      record {
        whole = record {
          formed = same_formed x.0 x.0.phase (holds ps) (holds qs) alike formed.0;
          differ = keep_differ ps qs kept_plexes run.whole.differ;
          cover = keep_cover size ps qs kept_plexes run.whole.cover;
          some = run.whole.some;
          fits = run.whole.fits;
          logged = λ logged. moved_log log log' region x.0 kept_log (same_log s x.0 on.1 log region (run.whole.logged (sym on.1.3 ∙ logged)));
        };
        kept = record {
          region = run.kept.region;
          start = run.kept.start;
          size = run.kept.size;
          epoch = run.kept.epoch;
          plexes = all_plexes;
          log = all_log;
          others = others_more old.region old.log.told log.told log'.told run.kept.others
              (subst (λ (r : ℕ). OnMarks (TidiesOthers r) log.told log'.told) run.kept.region (carried_others region ps qs log log' io io' act (Some event) carries));
        };
        number = run.number;
        masks = (on.1.0 ∙ run.masks.0, on.1.1 ∙ run.masks.1, on.1.2 ∙ run.masks.2, on.1.3 ∙ run.masks.3);
        named = names;
        asks = subst (λ (held : ℕ → Bool). PossibleIn x.0 held x.0.phase x.1) (sym alike) (possible (holds ps) run.whole.formed come);
        runs =
            subst (λ (j : Job). RunsIn j old size qs io'.scratch x.1 x.0.phase) runs.0
            (runs_from w.job w.step event w.source x.1 x.0.phase old size qs io'.scratch
            (λ has. scratch_after region size ps qs log log' io io' old s (holds ps) (λ told. (run.tells told).0) full' w.job w.step w.source w.left w.good w.failed event
            (subst (λ (a : Act). Carries region a (Some event) io ps log io' qs log') at_step carries)
            (subst (λ (a : Act). IsPossible s (holds ps) w.job w.source a) at_step can) has runs.1)
            on.0);
        bytes = bytes;
        tells = λ told. (keep_tell ps qs kept_plexes (run.tells told).0, carried_tells region ps qs log log' io io' act (Some event) carries (run.tells told).1);
        goes = λ told who.
            let g = run.goes told who in
            let call : Pending = call_of job io0 old who in
            let tell : AllTell ps = (run.tells told).0 in
            let tell_log : Tells log.told = (run.tells told).1 in
            let fit : Fit start size act call w.source io ps =
            subst (λ (n : ℕ). Fit n size act call w.source io ps) (sym run.kept.start)
            (subst (λ (c : Pending). Fit old.start size act c w.source io ps) (sym (moved_call job io0 io old who run.bytes)) (fit_for s w size ps old (holds ps) job io who act can_job at_step callable_io full runs.1 told)) in
            let answers : Answers call w.source act event (disks_of now) (disks_of next_region) = carried_answers region start size ps qs log log' tell tell_log act event io io' call w.source carries fit in
            let drawn_still : last_at number event call ≡ number =
            subst (λ (n : ℕ). last_at n event call ≡ n) (sym run.number) (last_still event job io0 old who) in (
              g.0 ++ (Comes event (disks_of next_region) call (values_at (old.start + io'.at) io'.into) ∷ []),
              goes_more (Allows old.stage.phase (start_last old.stage.phase job old.number) call) old now next_region (start_last old.stage.phase job old.number) (start_call old.stage.phase call) call act event x
                  (values_at (old.start + io.at) io.into) (values_at (old.start + io'.at) io'.into) g.0 g.1
                  (λ entries. quiet_work s s.phase w act call (values_at (old.start + io.at) io.into) entries is run.named)
                  (act_is s s.phase w act is run.named)
                  (λ fixed entries.
                  let a : Around = (state_of now fixed entries call number).around in
                  fits_answer s s.phase w act event a (disks_of next_region) call (values_at (old.start + io'.at) io'.into) is run.named answers
                  (subst (λ (n : ℕ). ReadGives a act event (values_at (n + io'.at) io'.into)) run.kept.start
                  (carried_gives region start size ps qs log log' tell tell_log act event io io' call w.source a refl refl carries fit same.same_at same.same_into)))
                  table refl drawn_still kept_plexes kept_log backed,
            );
        causes = λ plain begins.
            let was = run.causes plain begins in
            let f : Faults = was.0 in (
              with_failures f act event,
              record {
                plexes = λ k e. elim (or_cases (f.plex k) (plex_fails act event k) e) [
                  | inl before ↦ rose_still k old.plexes ps qs (was.1.plexes k before) kept_plexes
                  | inr here ↦ rose_now k old.plexes ps qs run.kept.plexes (shows.0 k here)
                ];
                log = λ e. elim (or_cases f.log (log_fails act event) e) [
                  | inl before ↦ log_still old.log log log' (was.1.log before) kept_log
                  | inr here ↦ log_now old.log log log' run.kept.log (shows.1 here)
                ];
              },
              blames_work s s.phase w act event x (holds ps) (current old.stage) f (with_failures f act event) is run.named run.whole.formed may was.2.0 (has_failed act event f may) causes,
            );
        cut = λ lost. shows.2 (lost_by_cut w.job w.step event w.source x.0 x.1 x.0.phase on.0 names lost);
        quiet = λ began. stays_quiet w.job w.step event w.source x.1 x.0.phase on.0 (quiet_step s.phase w is (run.quiet began));
        writes =
            more_writes (MayWrite job (settles_in old.stage.phase)) old.plexes ps qs run.kept.plexes run.writes
            (carried_writes job (settles_in old.stage.phase) s w (holds ps) region ps qs log log' io io' act (Some event) runs.0 (form_work s s.phase w is run.whole.formed.step)
            (λ began. quiet_step s.phase w is (run.quiet began)) at_step can_job carries);
        calls = called_more old.stage job s act first answer.place event x run.calls may placed.1 table;
        rose = risen_first first answer.place old.plexes ps qs old.log log log' run.kept.plexes run.kept.log kept_plexes kept_log run.rose placed.0;
        well = λ fault lost copy device.
            well_here s w x region ps qs log log' io io' is fault lost act event at_step table carries copy device
            ∙ run.well (λ e. (let no : IsPossible s (holds ps) w.job w.source Fault = subst (λ (a : Act). IsPossible s (holds ps) w.job w.source a) e can in no))
            (λ e. (let no : IsPossible s (holds ps) w.job w.source Lost = subst (λ (a : Act). IsPossible s (holds ps) w.job w.source a) e can in no)) copy device;
        courses = λ fault lost told who.
            well_more ((run.goes told who).0) (Comes event (disks_of next_region) (call_of job io0 old who) (values_at (old.start + io'.at) io'.into))
            (run.courses (λ e. (let no : IsPossible s (holds ps) w.job w.source Fault = subst (λ (a : Act). IsPossible s (holds ps) w.job w.source a) e can in no))
            (λ e. (let no : IsPossible s (holds ps) w.job w.source Lost = subst (λ (a : Act). IsPossible s (holds ps) w.job w.source a) e can in no)) told who)
            (well_event s w x is fault lost (disks_of next_region) (call_of job io0 old who) (values_at (old.start + io'.at) io'.into) act event at_step table may);
        blames = no_blame x.1 (earlier first answer.place) (λ fault. some_earlier first answer.place (some_from_fits act event answer.place placed.1 (fails (holds ps) run.whole.formed come fault)));
        gives = λ done read told.
            let fact = reads_work s s.phase w act event x (holds ps) is run.named may run.whole.formed reads (runs.0 ∙ read) done in
            let at_read : act ≡ ReadCall w.left = at_step ∙ ap (λ (st : Step). act_at s w st) fact.step ∙ ap (λ (j : Job). read_act w j) (runs.0 ∙ read) in
            let c : Carries region (ReadCall w.left) (Some Got) io ps log io' qs log' =
            subst (λ (e : Event). Carries region (ReadCall w.left) (Some e) io ps log io' qs log') fact.answered (subst (λ (a : Act). Carries region a (Some event) io ps log io' qs log') at_read carries) in
            let could : IsPossible s (holds ps) w.job w.source (ReadCall w.left) = subst (λ (a : Act). IsPossible s (holds ps) w.job w.source a) at_read can in (
              c.0,
              still_current s.on s.bits x.0.on x.0.bits c.0 on.1.0 fact.bits (could.3 c.0 c.1),
              given ps qs c.0 io.at io'.at io'.into c.2.result c.2.answers c.2.changes (run.tells told).0 same.same_at,
            );
      }
    where
      moved_log : (a b : LogSeen) (r : ℕ) (t : Stage) → KeepsLog a b → IsLogOf a r t → IsLogOf b r t
      moved_log a b r t kept h =
          record {
            there = kept.there ∙ h.there;
            known = ap (λ (f : ℕ → Bool). f r) kept.has_region ∙ h.known;
            maps = λ k there. subst (λ (n : ℕ). k < n) (sym kept.maps) (h.maps k there);
            dirty = subst (λ (n : ℕ). 30 < n) (sym kept.maps) h.dirty;
          }

  -- the same, with the call as it lay in the region at the start
  pub running_next : s.phase ≡ Busy w → IsRunning job io0 old now first act io → IsCallable old.size job io0 → length io0.scratch ≡ 512 * old.size →
      Carries region act (Some answer.event) io ps log io' qs log' → IsPlaced act (Some answer) ps log qs log' → SameBytes io io' →
      NamesAct x → KeepsForm s answer.event x → AsksPossible s answer.event x → CausesFrom s s.phase answer.event x → FollowsFrom s s.phase answer.event x → FailsFrom s answer.event x → ReadsFrom s s.phase answer.event x → x ≡ next_of s answer.event →
      (place : Option Place) → place ≡ earlier first answer.place → IsRunning job io0 old next_region place x.1 io'
  running_next is run callable scratch carries placed same names form possible causes follows fails reads table place e =
      subst (λ (p : Option Place). IsRunning job io0 old next_region p x.1 io') (sym e)
      (running_goes_on is run (subst (λ (n : ℕ). IsCallable n job io0) (sym run.kept.size) callable) (subst (λ (n : ℕ). length io0.scratch ≡ 512 * n) (sym run.kept.size) scratch)
      carries placed same names form possible causes follows fails reads table)

-- ---- in the loop

pub askable_now : (job : Job) (io0 : Bytes) (old now : RegionSeen) (first : Option Place) (act : Act) (io : Bytes) (w : Work) → now.stage.phase ≡ Busy w → IsRunning job io0 old now first act io → IsCallable old.size job io0 →
    IsAskable now.region now.size io.at (length io.into) (length io.from) now.plexes now.log act
askable_now job io0 old now first act io w is run callable =
    let can : IsPossible now.stage (holds now.plexes) w.job w.source act = possible_work now.stage (holds now.plexes) now.stage.phase w act is run.asks in
    let runs = runs_work job old now.size now.plexes io.scratch act now.stage.phase w is run.runs in
    let ok : IsCallable now.size job io0 = subst (λ (n : ℕ). IsCallable n job io0) (sym run.kept.size) callable in
    askable now job w.source io act run.whole (subst (λ (j : Job). IsPossible now.stage (holds now.plexes) j w.source act) runs.0 can) (moved_callable now.size job io0 io run.bytes ok)

pub maps_fit : (r : RegionSeen) → IsWhole r → (k : ℕ) → holds r.plexes k ≡ true → k < 256
maps_fit r whole k there =
    elim (whole.formed.stage.plexes k there) [
      | inl on ↦ let lt = has-lt r.stage.on k whole.formed.stage.on_fits on in omega (arith, lt)
      | inr off ↦ let lt = has-lt r.stage.off k whole.formed.stage.off_fits off in omega (arith, lt)
    ]

pub scratch_range : (old now : RegionSeen) (scratch scratch' : List ℕ) → now.size ≡ old.size → 0 < now.size → length scratch ≡ 512 * old.size → length scratch' ≡ length scratch → IsRange now.size 0 (length scratch')
scratch_range old now scratch scratch' size some e same = record { some = omega (arith, e, same, size, some); whole = omega (arith, e, same); inside = omega (arith, e, same, size) }

-- an act that has no answer is a mark or an unmark, and nothing has changed
pub record IsOut (act : Act) (io io' : Bytes) (ps qs : List PlexSeen) (log log' : LogSeen) : Type 0 where
  pub plexes : qs ≡ ps
  pub log_is : log' ≡ log
  pub bytes : io' ≡ io
  pub lent : log.lent ≡ true

is_marking : (s : Stage) (w : Work) (step : Step) (b : ℕ) → (Mark b ≡ act_at s w step) ⊎ (Unmark b ≡ act_at s w step) → IsMarking step
is_marking s w AtMark b e = tt
is_marking s w AtMarkFailed b e = tt
is_marking s w AtUnmark b e = tt
is_marking s w AtWrite b e = elim e [ inl m ↦ cc | inr u ↦ cc ]
is_marking s w AtFind b e = elim e [ inl m ↦ cc | inr u ↦ cc ]
is_marking s w AtEqual b e = elim e [ inl m ↦ cc | inr u ↦ cc ]
is_marking s w AtCopy b e = elim e [ inl m ↦ cc | inr u ↦ cc ]
is_marking s w AtRead b e = read_marks w w.job b e
  where
    read_marks : (w : Work) (job : Job) (b : ℕ) → (Mark b ≡ read_act w job) ⊎ (Unmark b ≡ read_act w job) → IsMarking AtRead
    read_marks w ReadJob b e = elim e [ inl m ↦ cc | inr u ↦ cc ]
    read_marks w WriteJob b e = elim e [ inl m ↦ cc | inr u ↦ cc ]
    read_marks w (CopyJob k) b e = elim e [ inl m ↦ cc | inr u ↦ cc ]
    read_marks w Settle b e = elim e [ inl m ↦ cc | inr u ↦ cc ]
    read_marks w Clear b e = elim e [ inl m ↦ cc | inr u ↦ cc ]

out_of : (s : Stage) (w : Work) (region : ℕ) (act : Act) (io io' : Bytes) (ps qs : List PlexSeen) (log log' : LogSeen) → act ≡ act_at s w w.step → Carries region act None io ps log io' qs log' → IsOut act io io' ps qs log log' × IsMarking w.step
out_of s w region (Mark b) io io' ps qs log log' is h = (record { plexes = h.1; log_is = h.0.cause.0; bytes = h.2; lent = h.0.cause.1 }, is_marking s w w.step b (inl is))
out_of s w region (Unmark b) io io' ps qs log log' is h = (record { plexes = h.1; log_is = h.0.cause.0; bytes = h.2; lent = h.0.cause.1 }, is_marking s w w.step b (inr is))
out_of s w region (WriteCall k) io io' ps qs log log' is h = let e = h.0.answers in cc
out_of s w region (WriteRegion k) io io' ps qs log log' is h = let e = h.0.answers in cc
out_of s w region (ReadCall b) io io' ps qs log log' is h = let e = h.2.answers in cc
out_of s w region (ReadRegion k) io io' ps qs log log' is h = let e = h.0.answers in cc
out_of s w region Done io io' ps qs log log' is h = absurd h
out_of s w region Skipped io io' ps qs log log' is h = absurd h
out_of s w region Fault io io' ps qs log log' is h = absurd h
out_of s w region Lost io io' ps qs log log' is h = absurd h

stands_in : (phase : Phase) (w : Work) → phase ≡ Busy w → IsMarking w.step → Stands phase
stands_in (Busy v) w is marks = let same : w ≡ v = cc in subst (λ (u : Work). IsMarking u.step) same marks
stands_in Settled w is marks = cc
stands_in Unsettled w is marks = cc
stands_in Dead w is marks = cc

-- the page of a mark was out: the job stands where it stood
pub running_held : (job : Job) (io0 : Bytes) (old : RegionSeen) (s : Stage) (region start size number epoch : ℕ) (ps : List PlexSeen) (log : LogSeen) (first : Option Place) (act : Act) (io : Bytes) (w : Work) (qs : List PlexSeen) (log' : LogSeen) (io' : Bytes) →
    s.phase ≡ Busy w → IsRunning job io0 old (record { stage = s; region = region; start = start; size = size; number = number; epoch = epoch; plexes = ps; log = log }) first act io →
    Carries region act None io ps log io' qs log' →
    HasRun job io0 old (record { stage = s; region = region; start = start; size = size; number = number; epoch = epoch; plexes = qs; log = log' }) None first io'
running_held job io0 old s region start size number epoch ps log first act io w qs log' io' is run carries =
    let out = out_of s w region act io io' ps qs log log' (act_work s s.phase w act is run.named) carries in
    let h = out.0 in (
      act,
      subst (λ (b : Bytes). IsRunning job io0 old (record { stage = s; region = region; start = start; size = size; number = number; epoch = epoch; plexes = qs; log = log' }) first act b) (sym h.bytes)
          (subst (λ (l : LogSeen). IsRunning job io0 old (record { stage = s; region = region; start = start; size = size; number = number; epoch = epoch; plexes = qs; log = l }) first act io) (sym h.log_is)
          (subst (λ (xs : List PlexSeen). IsRunning job io0 old (record { stage = s; region = region; start = start; size = size; number = number; epoch = epoch; plexes = xs; log = log }) first act io) (sym h.plexes) run)),
      stands_in s.phase w is out.1,
      sym run.kept.log.lent ∙ h.lent,
    )

pub phase_idle : (phase : Phase) → ((w : Work) → phase ≡ Busy w → ⊥) → IsIdle phase
phase_idle Settled never = tt
phase_idle Unsettled never = tt
phase_idle Dead never = tt
phase_idle (Busy w) never = absurd (never w refl)

-- How the history of one region goes on, by calls on it and on others of its log.
use Rattle.std.proofs.Common.{◌≡◌, ◌≢◌, ℕ, ◌+◌, false, refl, sym, ◌∙◌, ap, subst, inl, inr, List, [], ◌∷◌, ◌++◌, Option, Some, None, Result, Ok, Err}
use Rattle.std.proofs.lemmas.Bool.{false≢true}
use Rattle.vx_mask.specs.Marks.{Marks, MayTidy}
use Rattle.vx_life.specs.Entry.{Entry}
use Rattle.vx_core.specs.declared.stage.Act.{Act}
use Rattle.vx_core.specs.declared.stage.Event.{Event}
use Rattle.vx_core.specs.declared.stage.Job.{Job}
use Rattle.vx_core.specs.declared.stage.Phase.{Phase}
use Rattle.vx_core.specs.declared.stage.Phase.TheVariants.{Settled, Unsettled, Dead, Busy}
use Rattle.vx_core.specs.declared.stage.Stage.{Stage}
use Rattle.vx_core.specs.History.{MayBegin, NoCall, Pending}
use Rattle.vx_core.specs.Region.{Fixed, RegionState}
use Rattle.vx_core.specs.Recovery.{region_after}
use Rattle.vx_core.specs.Schedule.{Comes, Elsewhere, Happening, IsIdle, happens}
use Rattle.vx_core.specs.Table.{next_of}
use Rattle.vx_core_laws.specs.Course.{EachFits, IsKeptState}
use Rattle.vx_core_laws.proofs.Courses.{after_both, course_keeps, fits_both}
use Rattle.vx_marks.specs.Log.{OnMarks}
use Rattle.vx_cell.specs.declared.fault.CellFault.{CellFault}
use Rattle.vx_cell.specs.declared.fault.CellFault.TheVariants.{Fault, PowerLost, Held, Only}
use Rattle.vx_cell.specs.Acts.{Bytes}
use Rattle.vx_cell.specs.Calls.{CallHasCause, HasEnded, call_left, entries_by}
use Rattle.vx_cell.specs.Region.{IsTold, KeepsRegion, RegionSeen, StandsFor, Tells, TidiesOthers, marks_or, state_of}
use Rattle.vx_cell.specs.Running.{Allows, AreBacked, Caller, GoesBy, IsBacked, act_of, call_of, last_before, start_call, start_last, values_at}
use Rattle.vx_cell.proofs.Changes.{keep_cut, keep_more, keep_same, rose_now, rose_still}
use Rattle.vx_cell.proofs.LogLaws.{log_more, log_same}
use Rattle.vx_cell.proofs.Work.{log_now, log_still}
use Rattle.vx_volume.specs.Laws.{EachOtherGoesOn, GoesOn, ShowFailures, StaysRegion}

-- ---- what stays

pub stays_same : (r : RegionSeen) → StaysRegion r r
stays_same r = record { region = refl; start = refl; size = refl; epoch = refl; plexes = keep_same r.plexes; log = log_same r.log }

stays_more : (a b c : RegionSeen) → StaysRegion a b → StaysRegion b c → StaysRegion a c
stays_more a b c first after =
    record {
      region = after.region ∙ first.region;
      start = after.start ∙ first.start;
      size = after.size ∙ first.size;
      epoch = after.epoch ∙ first.epoch;
      plexes = keep_more a.plexes b.plexes c.plexes first.plexes after.plexes;
      log = log_more a.log b.log c.log first.log after.log;
    }

-- a call whose number was drawn before it
pub stays_kept : (old : RegionSeen) (n : ℕ) (new : RegionSeen) → KeepsRegion (record old { number = n }) new → StaysRegion old new
stays_kept old n new kept = record { region = kept.region; start = kept.start; size = kept.size; epoch = kept.epoch; plexes = kept.plexes; log = kept.log }

-- ---- failures

module _ (act : Act) (event : Event) (a b c : RegionSeen) where
  backed_later : StaysRegion a b → IsBacked act event b c → IsBacked act event a c
  backed_later stays h =
      record {
        plexes = λ k e. rose_now k a.plexes b.plexes c.plexes stays.plexes (h.plexes k e);
        log = λ e. log_now a.log b.log c.log stays.log (h.log e);
        cut = h.cut;
      }

  backed_still : StaysRegion b c → IsBacked act event a b → IsBacked act event a c
  backed_still stays h =
      record {
        plexes = λ k e. rose_still k a.plexes b.plexes c.plexes (h.plexes k e) stays.plexes;
        log = λ e. log_still a.log b.log c.log (h.log e) stays.log;
        cut = λ e. elim (h.cut e) [ inl piece ↦ inl (keep_cut b.plexes c.plexes stays.plexes piece) | inr cut ↦ inr (stays.log.cut cut) ];
      }

shown_later : (course : List Happening) (s : Stage) (a b c : RegionSeen) → StaysRegion a b → ShowFailures course s b c → ShowFailures course s a c
shown_later [] s a b c stays h = tt
shown_later (Comes event now call values ∷ hs) s a b c stays h = (backed_later (act_of s s.phase) event a b c stays h.0, shown_later hs (next_of s event).0 a b c stays h.1)
shown_later (Elsewhere marks ∷ hs) s a b c stays h = shown_later hs s a b c stays h

shown_both : (first then : List Happening) (r : RegionState) (a b c : RegionSeen) → StaysRegion a b → StaysRegion b c → ShowFailures first r.stage a b → ShowFailures then (region_after first r).stage b c → ShowFailures (first ++ then) r.stage a c
shown_both [] then r a b c before after h more = shown_later then r.stage a b c before more
shown_both (Comes event now call values ∷ hs) then r a b c before after h more =
    (backed_still (act_of r.stage r.stage.phase) event a b c after h.0, shown_both hs then (happens r (Comes event now call values)) a b c before after h.1 more)
shown_both (Elsewhere marks ∷ hs) then r a b c before after h more = shown_both hs then (happens r (Elsewhere marks)) a b c before after h more

-- what a call's course tells
shown_backed : (course : List Happening) (s : Stage) (old : RegionSeen) (n : ℕ) (new : RegionSeen) → AreBacked course s (record old { number = n }) new → ShowFailures course s old new
shown_backed [] s old n new h = tt
shown_backed (Comes event now call values ∷ hs) s old n new h = (record { plexes = h.0.plexes; log = h.0.log; cut = h.0.cut }, shown_backed hs (next_of s event).0 old n new h.1)
shown_backed (Elsewhere marks ∷ hs) s old n new h = absurd h

-- ---- courses

pub goes_same : (r : RegionSeen) (fixed : Fixed) (entries : List Entry) → GoesOn r r fixed entries entries
goes_same r fixed entries = record { course = []; fits = tt; ends = refl; shown = tt; stays = stays_same r }

pub goes_then : (old mid new : RegionSeen) (fixed : Fixed) (entries entries' entries'' : List Entry) → GoesOn old mid fixed entries entries' → GoesOn mid new fixed entries' entries'' → GoesOn old new fixed entries entries''
goes_then old mid new fixed entries entries' entries'' first then =
    let was : RegionState = state_of old fixed entries NoCall old.number in
    record {
      course = first.course ++ then.course;
      fits = fits_both first.course then.course was first.fits (subst (λ (s : RegionState). EachFits then.course s) (sym first.ends) then.fits);
      ends = after_both first.course then.course was ∙ ap (λ (s : RegionState). region_after then.course s) first.ends ∙ then.ends;
      shown = shown_both first.course then.course was old mid new first.stays then.stays first.shown (subst (λ (s : RegionState). ShowFailures then.course s.stage mid new) (sym first.ends) then.shown);
      stays = stays_more old mid new first.stays then.stays;
    }

pub goes_stands : (old new : RegionSeen) (fixed : Fixed) (entries entries' : List Entry) → GoesOn old new fixed entries entries' → StandsFor old fixed entries NoCall → StandsFor new fixed entries' NoCall
goes_stands old new fixed entries entries' goes stood =
    subst (λ (s : RegionState). IsKeptState s) goes.ends (course_keeps (state_of old fixed entries NoCall old.number) goes.course stood goes.fits)

-- ---- calls on other regions

tidied : (region n : ℕ) (a b : Option (ℕ → Marks)) → n ≢ region → Tells a → OnMarks (TidiesOthers region) a b → MayTidy (marks_or a n) (marks_or b n)
tidied region n None b apart tells h = absurd tells
tidied region n (Some a) None apart tells h = absurd h
tidied region n (Some a) (Some b) apart tells h = h n apart

pub other_goes : EachOtherGoesOn
other_goes region other log fixed entries apart tells kept others =
    record {
      course = Elsewhere (marks_or log.told other.region) ∷ [];
      fits = (tidied region other.region other.log.told log.told apart tells others, tt);
      ends = refl;
      shown = tt;
      stays = record { region = refl; start = refl; size = refl; epoch = refl; plexes = keep_same other.plexes; log = kept };
    }

-- ---- a job that is run while none is under way

pub idle_last : (phase : Phase) (job : Job) (n : ℕ) → IsIdle phase → start_last phase job n ≡ last_before job n
idle_last Settled job n idle = refl
idle_last Unsettled job n idle = refl
idle_last Dead job n idle = refl
idle_last (Busy w) job n idle = absurd idle

pub idle_call : (phase : Phase) (call : Pending) → IsIdle phase → start_call phase call ≡ NoCall
idle_call Settled call idle = refl
idle_call Unsettled call idle = refl
idle_call Dead call idle = refl
idle_call (Busy w) call idle = absurd idle

pub idle_allows : (phase : Phase) (last : ℕ) (call : Pending) (fixed : Fixed) (entries : List Entry) → MayBegin fixed.region last entries call → Allows phase last call fixed entries
idle_allows Settled last call fixed entries may = may
idle_allows Unsettled last call fixed entries may = may
idle_allows Dead last call fixed entries may = may
idle_allows (Busy w) last call fixed entries may = tt

-- no call is under way after one that was not held
none_left : {T : Type 0} (job : Job) (old new : RegionSeen) (result : Result T CellFault) (call : Pending) → old.log.lent ≡ false → CallHasCause job old new result → call_left result call ≡ NoCall
none_left job old new (Ok n) call own cause = refl
none_left job old new (Err (Fault place)) call own cause = refl
none_left job old new (Err PowerLost) call own cause = refl
none_left job old new (Err Held) call own cause = absurd (false≢true (sym own ∙ cause))
none_left job old new (Err (Only map)) call own cause = absurd cause

-- a course of a call that began where none was under way, and of which none is left
pub by_course : (allows : Fixed → List Entry → Type 0) (course : List Happening) (old : RegionSeen) (n began : ℕ) (call : Pending) (new : RegionSeen) (left : Pending) (more : List Entry → List Entry) →
    GoesBy allows course (record old { number = n }) began call new left more → began ≡ old.number → call ≡ NoCall → left ≡ NoCall → StaysRegion old new → (fixed : Fixed) (entries : List Entry) → allows fixed entries →
    GoesOn old new fixed entries (more entries)
by_course allows course old n began call new left more by drawn none rest stays fixed entries may =
    let same : state_of old fixed entries call began ≡ state_of old fixed entries NoCall old.number = ap (λ (c : Pending). state_of old fixed entries c began) none ∙ ap (λ (m : ℕ). state_of old fixed entries NoCall m) drawn in
    record {
      course = course;
      fits = subst (λ (s : RegionState). EachFits course s) same (by.fits fixed entries may);
      ends = subst (λ (s : RegionState). region_after course s ≡ state_of new fixed (more entries) NoCall new.number) same (by.ends fixed entries ∙ ap (λ (c : Pending). state_of new fixed (more entries) c new.number) rest);
      shown = shown_backed course old.stage old n new by.backed;
      stays = stays;
    }

module _ {T : Type 0} (job : Job) (io io' : Bytes) (old : RegionSeen) (n : ℕ) (new : RegionSeen) (result : Result T CellFault) (ended : HasEnded job io (record old { number = n }) new io' result) (idle : IsIdle old.stage.phase) (own : old.log.lent ≡ false) (told : IsTold old) where
  abbrev mid : RegionSeen
  mid = record old { number = n }

  pub ended_goes : (who : Caller) (fixed : Fixed) (entries : List Entry) → last_before job n ≡ old.number → MayBegin fixed.region old.number entries (call_of job io mid who) →
      GoesOn old new fixed entries (entries_by result (call_of job io mid who) (values_at (old.start + io'.at) io'.into) entries)
  ended_goes who fixed entries drawn may =
      let goes = ended.goes told who in
      let began : start_last old.stage.phase job n ≡ old.number = idle_last old.stage.phase job n idle ∙ drawn in
      by_course _ goes.0 old n _ _ new _ (entries_by result (call_of job io mid who) (values_at (old.start + io'.at) io'.into)) goes.1 began (idle_call old.stage.phase (call_of job io mid who) idle)
      (none_left job mid new result (call_of job io mid who) own ended.cause) (stays_kept old n new ended.kept) fixed entries
      (idle_allows old.stage.phase (start_last old.stage.phase job n) (call_of job io mid who) fixed entries (subst (λ (m : ℕ). MayBegin fixed.region m entries (call_of job io mid who)) (sym began) may))

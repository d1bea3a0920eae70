-- A write, and the clear after it.
use Rattle.std.proofs.Common.{◌≡◌, ℕ, ◌+◌, false, refl, sym, ◌∙◌, ap, subst, inl, inr, ◌⊎◌, List, [], ◌∷◌, ◌++◌, Result, Ok, Err}
use Rattle.vx_base.specs.Blocks.{Contents}
use Rattle.vx_life.specs.Entry.{Entry}
use Rattle.vx_core.specs.declared.stage.Event.{Event}
use Rattle.vx_core.specs.declared.stage.Act.{Act}
use Rattle.vx_core.specs.declared.stage.Phase.{Phase}
use Rattle.vx_core.specs.declared.stage.Stage.{Stage}
use Rattle.vx_core.specs.declared.stage.Job.TheVariants.{Write as WriteJob, Clear}
use Rattle.vx_core.specs.declared.stage.Act.TheVariants.{Done}
use Rattle.vx_core.specs.declared.stage.Phase.TheVariants.{Settled, Unsettled, Dead}
use Rattle.vx_core.specs.Table.{next_of}
use Rattle.vx_core.specs.History.{Pending, NoCall}
use Rattle.vx_core.specs.Region.{Fixed, RegionState, entries_after}
use Rattle.vx_core.specs.Schedule.{Happening, Comes, Elsewhere}
use Rattle.vx_core.specs.Recovery.{region_after}
use Rattle.vx_core_laws.specs.Course.{EachFits}
use Rattle.vx_core_laws.proofs.Courses.{after_both, fits_both}
use Rattle.vx_marks.specs.Log.{KeepsLog, OnMarks}
use Rattle.vx_cell.specs.declared.fault.CellFault.{CellFault}
use Rattle.vx_cell.specs.declared.fault.CellFault.TheVariants.{Fault, PowerLost, Held, Only}
use Rattle.vx_cell.specs.Plexes.{KeepPlexes}
use Rattle.vx_cell.specs.Acts.{Bytes}
use Rattle.vx_cell.specs.Region.{RegionSeen, IsWhole, IsTold, KeepsRegion, TidiesOthers, state_of}
use Rattle.vx_cell.specs.Running.{Caller, values_at, call_of, IsBacked, act_of, AreBacked, GoesBy, start_last, start_call, Allows}
use Rattle.vx_cell.specs.Calls.{HasEnded, entries_by, call_left, HasWritten, answer_after, HasCleared, numbered, CallEnds, WriteEnds}
use Rattle.vx_cell.proofs.Changes.{keep_more, rose_now}
use Rattle.vx_cell.proofs.LogLaws.{log_more, others_more}
use Rattle.vx_cell.proofs.Work.{log_now}
use Rattle.vx_cell.proofs.Steps.{stage_after, course_stage, backed_more, some_fixed}

keeps_both : (a b c : RegionSeen) → KeepsRegion a b → KeepsRegion b c → KeepsRegion a c
keeps_both a b c h k =
    record {
      region = k.region ∙ h.region;
      start = k.start ∙ h.start;
      size = k.size ∙ h.size;
      epoch = k.epoch ∙ h.epoch;
      plexes = keep_more a.plexes b.plexes c.plexes h.plexes k.plexes;
      log = log_more a.log b.log c.log h.log k.log;
      others = others_more a.region a.log.told b.log.told c.log.told h.others (subst (λ (r : ℕ). OnMarks (TidiesOthers r) b.log.told c.log.told) h.region k.others);
    }

-- what is backed by what rose later is backed by what rose in all
backed_early : (act : Act) (event : Event) (a b c : RegionSeen) → KeepPlexes a.plexes b.plexes → KeepsLog a.log b.log → IsBacked act event b c → IsBacked act event a c
backed_early act event a b c plexes log h =
    record {
      plexes = λ k e. rose_now k a.plexes b.plexes c.plexes plexes (h.plexes k e);
      log = λ e. log_now a.log b.log c.log log (h.log e);
      cut = h.cut;
    }

all_early : (course : List Happening) (s : Stage) (a b c : RegionSeen) → KeepPlexes a.plexes b.plexes → KeepsLog a.log b.log → AreBacked course s b c → AreBacked course s a c
all_early [] s a b c plexes log h = tt
all_early (Comes event now call values ∷ hs) s a b c plexes log h = (backed_early (act_of s s.phase) event a b c plexes log h.0, all_early hs (next_of s event).0 a b c plexes log h.1)
all_early (Elsewhere marks ∷ hs) s a b c plexes log h = absurd h

backed_append : (first then : List Happening) (s : Stage) (old new : RegionSeen) → AreBacked first s old new → AreBacked then (stage_after first s) old new → AreBacked (first ++ then) s old new
unfolding stage_after
backed_append [] then s old new h k = k
backed_append (Comes event now call values ∷ hs) then s old new h k = (h.0, backed_append hs then (next_of s event).0 old new h.1 k)
backed_append (Elsewhere marks ∷ hs) then s old new h k = absurd h

-- one course and then another
goes_both : (allows : Fixed → List Entry → Type 0) (c1 c2 : List Happening) (a b c : RegionSeen) (last : ℕ) (call call' : Pending) (more more' : List Entry → List Entry) → KeepsRegion a b → KeepsRegion b c →
    GoesBy allows c1 a last call b NoCall more → GoesBy (λ fixed entries. Unit {0}) c2 b b.number NoCall c call' more' → GoesBy allows (c1 ++ c2) a last call c call' (λ es. more' (more es))
goes_both allows c1 c2 a b c last call call' more more' kept kept' g h =
    record {
      fits = λ fixed entries may.
          fits_both c1 c2 (state_of a fixed entries call last) (g.fits fixed entries may) (subst (λ (r : RegionState). EachFits c2 r) (sym (g.ends fixed entries)) (h.fits fixed (more entries) tt));
      ends = λ fixed entries. after_both c1 c2 (state_of a fixed entries call last) ∙ ap (λ (r : RegionState). region_after c2 r) (g.ends fixed entries) ∙ h.ends fixed (more entries);
      backed =
          let at_end : stage_after c1 a.stage ≡ b.stage = sym (course_stage c1 (state_of a some_fixed [] call last)) ∙ ap (λ (r : RegionState). r.stage) (g.ends some_fixed []) in
          backed_append c1 c2 a.stage a c (backed_more c1 a.stage a b c kept'.plexes kept'.log g.backed)
          (subst (λ (s : Stage). AreBacked c2 s a c) (sym at_end) (all_early c2 b.stage a b c kept.plexes kept.log h.backed));
    }

-- a clear adds no entry, and leaves no call
quiet_more : (result : Result (Unit {0}) CellFault) (values : Contents) (entries : List Entry) → entries_by result NoCall values entries ≡ entries
quiet_more (Ok u) values entries = refl
quiet_more (Err (Fault place)) values entries = refl
quiet_more (Err PowerLost) values entries = refl
quiet_more (Err Held) values entries = refl
quiet_more (Err (Only map)) values entries = refl

quiet_left : (result : Result (Unit {0}) CellFault) → call_left result NoCall ≡ NoCall
quiet_left (Ok u) = refl
quiet_left (Err (Fault place)) = refl
quiet_left (Err PowerLost) = refl
quiet_left (Err Held) = refl
quiet_left (Err (Only map)) = refl

-- the clear of a settled region, told of no call
clear_goes : (io : Bytes) (b c : RegionSeen) (io' : Bytes) (result : Result (Unit {0}) CellFault) → b.stage.phase ≡ Settled → HasEnded Clear io b c io' result → IsTold b → Caller →
    (course : List Happening) × GoesBy (λ fixed entries. Unit {0}) course b b.number NoCall c NoCall (λ es. es)
clear_goes io b c io' result settled ended told who =
    let g = ended.goes told who in
    let h : GoesBy (λ fixed entries. Unit {0}) g.0 b b.number NoCall c (call_left result NoCall) (entries_by result NoCall (values_at (b.start + io'.at) io'.into)) =
    subst (λ (p : Phase). GoesBy (Allows p (start_last p Clear b.number) NoCall) g.0 b (start_last p Clear b.number) (start_call p NoCall) c (call_left result NoCall) (entries_by result NoCall (values_at (b.start + io'.at) io'.into))) settled g.1 in (
      g.0,
      record {
        fits = h.fits;
        ends = λ fixed entries.
            h.ends fixed entries ∙ ap (λ (p : Pending). state_of c fixed (entries_by result NoCall (values_at (b.start + io'.at) io'.into) entries) p c.number) (quiet_left result)
            ∙ ap (λ (es : List Entry). state_of c fixed es NoCall c.number) (quiet_more result (values_at (b.start + io'.at) io'.into) entries);
        backed = h.backed;
      },
    )

-- ---- the two together

-- a write that was not done, or of a region without a log
pub written_alone : (io : Bytes) (old new : RegionSeen) (io' : Bytes) (result : Result ℕ CellFault) → old.log.lent ≡ false → HasEnded WriteJob io old new io' result → HasWritten io old new io' result
written_alone io old new io' (Ok n) own h = record { whole = h.whole; kept = h.kept; number = h.number; masks = h.masks; tells = h.tells; goes = h.goes; phase = inl h.phase; cause = h.cause; calls = tt }
written_alone io old new io' (Err (Fault place)) own h = record { whole = h.whole; kept = h.kept; number = h.number; masks = h.masks; tells = h.tells; goes = h.goes; phase = h.phase; cause = h.cause; calls = h.calls }
written_alone io old new io' (Err PowerLost) own h =
    record { whole = h.whole; kept = h.kept; number = h.number; masks = h.masks; tells = h.tells; goes = λ told who. let g = h.goes told who in (g.0, inl g.1); phase = h.phase; cause = h.cause; calls = tt }
written_alone io old new io' (Err Held) own h = let e = h.cause in cc
written_alone io old new io' (Err (Only map)) own h = absurd h.cause

module _ (n : ℕ) (io : Bytes) (old mid new : RegionSeen) (io' : Bytes) (scratch : List ℕ) (h : HasEnded WriteJob io old mid io' (Ok n)) where
  -- the bytes after the clear
  abbrev last : Bytes
  last = record io' { scratch = scratch }

  both : (io2 io2' : Bytes) (cleared : Result (Unit {0}) CellFault) → HasEnded Clear io2 mid new io2' cleared → (told : IsTold old) (who : Caller) → (course : List Happening) ×
      GoesBy (Allows old.stage.phase (start_last old.stage.phase WriteJob old.number) (call_of WriteJob io old who)) course old (start_last old.stage.phase WriteJob old.number)
      (start_call old.stage.phase (call_of WriteJob io old who)) new NoCall (entries_after Done (call_of WriteJob io old who) (values_at (old.start + io'.at) io'.into))
  both io2 io2' cleared k told who =
      let g = h.goes told who in
      let c = clear_goes io2 mid new io2' cleared h.phase k (h.tells told) who in
      (g.0 ++ c.0, goes_both _ g.0 c.0 old mid new _ _ NoCall _ (λ es. es) h.kept k.kept g.1 c.1)

  fine : (io2 io2' : Bytes) (cleared : Result (Unit {0}) CellFault) → HasEnded Clear io2 mid new io2' cleared → (new.stage.phase ≡ Settled) ⊎ (new.stage.phase ≡ Unsettled) → HasWritten io old new last (Ok n)
  fine io2 io2' cleared k settled =
      record {
        whole = k.whole;
        kept = keeps_both old mid new h.kept k.kept;
        number = k.number ∙ h.number;
        masks = (k.masks.0 ∙ h.masks.0, k.masks.1 ∙ h.masks.1, k.masks.2 ∙ h.masks.2, k.masks.3 ∙ h.masks.3);
        tells = λ told. k.tells (h.tells told);
        goes = both io2 io2' cleared k;
        phase = settled;
        cause = tt;
        calls = tt;
      }

  after_clear : (io2 io2' : Bytes) (cleared : Result (Unit {0}) CellFault) → mid.log.lent ≡ false → HasEnded Clear io2 mid new io2' cleared → HasWritten io old new last (answer_after n cleared)
  after_clear io2 io2' (Ok u) own k = fine io2 io2' (Ok u) k (inl k.phase)
  after_clear io2 io2' (Err (Fault place)) own k = fine io2 io2' (Err (Fault place)) k k.phase
  after_clear io2 io2' (Err PowerLost) own k =
      record {
        whole = k.whole;
        kept = keeps_both old mid new h.kept k.kept;
        number = k.number ∙ h.number;
        masks = (k.masks.0 ∙ h.masks.0, k.masks.1 ∙ h.masks.1, k.masks.2 ∙ h.masks.2, k.masks.3 ∙ h.masks.3);
        tells = λ told. k.tells (h.tells told);
        goes = λ told who. let g = both io2 io2' (Err PowerLost) k told who in (g.0, inr g.1);
        phase = k.phase;
        cause = k.cause;
        calls = tt;
      }
  after_clear io2 io2' (Err Held) own k = let e = k.cause in cc
  after_clear io2 io2' (Err (Only map)) own k = absurd k.cause

  pub with_clear : (result : Result ℕ CellFault) → mid.log.lent ≡ false → HasCleared n mid new result → HasWritten io old new last result
  with_clear result own k = subst (λ (r : Result ℕ CellFault). HasWritten io old new last r) (sym k.answer) (after_clear k.io k.io' k.cleared own k.ended)

-- the call on a cell
pub write_alone : (io : Bytes) (old new : RegionSeen) (io' : Bytes) (result : Result ℕ CellFault) → old.log.lent ≡ false → CallEnds WriteJob io old new io' result → WriteEnds io old new io' result
write_alone io old new io' result own h = record { dead = h.dead; ended = λ alive. written_alone io (numbered WriteJob old) new io' result own (h.ended alive) }

pub write_and_clear : (n : ℕ) (io : Bytes) (old mid new : RegionSeen) (io' : Bytes) (scratch : List ℕ) (written result : Result ℕ CellFault) → written ≡ Ok n → old.log.lent ≡ false → CallEnds WriteJob io old mid io' written → HasCleared n mid new result →
    WriteEnds io old new (record io' { scratch = scratch }) result
write_and_clear n io old mid new io' scratch written result is own h cleared =
    let alive : old.stage.phase ≡ Dead → ⊥ = λ dead. not_ok (sym (h.dead dead).answer ∙ is) in
    let done : HasEnded WriteJob io (numbered WriteJob old) mid io' (Ok n) = subst (λ (r : Result ℕ CellFault). HasEnded WriteJob io (numbered WriteJob old) mid io' r) is (h.ended alive) in
    record {
      dead = λ dead. absurd (alive dead);
      ended = λ again. with_clear n io (numbered WriteJob old) mid new io' scratch done result (done.kept.log.lent ∙ own) cleared;
    }
  where
    not_ok : {T : Type 0} {n : T} {e : CellFault} → Err e ≡ Ok n → ⊥
    not_ok e = cc

-- what the clear needs
pub settled_after : (n : ℕ) (io : Bytes) (old mid : RegionSeen) (io' : Bytes) (written : Result ℕ CellFault) → written ≡ Ok n → CallEnds WriteJob io old mid io' written → (mid.stage.phase ≡ Settled) × IsWhole mid × (mid.size ≡ old.size)
settled_after n io old mid io' written is h =
    let alive : old.stage.phase ≡ Dead → ⊥ = λ dead. not_ok (sym (h.dead dead).answer ∙ is) in
    let done : HasEnded WriteJob io (numbered WriteJob old) mid io' (Ok n) = subst (λ (r : Result ℕ CellFault). HasEnded WriteJob io (numbered WriteJob old) mid io' r) is (h.ended alive) in
    (done.phase, done.whole, done.kept.size)
  where
    not_ok : {T : Type 0} {n : T} {e : CellFault} → Err e ≡ Ok n → ⊥
    not_ok e = cc

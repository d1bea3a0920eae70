-- What becomes of a region after a cut.
use Rattle.std.proofs.Common.{◌≡◌, ◌≢◌, ℕ, ◌<◌, ◌≤◌, ◌^◌, ◌⊎◌, inl, inr, Bool, true, false, refl, sym, ◌∙◌, ap, subst, arith, cond, List, [], ◌∷◌}
use Rattle.std.specs.Prelude.{◌==◌}
use Rattle.vx_core.specs.declared.stage.Job.{Job}
use Rattle.vx_core.specs.declared.stage.Event.{Event}
use Rattle.vx_core.specs.declared.stage.Act.{Act}
use Rattle.vx_core.specs.declared.stage.Phase.{Phase}
use Rattle.vx_core.specs.declared.stage.Stage.{Stage}
use Rattle.vx_core.specs.declared.stage.Job.TheVariants.{Settle, Clear}
use Rattle.vx_core.specs.declared.stage.Event.TheVariants.{Begin, ReadFailed}
use Rattle.vx_core.specs.declared.stage.Act.TheVariants.{Done, Skipped, Fault, Lost}
use Rattle.vx_core.specs.declared.stage.Phase.TheVariants.{Settled, Unsettled, Dead, Busy}
use Rattle.vx_base.specs.Blocks.{Contents}
use Rattle.vx_life.specs.Candidates.{IsAmong}
use Rattle.vx_life.specs.Entry.{Entry, candidates_of}
use Rattle.vx_mask.specs.Mask.{has, only, lowest, above_lowest}
use Rattle.vx_mask.proofs.MaskLemmas.{empty_from_test}
use Rattle.vx_mask.proofs.Tests.{not_both, true_or_false}
use Rattle.vx_core.specs.Table.{current, copy, settle, begun, next_of}
use Rattle.vx_core.specs.History.{Pending, NoCall, Reads, Writes, IsRecord}
use Rattle.vx_core.specs.Region.{Disks, Fixed, Around, RegionState, told, CallOf, FitsIn, entries_after, pending_after}
use Rattle.vx_core.specs.Soundness.{freeing, IsBetween, IsUnmarked, Agree, IsDirty, IsOpen, MarkedIn}
use Rattle.vx_core.specs.Form.{IsStage}
use Rattle.vx_core.specs.Kept.{CallIn, IsKept}
use Rattle.std.specs.Prelude.{zero, suc}
use Rattle.vx_mask.proofs.MaskLemmas.{without-le}
use Rattle.vx_core.specs.Region.{pending_at}
use Rattle.vx_core.specs.Recovery.{loaded, IsCutWith, EachCopyLoadsSound, IsRecovering, region_after, Recovers, IsRecovered, EachRecovers, above, after_failed_reads, ReadsLowestFirst}
use Rattle.vx_core.specs.Schedule.{Happening, Comes, Elsewhere, Fits, happens, run, IsIdle}
use Rattle.vx_core.proofs.Begins.{no_call_settle, no_call_clear}
use Rattle.vx_core.proofs.Ends.{sound_from_ends, ends_from_sound}
use Rattle.vx_core.proofs.Histories.{quiet_told}
use Rattle.vx_core.proofs.ScheduleLaws.{IsKeptState, keeps_happening, keeps_run, kept_from_fresh, idle_form, idle_contents}

-- ---- a copy is loaded

stage_loaded : (s : Stage) (held : ℕ → Bool) (mask : ℕ) → IsStage s held → s.logged ≡ true → mask < 2 ^ 64 → IsStage (record s { bits = mask }) held
stage_loaded s held mask h logged fits =
    record {
      on_fits = h.on_fits;
      off_fits = h.off_fits;
      snaps_fit = h.snaps_fit;
      bits_fit = fits;
      off_apart = h.off_apart;
      snaps_apart = h.snaps_apart;
      off_snaps = h.off_snaps;
      dirty_apart = h.dirty_apart;
      held_on = h.held_on;
      plexes = h.plexes;
      alone = h.alone;
      unlogged = λ plain k. not_both logged plain;
    }

-- what a copy shows is a choice of the marks
is_between : (s : Stage) (a : Around) (copy mask : ℕ) → IsKept s Dead a → copy < a.fixed.copies → ((k : ℕ) → has mask k ≡ a.disks.marks.shows copy k) → IsBetween s Dead a (has mask)
is_between s a copy mask kept there shows =
    record {
      least = λ k bit. shows k ∙ kept.sound.shown copy k there bit;
      most = λ k h. kept.sound.bounded copy k there (sym (shows k) ∙ h);
    }

loaded_agrees : (dirty : Bool) (s : Stage) (a : Around) (mask : ℕ) → has mask 30 ≡ dirty → Agree a (has mask) ⊎ (IsOpen Dead × IsDirty s a.fixed.held (has mask)) →
    Agree a (has mask) ⊎ (IsOpen (cond dirty Unsettled Settled) × IsDirty s a.fixed.held (has mask))
loaded_agrees dirty s a mask is (inl agree) = inl agree
loaded_agrees true s a mask is (inr may) = inr (tt, may.1)
loaded_agrees false s a mask is (inr may) = not_both may.1.dirty is

loaded_idle : (dirty : Bool) → IsIdle (cond dirty Unsettled Settled)
loaded_idle true = tt
loaded_idle false = tt

idle_frees : (phase : Phase) → IsIdle phase → (k : ℕ) → freeing phase k ≡ false
idle_frees (Busy w) idle k = absurd idle
idle_frees phase idle k = refl

pub idle_marked : (s : Stage) (phase : Phase) → IsIdle phase → MarkedIn s phase
idle_marked s (Busy w) idle = absurd idle
idle_marked s phase idle = tt

pub idle_call : (phase : Phase) (call : Pending) → IsIdle phase → CallIn phase call → call ≡ NoCall
idle_call Settled call idle h = h
idle_call Unsettled call idle h = h
idle_call Dead call idle h = h
idle_call (Busy w) call idle h = absurd idle

pub call_idle : (phase : Phase) (call : Pending) → IsIdle phase → call ≡ NoCall → CallIn phase call
call_idle Settled call idle h = h
call_idle Unsettled call idle h = h
call_idle Dead call idle h = h
call_idle (Busy w) call idle h = absurd idle

-- the region that was loaded, at its phase
abbrev round_loaded : Around → ℕ → Around
round_loaded a mask =
    record {
      disks = record { blocks = a.disks.blocks; marks = record { shows = λ n k. has mask k; loose = λ k. false } };
      fixed = a.fixed;
      entries = a.entries;
      pending = NoCall;
      last = a.last;
    }

loads_at : (s : Stage) (a : Around) (copy mask : ℕ) → IsKept s Dead a → s.logged ≡ true → copy < a.fixed.copies → mask < 2 ^ 64 →
    ((k : ℕ) → has mask k ≡ a.disks.marks.shows copy k) →
    IsKept (record s { bits = mask; phase = cond (has mask 30) Unsettled Settled }) (cond (has mask 30) Unsettled Settled) (round_loaded a mask)
loads_at s a copy mask kept logged there fits shows =
    let under = kept.sound.under (has mask) (is_between s a copy mask kept there shows) in
    let phase = cond (has mask 30) Unsettled Settled in
    let idle = loaded_idle (has mask 30) in
    let e_told = quiet_told a.entries a.pending kept.call in
    record {
      form = record {
        stage = stage_loaded s a.fixed.held mask kept.form.stage logged fits;
        readable = let r = under.readable in (r.0, r.1, r.2, idle_frees phase idle r.0);
        step = idle_form (record s { bits = mask; phase = phase }) phase idle;
        marked = idle_marked (record s { bits = mask; phase = phase }) phase idle;
      };
      apart = λ k h. cc;
      sound = sound_from_ends (record {
        shown = λ n k c bit. bit;
        bounded = λ n k c h. inl h;
        readable = let r = under.readable in (r.0, r.1, record { bits = r.2; loose = refl; freeing = idle_frees phase idle r.0 });
        candidates = λ k i unmarked.
            subst (λ (es : List Entry). IsAmong (candidates_of a.fixed.first es i) (a.disks.blocks k i)) (sym e_told) (under.candidates k i unmarked);
        agree = loaded_agrees (has mask 30) s a mask refl under.agree;
        tracked = under.tracked;
        marked = idle_marked (record s { bits = mask; phase = phase }) phase idle;
      });
      call = call_idle phase NoCall idle refl;
      contents = idle_contents (record s { bits = mask; phase = phase }) phase NoCall a.disks.blocks idle;
      history = subst (λ (es : List Entry). IsRecord a.fixed.region a.fixed.from a.fixed.first es a.last) (sym e_told) kept.history;
    }

kept_dead : (r : RegionState) → IsKeptState r → r.stage.phase ≡ Dead → IsKept r.stage Dead r.around
kept_dead r kept dead = subst (λ (phase : Phase). IsKept r.stage phase r.around) dead kept

pub loads : (r : RegionState) (copy mask : ℕ) → IsKeptState r → IsCutWith r copy mask → IsKeptState (loaded r mask)
loads r copy mask kept cut = loads_at r.stage r.around copy mask (kept_dead r kept cut.dead) cut.logged cut.there cut.fits cut.shows

pub each_copy_loads_sound : EachCopyLoadsSound
each_copy_loads_sound regions happenings fresh fits n copy mask cut =
    let kept = keeps_run happenings regions (λ k. kept_from_fresh (regions k) (fresh k)) fits n in
    (loads (run happenings regions n) copy mask kept cut).sound

-- ---- a recovery makes no call

no_entry : (act : Act) (call : Pending) (values : Contents) (entries : List Entry) → call ≡ NoCall → entries_after act call values entries ≡ entries
no_entry Done NoCall values entries e = refl
no_entry Done (Reads call) values entries e = cc
no_entry Done (Writes call new) values entries e = cc
no_entry Fault call values entries e = sym (quiet_told entries call e)
no_entry Lost call values entries e = sym (quiet_told entries call e)
no_entry act call values entries e = refl

still_none : (act : Act) (call : Pending) → call ≡ NoCall → pending_after act call ≡ NoCall
still_none Done call e = refl
still_none Skipped call e = refl
still_none Fault call e = refl
still_none Lost call e = refl
still_none act call e = e

-- a settling or a clear begins without a call
begun_quiet : (s : Stage) (phase : Phase) (a : Around) (job : Job) (now : Disks) (call : Pending) (values : Contents) → ((c : Pending) → CallOf job c → c ≡ NoCall) →
    FitsIn s phase a (Begin job) now call values → call ≡ NoCall
begun_quiet s Settled a job now call values quiet fits = quiet call fits.1
begun_quiet s Unsettled a job now call values quiet fits = quiet call fits.1
begun_quiet s Dead a job now call values quiet fits = fits.1
begun_quiet s (Busy w) a job now call values quiet fits = absurd fits.0.1

pending_quiet : (s : Stage) (phase : Phase) (a : Around) (event : Event) (now : Disks) (call : Pending) (values : Contents) → IsRecovering (Comes event now call values) →
    FitsIn s phase a event now call values → a.pending ≡ NoCall → pending_at a.pending event call ≡ NoCall
pending_quiet s phase a (Begin Settle) now call values is fits none = begun_quiet s phase a Settle now call values no_call_settle fits
pending_quiet s phase a (Begin Clear) now call values is fits none = begun_quiet s phase a Clear now call values no_call_clear fits
pending_quiet s phase a (Begin job) now call values is fits none = absurd is
pending_quiet s phase a event now call values is fits none = none

-- the same history, and no call
pub record IsQuiet (was now : RegionState) : Type 0 where
  pub none : now.around.pending ≡ NoCall
  pub entries : now.around.entries ≡ was.around.entries
  pub fixed : now.around.fixed ≡ was.around.fixed

quiet_happening : (was r : RegionState) (h : Happening) → IsQuiet was r → Fits r h → IsRecovering h → IsQuiet was (happens r h)
quiet_happening was r (Comes event now call values) quiet fits is =
    let none = pending_quiet r.stage r.stage.phase r.around event now call values is fits quiet.none in
    record {
      none = still_none (next_of r.stage event).1 (pending_at r.around.pending event call) none;
      entries = no_entry (next_of r.stage event).1 (pending_at r.around.pending event call) values r.around.entries none ∙ quiet.entries;
      fixed = quiet.fixed;
    }
quiet_happening was r (Elsewhere marks) quiet fits is = record { none = quiet.none; entries = quiet.entries; fixed = quiet.fixed }

quiet_run : (was r : RegionState) (hs : List Happening) → IsQuiet was r → Recovers hs r → IsQuiet was (region_after hs r)
quiet_run was r [] quiet recovers = quiet
quiet_run was r (h ∷ hs) quiet recovers = quiet_run was (happens r h) hs (quiet_happening was r h quiet recovers.0 recovers.1) recovers.2

kept_run : (r : RegionState) (hs : List Happening) → IsKeptState r → Recovers hs r → IsKeptState (region_after hs r)
kept_run r [] kept recovers = kept
kept_run r (h ∷ hs) kept recovers = kept_run (happens r h) hs (keeps_happening r h kept recovers.0) recovers.2

-- a settled region has one list of blocks
settled_agrees : (s : Stage) (phase : Phase) (a : Around) → IsKept s phase a → phase ≡ Settled → Agree a (has s.bits)
settled_agrees s Settled a kept e = elim (ends_from_sound kept.sound).agree [ inl agree ↦ agree | inr may ↦ absurd may.0 ]
settled_agrees s Unsettled a kept e = cc
settled_agrees s Dead a kept e = cc
settled_agrees s (Busy w) a kept e = cc

recovered_at : (was now : RegionState) → IsKeptState now → IsQuiet was now → now.stage.phase ≡ Settled → IsRecovered was now
recovered_at was now kept quiet settled =
    let ends = ends_from_sound kept.sound in
    let k = ends.readable.0 in
    let at_k : IsUnmarked now.around (has now.stage.bits) k = (kept.form.stage.held_on k ends.readable.1, ends.readable.2.bits) in
    let e_told : told now.around ≡ was.around.entries = sym (quiet_told now.around.entries now.around.pending quiet.none) ∙ quiet.entries in
    record {
      blocks = now.around.disks.blocks k;
      holds = λ j i at_j. settled_agrees now.stage now.stage.phase now.around kept settled j k i at_j at_k;
      among = λ i.
          subst (λ (f : Fixed). IsAmong (candidates_of f.first was.around.entries i) (now.around.disks.blocks k i)) quiet.fixed
          (subst (λ (es : List Entry). IsAmong (candidates_of now.around.fixed.first es i) (now.around.disks.blocks k i)) e_told (ends.candidates k i at_k));
      readable = (k, ends.readable.1, ends.readable.2.bits);
      entries = quiet.entries;
    }

pub each_recovers : EachRecovers
each_recovers regions happenings fresh fits n copy mask cut recovery recovers settled =
    let r = run happenings regions n in
    let kept = keeps_run happenings regions (λ k. kept_from_fresh (regions k) (fresh k)) fits n in
    recovered_at r (region_after recovery (loaded r mask)) (kept_run (loaded r mask) recovery (loads r copy mask kept cut) recovers)
    (quiet_run r (loaded r mask) recovery (record { none = refl; entries = refl; fixed = refl }) recovers) settled

-- ---- the plex that a settling copies from

settle_some : (b : Bool) (x y : Stage × Act) → b ≡ false → cond b x y ≡ y
settle_some true x y e = cc
settle_some false x y e = refl

some_test : (n : ℕ) → n ≢ 0 → (n == 0) ≡ false
some_test n some = elim (true_or_false (n == 0)) [ inr out ↦ out | inl is ↦ absurd (some (empty_from_test n is)) ]

still_some : (mask : ℕ) → above_lowest mask ≢ 0 → mask ≢ 0
still_some mask some e = some (none_left (above_lowest mask) (subst (λ (m : ℕ). above_lowest mask ≤ m) e (without-le mask (only (lowest mask)))))
  where
    none_left : (n : ℕ) → n ≤ 0 → n ≡ 0
    none_left n h = omega (arith, h)

reads_at : (s : Stage) (job : Job) (n : ℕ) → s.phase ≡ Unsettled → above n (current s) ≢ 0 → after_failed_reads n s job ≡ settle s job (above n (current s))
reads_at s job zero e some = ap (λ (p : Phase). begun s p job) e
reads_at s job (suc n) e some =
    let left = above n (current s) in
    let more = still_some left some in
    ap (λ (x : Stage × Act). next_of x.0 (ReadFailed (lowest left))) (reads_at s job n e more ∙ settle_some (left == 0) _ _ (some_test left more))

pub reads_lowest_first : ReadsLowestFirst
reads_lowest_first s job n e some =
    ap (λ (x : Stage × Act). x.1) (reads_at s job n e some ∙ settle_some (above n (current s) == 0) _ _ (some_test (above n (current s)) some))

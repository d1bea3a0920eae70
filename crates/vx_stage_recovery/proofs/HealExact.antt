-- In a healing that is done no call on the log has failed. So its log stays exact, whatever its plexes hold.
use Rattle.std.proofs.Common.{◌≡◌, ◌∙◌, ℕ, zero, suc, ◌<◌, Bool, false, inl, inr, refl, sym, ap, subst, List, [], ◌∷◌, length, Option, None, Result, Ok, Err, ◌≢◌, ◌+◌, ◌++◌, Some}
use Rattle.vx_base.specs.Blocks.{Contents}
use Rattle.vx_life.specs.Entry.{Entry}
use Rattle.vx_mask.specs.Mask.{has}
use Rattle.vx_mask.specs.Marks.{Marks, MayTidy}
use Rattle.vx_mask.proofs.Tests.{true_or_false}
use Rattle.vx_core.specs.declared.stage.Event.{Event}
use Rattle.vx_core.specs.declared.stage.Phase.{Phase}
use Rattle.vx_core.specs.declared.stage.Act.TheVariants.{Done}
use Rattle.vx_core.specs.declared.stage.Event.TheVariants.{Begin, Marked, MarkFailed, Unmarked, UnmarkFailed, Wrote, WriteFailed, Got, ReadFailed, Cut}
use Rattle.vx_core.specs.declared.stage.Job.{Job}
use Rattle.vx_core.specs.declared.stage.Job.TheVariants.{Copy as CopyJob, Settle, Clear}
use Rattle.vx_core.specs.declared.stage.Phase.TheVariants.{Dead, Settled}
use Rattle.vx_core.specs.Form.{IsFormed}
use Rattle.vx_core.specs.History.{NoCall, Pending, MayBegin}
use Rattle.vx_core.specs.Recovery.{region_after}
use Rattle.vx_core.specs.Region.{Fixed, RegionState, entries_after}
use Rattle.vx_core.specs.Schedule.{Comes, Elsewhere, Happening, IsIdle}
use Rattle.vx_core_laws.specs.Course.{EachFits}
use Rattle.vx_core_laws.specs.Exact.{AreWell, IsExact, IsWell}
use Rattle.vx_core_laws.proofs.Exactly.{each_log_is_exact}
use Rattle.vx_marks.specs.Log.{LogSeen, OnMarks}
use Rattle.vx_cell.specs.declared.fault.CellFault.{CellFault}
use Rattle.vx_cell.specs.Calls.{HasEnded}
use Rattle.vx_cell.specs.Plexes.{holds}
use Rattle.vx_cell.specs.Region.{RegionSeen, marks_or, state_of, IsTold, Tells, TidiesOthers}
use Rattle.vx_cell.specs.Running.{Allows, Caller, call_of, last_before, start_call, start_last, values_at}
use Rattle.vx_volume.specs.Calls.{ChangesRegion}
use Rattle.vx_volume.specs.Laws.{AreTold, RegionsGoOn}
use Rattle.vx_volume.specs.Loop.{AreDone, stop_of}
use Rattle.vx_volume.specs.Passes.{Clears, CopiesTo, Copying, Settles, IsClearedAt, IsCopiedAt, IsSettledAt}
use Rattle.vx_volume.specs.Volume.{IsVolume, VolumeSeen, cell_at, region_at, with_log}
use Rattle.vx_volume.proofs.PassHistories.{clear_pass, copy_pass, settle_pass}
use Rattle.vx_volume.proofs.Volumes.{going_then, IsGone, clear_job, copy_job, settle_job}
use Rattle.vx_volume_laws.specs.Exact.{IsExactVolume}
use Rattle.vx_volume_laws.proofs.ExactLogs.{dead_stays}
use Rattle.vx_volume_laws.proofs.OneCopies.{after_by, course_by, disks_by, fits_by, marks_by, state_by}
use Rattle.vx_group_start.specs.Copying.{CopiesMap}
use Rattle.vx_group_volumes.proofs.CopiesRun.{pass_volume}
use Rattle.vx_group_volumes.proofs.Rests.{settled_volume}
use Rattle.vx_group_volumes.proofs.Tight.{pass_done}
use Rattle.vx_group_recover.specs.Healing.{IsHealed}
use Rattle.vx_group_recover.specs.declared.healing.Healed.{Healed}
use Rattle.vx_stage_recovery.proofs.Bare.{after_bare, bare, bare_course, bare_fixed, fits_bare, kept_bare, well_bare}
use Rattle.std.proofs.lemmas.Bool.{cases_eq}
use Rattle.vx_core_laws.proofs.Courses.{after_both, fits_both}
use Rattle.vx_cell.specs.Acts.{Bytes}
use Rattle.vx_cell.specs.Changes.{CellSeen}
use Rattle.vx_volume.proofs.Histories.{idle_allows, idle_call, idle_last}
use Rattle.vx_cell.specs.declared.fault.CellFault.TheVariants as cell

-- ---- no number is drawn

-- no bound on its numbers has changed
abbrev pub IsQuiet : VolumeSeen → VolumeSeen → Type 0
IsQuiet old new = new.most ≡ old.most

step_quiet : (Way : RegionSeen → RegionSeen → Type 0) (n : ℕ) (old new : VolumeSeen) → ChangesRegion n Way old new → IsQuiet old new
step_quiet Way n old new changes = ap (λ (v : VolumeSeen). v.most) changes.same

-- one after the other
module _ {S : Type 0} (volume : S → VolumeSeen) (Call : ℕ → Option CellFault → S → S → Type 0) (one : (n : ℕ) (old new : S) → Call n None old new → IsQuiet (volume old) (volume new)) where
  all_quiet : (n : ℕ) (old new : S) → AreDone Call n old new → IsQuiet (volume old) (volume new)
  all_quiet zero old new same = ap (λ (s : S). (volume s).most) same
  all_quiet (suc n) old new (mid, done, last) = one n mid new last ∙ all_quiet n old mid done

map_quiet : (mask map : ℕ) (old new : VolumeSeen) → CopiesMap mask map None old new → IsQuiet old new
map_quiet mask map old new copies = elim (true_or_false (has mask map)) [
  | inl there ↦
      let pass = copies.pass there in
      let done = pass_done map pass.result old new pass.stopped pass.ends in
      all_quiet (λ (c : Copying). c.volume) (CopiesTo map) (λ n from to step. step_quiet _ n from.volume to.volume step.ends) (length old.cells) (record { volume = old; copied = 0 }) (record { volume = new; copied = done.0 }) done.1
  | inr away ↦ ap (λ (v : VolumeSeen). v.most) (copies.none away).1
]

pub healed_quiet : (old new : VolumeSeen) (healed : Healed) → IsHealed old new healed → IsQuiet old new
healed_quiet old new healed is =
    let settled = all_quiet (λ (v : VolumeSeen). v) Settles (λ n from to step. step_quiet _ n from to step) (length old.cells) old is.mid is.settled.settled.0 in
    let copied = all_quiet (λ (v : VolumeSeen). v) (CopiesMap is.mask) (map_quiet is.mask) is.copied.maps is.mid is.whole is.copied.made in
    let cleared = all_quiet (λ (v : VolumeSeen). v) Clears (λ n from to step. step_quiet _ n from to step) (length is.whole.cells) is.whole new is.cleared.0 in
    cleared ∙ copied ∙ settled

-- ---- each region goes on

module _ (old : VolumeSeen) (was : IsVolume old) (told : AreTold old) (fixed : ℕ → Fixed) (entries : ℕ → List Entry) where
  -- so far is the volume
  record IsOnAt (mid : VolumeSeen) : Type 0 where
    volume : IsVolume mid
    goes : RegionsGoOn old mid fixed entries entries

  then : (mid new : VolumeSeen) → IsOnAt mid → RegionsGoOn mid new fixed entries entries → RegionsGoOn old new fixed entries entries
  then mid new at goes = going_then old mid new fixed entries entries entries at.goes goes

  on_map : (mask map : ℕ) (mid new : VolumeSeen) → CopiesMap mask map None mid new → IsOnAt mid → IsOnAt new
  on_map mask map mid new copies at = elim (true_or_false (has mask map)) [
    | inl there ↦
        let pass = copies.pass there in
        record { volume = pass_volume map mid new pass.result pass.ends at.volume; goes = then mid new at (copy_pass map mid new pass.result pass.ends at.volume at.goes.told fixed entries) }
    | inr away ↦ subst IsOnAt (sym (copies.none away).1) at
  ]

  all_maps : (mask n : ℕ) (mid new : VolumeSeen) → AreDone (CopiesMap mask) n mid new → IsOnAt mid → IsOnAt new
  all_maps mask zero mid new same at = subst IsOnAt (sym same) at
  all_maps mask (suc n) mid new (before, done, last) at = on_map mask n before new last (all_maps mask n mid before done at)

  pub healed_goes : (new : VolumeSeen) (healed : Healed) → IsHealed old new healed → RegionsGoOn old new fixed entries entries
  healed_goes new healed is =
      let first = settle_pass old is.mid (Ok tt) is.settled.settled was told fixed entries in
      let mid : IsOnAt is.mid = record { volume = settled_volume old is.mid is.settled.settled was; goes = first } in
      let whole : IsOnAt is.whole = all_maps is.mask is.copied.maps is.mid is.whole is.copied.made mid in
      then is.whole new whole (clear_pass is.whole new (Ok tt) is.cleared whole.volume whole.goes.told fixed entries)

-- ---- one region

-- The region goes on, with the entries that it had, by a course in which no call on the log failed, and the power was not cut.
record GoesWell (old new : RegionSeen) (fixed : Fixed) (entries : List Entry) : Type 0 where
  course : List Happening
  fits : EachFits course (state_of old fixed entries NoCall old.number)
  ends : region_after course (state_of old fixed entries NoCall old.number) ≡ state_of new fixed entries NoCall new.number
  well : AreWell course

well_same : (r : RegionSeen) (fixed : Fixed) (entries : List Entry) → GoesWell r r fixed entries
well_same r fixed entries = record { course = []; fits = tt; ends = refl; well = tt }

well_both : (first then : List Happening) → AreWell first → AreWell then → AreWell (first ++ then)
well_both [] then one two = two
well_both (h ∷ hs) then one two = (one.0, well_both hs then one.1 two)

well_then : (old mid new : RegionSeen) (fixed : Fixed) (entries : List Entry) → GoesWell old mid fixed entries → GoesWell mid new fixed entries → GoesWell old new fixed entries
well_then old mid new fixed entries first then =
    let was : RegionState = state_of old fixed entries NoCall old.number in
    record {
      course = first.course ++ then.course;
      fits = fits_both first.course then.course was first.fits (subst (λ (s : RegionState). EachFits then.course s) (sym first.ends) then.fits);
      ends = after_both first.course then.course was ∙ ap (λ (s : RegionState). region_after then.course s) first.ends ∙ then.ends;
      well = well_both first.course then.course first.well then.well;
    }

-- where another region of the log was called, its marks are at most tidied
tidied : (region n : ℕ) (a b : Option (ℕ → Marks)) → n ≢ region → Tells a → OnMarks (TidiesOthers region) a b → MayTidy (marks_or a n) (marks_or b n)
tidied region n None b apart tells h = absurd tells
tidied region n (Some a) None apart tells h = absurd h
tidied region n (Some a) (Some b) apart tells h = h n apart

well_other : (region : ℕ) (other : RegionSeen) (log : LogSeen) (fixed : Fixed) (entries : List Entry) → other.region ≢ region → Tells other.log.told → OnMarks (TidiesOthers region) other.log.told log.told →
    GoesWell other (record other { log = log }) fixed entries
well_other region other log fixed entries apart tells others =
    record { course = Elsewhere (marks_or log.told other.region) ∷ []; fits = (tidied region other.region other.log.told log.told apart tells others, tt); ends = refl; well = (tt, tt) }

-- a job without a call, which is done
may_none : (region last : ℕ) (entries : List Entry) (call : Pending) → call ≡ NoCall → MayBegin region last entries call
may_none region last entries call none = subst (λ (c : Pending). MayBegin region last entries c) (sym none) tt

no_entry : (call : Pending) (values : Contents) (entries : List Entry) → call ≡ NoCall → entries_after Done call values entries ≡ entries
no_entry call values entries none = ap (λ (c : Pending). entries_after Done c values entries) none

well_ended : {T : Type 0} (job : Job) (io io' : Bytes) (old new : RegionSeen) (result : Result T CellFault) → HasEnded job io old new io' result → (let o : Option CellFault = None in o) ≡ stop_of result →
    IsIdle old.stage.phase → IsTold old → ((who : Caller) → call_of job io old who ≡ NoCall) → last_before job old.number ≡ old.number → (fixed : Fixed) (entries : List Entry) → GoesWell old new fixed entries
well_ended job io io' old new (Err fault) ended done idle told none drawn fixed entries = cc
well_ended job io io' old new (Ok value) ended done idle told none drawn fixed entries =
    let who : Caller = record { session = 0; place = 0 } in
    let goes = ended.goes told who in
    let call : Pending = call_of job io old who in
    let last : ℕ = start_last old.stage.phase job old.number in
    let same : state_of old fixed entries (start_call old.stage.phase call) last ≡ state_of old fixed entries NoCall old.number =
    ap (λ (c : Pending). state_of old fixed entries c last) (idle_call old.stage.phase call idle) ∙ ap (λ (m : ℕ). state_of old fixed entries NoCall m) (idle_last old.stage.phase job old.number idle ∙ drawn) in
    let may : Allows old.stage.phase last call fixed entries = idle_allows old.stage.phase last call fixed entries (may_none fixed.region last entries call (none who)) in
    record {
      course = goes.0;
      fits = subst (λ (s : RegionState). EachFits goes.0 s) same (goes.1.fits fixed entries may);
      ends = subst (λ (s : RegionState). region_after goes.0 s ≡ state_of new fixed entries NoCall new.number) same
          (goes.1.ends fixed entries ∙ ap (λ (es : List Entry). state_of new fixed es NoCall new.number) (no_entry call (values_at (old.start + io'.at) io'.into) entries (none who)));
      well = ended.courses told who;
    }

-- it has left the region settled
settled_by : {T : Type 0} (job : Job) (io io' : Bytes) (old new : RegionSeen) (result : Result T CellFault) → HasEnded job io old new io' result → (let o : Option CellFault = None in o) ≡ stop_of result → new.stage.phase ≡ Settled
settled_by job io io' old new (Ok value) ended done = ended.phase
settled_by job io io' old new (Err fault) ended done = cc

not_lost : {T : Type 0} (result : Result T CellFault) → (let o : Option CellFault = None in o) ≡ stop_of result → result ≡ Err cell.PowerLost → ⊥
not_lost (Ok value) done lost = cc
not_lost (Err fault) done lost = cc

idle_settled : (phase : Phase) → phase ≡ Settled → IsIdle phase
idle_settled phase is = subst IsIdle (sym is) tt

-- so far has a region gone, and it is idle
abbrev HasGoneWell : RegionSeen → RegionSeen → Type 0
HasGoneWell old new = (IsIdle old.stage.phase → IsTold old → (fixed : Fixed) (entries : List Entry) → GoesWell old new fixed entries) × (new.stage.phase ≡ Settled)

settle_well : (old new : RegionSeen) → IsSettledAt None old new → HasGoneWell old new
settle_well old new is =
    let ended = is.ends.ended.ended (λ dead. not_lost is.result is.stopped (is.ends.ended.dead dead).answer) in
    (λ idle told fixed entries. well_ended Settle _ _ old new is.result ended is.stopped idle told (λ who. refl) refl fixed entries, settled_by Settle _ _ old new is.result ended is.stopped)

clear_well : (old new : RegionSeen) → IsClearedAt None old new → HasGoneWell old new
clear_well old new is =
    let ended = is.ends.ended.ended (λ dead. not_lost is.result is.stopped (is.ends.ended.dead dead).answer) in
    (λ idle told fixed entries. well_ended Clear _ _ old new is.result ended is.stopped idle told (λ who. refl) refl fixed entries, settled_by Clear _ _ old new is.result ended is.stopped)

copy_well : (map : ℕ) (result : Result Bool CellFault) (old new : RegionSeen) → (let o : Option CellFault = None in o) ≡ stop_of result → IsCopiedAt map result old new → HasGoneWell old new
copy_well map result old new done is =
    let ended = is.ends.ended.ended (λ dead. not_lost result done (is.ends.ended.dead dead).answer) in
    (λ idle told fixed entries. well_ended (CopyJob map) _ _ old new result ended done idle told (λ who. refl) refl fixed entries, settled_by (CopyJob map) _ _ old new result ended done)

-- ---- a volume

-- each region has its index, all are idle and tell, and no page of the log is out
record IsSteady (v : VolumeSeen) : Type 0 where
  index : (r : ℕ) → r < length v.cells → (cell_at v r).region ≡ r
  idle : (r : ℕ) → r < length v.cells → IsIdle (cell_at v r).stage.phase
  told : AreTold v

module _ (fixed : ℕ → Fixed) (entries : ℕ → List Entry) where
  record AreGoneWell (old new : VolumeSeen) : Type 0 where
    steady : IsSteady new
    count : length new.cells ≡ length old.cells
    copies : new.log.copies ≡ old.log.copies
    each : (r : ℕ) → r < length old.cells → GoesWell (region_at old r) (region_at new r) (fixed r) (entries r)

  all_same : (v : VolumeSeen) → IsSteady v → AreGoneWell v v
  all_same v steady = record { steady = steady; count = refl; copies = refl; each = λ r lt. well_same (region_at v r) (fixed r) (entries r) }

  all_then : (old mid new : VolumeSeen) → AreGoneWell old mid → AreGoneWell mid new → AreGoneWell old new
  all_then old mid new first then = record {
    steady = then.steady;
    count = then.count ∙ first.count;
    copies = then.copies ∙ first.copies;
    each = λ r lt. well_then (region_at old r) (region_at mid r) (region_at new r) (fixed r) (entries r) (first.each r lt) (then.each r (subst (λ (n : ℕ). r < n) (sym first.count) lt));
  }

  -- a job is done on one region
  module _ (Way : RegionSeen → RegionSeen → Type 0) (n : ℕ) (old new : VolumeSeen) (changes : ChangesRegion n Way old new) (steady : IsSteady old) (gone : IsGone (region_at old n) (region_at new n)) (goes : HasGoneWell (region_at old n) (region_at new n)) where
    others : OnMarks (TidiesOthers n) old.log.told new.log.told
    others = subst (λ (m : ℕ). OnMarks (TidiesOthers m) old.log.told new.log.told) (steady.index n changes.inside) gone.others

    here_told : IsTold (region_at new n)
    here_told = gone.tells (steady.told n changes.inside)

    before : (r : ℕ) → r < length new.cells → r < length old.cells
    before r lt = subst (λ (m : ℕ). r < m) changes.count lt

    one_job : AreGoneWell old new
    one_job = record {
      steady = record {
        index = λ r lt. elim (cases_eq r n) [
          | inl is ↦ subst (λ (m : ℕ). (cell_at new m).region ≡ m) (sym is) (gone.stays.region ∙ steady.index n changes.inside)
          | inr apart ↦ ap (λ (c : CellSeen). c.region) (changes.others r apart) ∙ steady.index r (before r lt)
        ];
        idle = λ r lt. elim (cases_eq r n) [
          | inl is ↦ subst (λ (m : ℕ). IsIdle (cell_at new m).stage.phase) (sym is) (idle_settled (cell_at new n).stage.phase goes.1)
          | inr apart ↦ subst (λ (c : CellSeen). IsIdle c.stage.phase) (sym (changes.others r apart)) (steady.idle r (before r lt))
        ];
        told = λ r lt. elim (cases_eq r n) [
          | inl is ↦ subst (λ (m : ℕ). IsTold (region_at new m)) (sym is) here_told
          | inr apart ↦ subst (λ (c : CellSeen). IsTold (with_log c new.log)) (sym (changes.others r apart)) ((steady.told r (before r lt)).0, here_told.1)
        ];
      };
      count = changes.count;
      copies = gone.stays.log.copies;
      each = λ r lt. elim (cases_eq r n) [
        | inl is ↦ subst (λ (m : ℕ). GoesWell (region_at old m) (region_at new m) (fixed m) (entries m)) (sym is) (goes.0 (steady.idle n changes.inside) (steady.told n changes.inside) (fixed n) (entries n))
        | inr apart ↦ subst (λ (c : CellSeen). GoesWell (region_at old r) (with_log c new.log) (fixed r) (entries r)) (sym (changes.others r apart))
            (well_other n (region_at old r) new.log (fixed r) (entries r) (λ e. apart (sym (steady.index r lt) ∙ e)) (steady.told r lt).1 others)
      ];
    }

  one_settled : (n : ℕ) (old new : VolumeSeen) → Settles n None old new → IsSteady old → AreGoneWell old new
  one_settled n old new step steady =
      one_job (IsSettledAt None) n old new step steady ((settle_job None).gone (region_at old n) (region_at new n) step.goes) (settle_well (region_at old n) (region_at new n) step.goes)

  one_cleared : (n : ℕ) (old new : VolumeSeen) → Clears n None old new → IsSteady old → AreGoneWell old new
  one_cleared n old new step steady =
      one_job (IsClearedAt None) n old new step steady ((clear_job None).gone (region_at old n) (region_at new n) step.goes) (clear_well (region_at old n) (region_at new n) step.goes)

  one_copied : (map n : ℕ) (old new : Copying) → CopiesTo map n None old new → IsSteady old.volume → AreGoneWell old.volume new.volume
  one_copied map n old new step steady =
      one_job (IsCopiedAt map step.result) n old.volume new.volume step.ends steady ((copy_job map step.result).gone (region_at old.volume n) (region_at new.volume n) step.ends.goes)
      (copy_well map step.result (region_at old.volume n) (region_at new.volume n) step.stopped step.ends.goes)

  -- one after the other
  module _ {S : Type 0} (volume : S → VolumeSeen) (Call : ℕ → Option CellFault → S → S → Type 0) (one : (n : ℕ) (old new : S) → Call n None old new → IsSteady (volume old) → AreGoneWell (volume old) (volume new)) where
    all_done : (n : ℕ) (old new : S) → AreDone Call n old new → IsSteady (volume old) → AreGoneWell (volume old) (volume new)
    all_done zero old new same steady = subst (λ (s : S). AreGoneWell (volume old) (volume s)) (sym same) (all_same (volume old) steady)
    all_done (suc n) old new (mid, done, last) steady =
        let first = all_done n old mid done steady in
        all_then (volume old) (volume mid) (volume new) first (one n mid new last first.steady)

  one_map : (mask map : ℕ) (old new : VolumeSeen) → CopiesMap mask map None old new → IsSteady old → AreGoneWell old new
  one_map mask map old new copies steady = elim (true_or_false (has mask map)) [
    | inl there ↦
        let pass = copies.pass there in
        let done = pass_done map pass.result old new pass.stopped pass.ends in
        all_done (λ (c : Copying). c.volume) (CopiesTo map) (one_copied map) (length old.cells) (record { volume = old; copied = 0 }) (record { volume = new; copied = done.0 }) done.1 steady
    | inr away ↦ subst (AreGoneWell old) (sym (copies.none away).1) (all_same old steady)
  ]

  all_healed : (old new : VolumeSeen) (healed : Healed) → IsHealed old new healed → IsSteady old → AreGoneWell old new
  all_healed old new healed is steady =
      let settled = all_done (λ (v : VolumeSeen). v) Settles one_settled (length old.cells) old is.mid is.settled.settled.0 steady in
      let copied = all_done (λ (v : VolumeSeen). v) (CopiesMap is.mask) (one_map is.mask) is.copied.maps is.mid is.whole is.copied.made settled.steady in
      let cleared = all_done (λ (v : VolumeSeen). v) Clears one_cleared (length is.whole.cells) is.whole new is.cleared.0 copied.steady in
      all_then old is.whole new (all_then old is.mid is.whole settled copied) cleared

-- ---- what a copy shows

well_by : (n : ℕ) (hs : List Happening) → AreWell hs → AreWell (course_by n hs)
well_by n [] all = tt
well_by n (Elsewhere marks ∷ hs) all = (tt, well_by n hs all.1)
well_by n (Comes event now call values ∷ hs) all = (by event all.0, well_by n hs all.1)
  where
    by : (event : Event) → IsWell (Comes event now call values) → IsWell (Comes event (disks_by n now) call values)
    by (Begin job) h = tt
    by Marked h = tt
    by MarkFailed h = h
    by Unmarked h = tt
    by UnmarkFailed h = h
    by Wrote h = tt
    by WriteFailed h = tt
    by Got h = tt
    by (ReadFailed k) h = tt
    by Cut h = h

-- the copy shows just the bits of the region, and none is loose
record ShowsBits (n : ℕ) (r : RegionSeen) : Type 0 where
  shows : (k : ℕ) → (marks_or r.log.told r.region).shows n k ≡ has r.stage.bits k
  tight : (k : ℕ) → (marks_or r.log.told r.region).loose k ≡ false

module _ (old new : RegionSeen) (copies region : ℕ) where
  abbrev fixed_then : Fixed
  fixed_then = bare_fixed (holds old.plexes) copies region old.number

  abbrev was : RegionState
  was = state_of old fixed_then [] NoCall old.number

  region_exact : GoesWell old new fixed_then [] → IsFormed old.stage old.stage.phase (holds old.plexes) → IsIdle old.stage.phase → IsIdle new.stage.phase → (n : ℕ) → ShowsBits n old → ShowsBits n new
  region_exact goes formed idle idle_now n exact =
      let exact_then : IsExact (bare (state_by n was)) = record { tight = exact.tight; shows = λ c k. exact.shows k } in
      let ends : region_after (bare_course (course_by n goes.course)) (bare (state_by n was)) ≡ bare (state_by n (state_of new fixed_then [] NoCall new.number)) =
      after_bare (course_by n goes.course) (state_by n was) ∙ ap bare (after_by n goes.course was ∙ ap (state_by n) goes.ends) in
      let now = each_log_is_exact (bare (state_by n was)) (bare_course (course_by n goes.course))
      (kept_bare old.stage (marks_by n (marks_or old.log.told old.region)) (holds old.plexes) copies region old.number formed idle exact_then) idle exact_then
      (fits_bare (course_by n goes.course) (state_by n was) (fits_by n goes.course was goes.fits))
      (well_bare (course_by n goes.course) (well_by n goes.course goes.well))
      (subst (λ (x : RegionState). IsIdle x.stage.phase) (sym ends) idle_now) in
      let here = subst IsExact ends now in
      record { shows = λ k. here.shows 0 k; tight = here.tight }

-- ---- the volume

pub healed_exact : (old new : VolumeSeen) (healed : Healed) → IsHealed old new healed → IsVolume old → IsVolume new → AreTold old → IsExactVolume old → IsExactVolume new
healed_exact old new healed heals was is told exact r n lt alive few =
    let all : ℕ → Fixed = λ i. bare_fixed (holds (cell_at old i).plexes) old.log.copies i (cell_at old i).number in
    let gone = all_healed all (λ i. []) old new healed heals (record { index = λ i low. (was.each i low).index; idle = λ i low. (was.each i low).idle; told = told }) in
    let inside : r < length old.cells = subst (λ (m : ℕ). r < m) gone.count lt in
    let g = gone.each r inside in
    let few_old : n < old.log.copies = subst (λ (m : ℕ). n < m) gone.copies few in
    let index : (cell_at old r).region ≡ r = (was.each r inside).index in
    let index' : (cell_at new r).region ≡ r = (is.each r lt).index in
    let alive_old : (cell_at old r).stage.phase ≡ Dead → ⊥ = λ dead. alive (ap (λ (x : RegionState). x.stage.phase) (sym g.ends) ∙ dead_stays g.course _ dead g.fits) in
    let at = exact r n inside alive_old few_old in
    let first : ShowsBits n (region_at old r) = record {
      shows = λ k. ap (λ (i : ℕ). (marks_or old.log.told i).shows n k) index ∙ at.shows k;
      tight = λ k. ap (λ (i : ℕ). (marks_or old.log.told i).loose k) index ∙ at.tight k;
    } in
    let here = region_exact (region_at old r) (region_at new r) old.log.copies r g (was.each r inside).whole.formed (was.each r inside).idle (is.each r lt).idle n first in
    record {
      shows = λ k. ap (λ (i : ℕ). (marks_or new.log.told i).shows n k) (sym index') ∙ here.shows k;
      tight = λ k. ap (λ (i : ℕ). (marks_or new.log.told i).loose k) (sym index') ∙ here.tight k;
    }

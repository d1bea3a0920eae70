-- The entries with which a region goes on that was called.
use Rattle.std.proofs.Common.{◌≡◌, ℕ, ◌+◌, ◌-◌, ◌*◌, ◌≤◌, false, refl, sym, ◌∙◌, ap, subst, inl, inr, arith, List, [], ◌∷◌, ◌++◌, length, Option, Result, Ok, Err}
use Rattle.std.proofs.lemmas.Bool.{false≢true}
use Rattle.vx_base.specs.Blocks.{Contents, blocks_in}
use Rattle.vx_block.specs.declared.geometry.Span.{Span}
use Rattle.vx_life.specs.declared.EntryKind.{EntryKind}
use Rattle.vx_life.specs.declared.EntryKind.TheVariants.{Read, Write, Torn, Missed}
use Rattle.vx_life.specs.Entry.{Entry}
use Rattle.vx_core.specs.declared.stage.Job.{Job}
use Rattle.vx_core.specs.declared.stage.Job.TheVariants.{Read as ReadJob, Write as WriteJob, Copy as CopyJob, Settle, Clear}
use Rattle.vx_core.specs.declared.stage.Act.TheVariants.{Done, Lost}
use Rattle.vx_core.specs.declared.stage.Phase.{Phase}
use Rattle.vx_core.specs.declared.stage.Phase.TheVariants.{Settled, Unsettled, Dead, Busy}
use Rattle.vx_core.specs.History.{Call, IsNextCall, MayBegin, NoCall, Pending, Reads, Writes, entry_of}
use Rattle.vx_core.specs.Region.{Fixed, entries_after}
use Rattle.vx_core.specs.Schedule.{Happening, IsIdle}
use Rattle.vx_cell.specs.declared.fault.CellFault.{CellFault}
use Rattle.vx_cell.specs.declared.fault.CellFault.TheVariants.{Fault, PowerLost, Held, Only}
use Rattle.vx_cell.specs.Acts.{Bytes}
use Rattle.vx_cell.specs.Calls.{CallHasCause, HasEnded, IsNotBegun, WriteGoes, entries_by}
use Rattle.vx_cell.specs.Region.{IsTold, RegionSeen}
use Rattle.vx_cell.specs.Running.{Allows, Caller, GoesBy, call_at, call_of, last_before, start_call, start_last, values_at}
use Rattle.vx_volume.specs.Calls.{IsRead, IsWritten}
use Rattle.vx_volume.specs.Laws.{AreMadeOf, CalledGoesOn, EachClearingGoesOn, EachCopyGoesOn, EachSettlingGoesOn, GoesOn, MayTellRead, MayTellWrite, StaysRegion, next_call, next_entry, values_of}
use Rattle.vx_volume.specs.Loop.{stop_of}
use Rattle.vx_volume.proofs.Histories.{by_course, ended_goes, goes_same, idle_allows, idle_call, idle_last, stays_kept}

-- ---- a dead region

pub dead_or : {A : Type 0} (phase : Phase) → (phase ≡ Dead → A) → ((phase ≡ Dead → ⊥) → A) → A
dead_or Settled dead alive = alive (λ e. cc)
dead_or Unsettled dead alive = alive (λ e. cc)
dead_or Dead dead alive = dead refl
dead_or (Busy w) dead alive = alive (λ e. cc)

made_none : (phase : Phase) (may : EntryKind → Type 0) (entry : EntryKind → Entry) → phase ≡ Dead → AreMadeOf phase may entry []
made_none Dead may entry is = refl
made_none Settled may entry is = cc
made_none Unsettled may entry is = cc
made_none (Busy w) may entry is = cc

made_one : (phase : Phase) (may : EntryKind → Type 0) (entry : EntryKind → Entry) (kind : EntryKind) → (phase ≡ Dead → ⊥) → may kind → AreMadeOf phase may entry (entry kind ∷ [])
made_one Dead may entry kind alive is = absurd (alive refl)
made_one Settled may entry kind alive is = (kind, is, refl)
made_one Unsettled may entry kind alive is = (kind, is, refl)
made_one (Busy w) may entry kind alive is = (kind, is, refl)

-- what a region makes of a call, and goes on
abbrev pub Makes : (Option CellFault → EntryKind → Type 0) → Option CellFault → Span → List ℕ → RegionSeen → RegionSeen → Caller → Fixed → List Entry → Type 0
Makes may stop span bytes old new who fixed entries =
    (made : List Entry) × AreMadeOf old.stage.phase (may stop) (next_entry old who span bytes) made × GoesOn old new fixed entries (made ++ entries)

not_begun : {T : Type 0} (may : Option CellFault → EntryKind → Type 0) (stop : Option CellFault) (span : Span) (bytes : List ℕ) (old new : RegionSeen) (result : Result T CellFault) (who : Caller) (fixed : Fixed) (entries : List Entry) → old.stage.phase ≡ Dead → IsNotBegun old new result → Makes may stop span bytes old new who fixed entries
not_begun may stop span bytes old new result who fixed entries dead is =
    ([], made_none old.stage.phase (may stop) (next_entry old who span bytes) dead, subst (λ (r : RegionSeen). GoesOn old r fixed entries entries) (sym is.same) (goes_same old fixed entries))

-- ---- the call as it was made

-- a call on these blocks is the region's next one on the span
call_is : (old : RegionSeen) (who : Caller) (span : Span) (start count : ℕ) → start ≡ span.start → count ≡ span.count →
    (let call : Call = record { session = who.session; place = who.place; part = record { region = old.region; epoch = old.epoch; number = old.number + 1 }; start = start; count = count } in call) ≡ next_call old who span
call_is old who span start count e f = rw (e, f) refl

begins_there : (from start : ℕ) → from ≤ start → from + (start - from) ≡ start
begins_there from start le = omega (arith, le)

whole_blocks : (bytes : List ℕ) (count : ℕ) → length bytes ≡ 512 * count → blocks_in bytes ≡ count
whole_blocks bytes count e = omega (arith, e)

-- ---- reads

-- the entries of a read, by its answer
read_made : (old : RegionSeen) (who : Caller) (span : Span) (bytes : List ℕ) (call : Call) (values : Contents) (result : Result ℕ CellFault) (stop : Option CellFault) (entries : List Entry) (job : Job) (mid new : RegionSeen) →
    stop ≡ stop_of result → call ≡ next_call old who span → values ≡ values_at span.start bytes → mid.log.lent ≡ false → CallHasCause job mid new result →
    (kind : EntryKind) × MayTellRead stop kind × (entries_by result (Reads call) values entries ≡ next_entry old who span bytes kind ∷ entries)
read_made old who span bytes call values (Ok n) stop entries job mid new is called given own cause = (Read, subst (λ (s : Option CellFault). MayTellRead s Read) (sym is) refl, rw (called, given) refl)
read_made old who span bytes call values (Err (Fault place)) stop entries job mid new is called given own cause = (Missed, subst (λ (s : Option CellFault). MayTellRead s Missed) (sym is) refl, rw called refl)
read_made old who span bytes call values (Err PowerLost) stop entries job mid new is called given own cause = (Missed, subst (λ (s : Option CellFault). MayTellRead s Missed) (sym is) refl, rw called refl)
read_made old who span bytes call values (Err Held) stop entries job mid new is called given own cause = absurd (false≢true (sym own ∙ cause))
read_made old who span bytes call values (Err (Only map)) stop entries job mid new is called given own cause = absurd cause

-- a read of a region that is not dead
read_alive : (span : Span) (bytes : List ℕ) (stop : Option CellFault) (old new : RegionSeen) → IsRead span bytes stop old new → IsIdle old.stage.phase → old.log.lent ≡ false → old.start ≤ span.start → IsTold old →
    (who : Caller) (fixed : Fixed) (entries : List Entry) → IsNextCall fixed.region old.number entries (next_call old who span) → (old.stage.phase ≡ Dead → ⊥) → Makes MayTellRead stop span bytes old new who fixed entries
read_alive span bytes stop old new is idle own inside told who fixed entries next alive =
    let at = span.start - old.start in
    let io : Bytes = record { at = at; into = is.into; from = []; scratch = is.scratch } in
    let io' : Bytes = record { at = at; into = bytes; from = []; scratch = is.scratch' } in
    let mid : RegionSeen = record old { number = old.number + 1 } in
    let call : Call = call_at mid who at (blocks_in is.into) in
    let begins : old.start + at ≡ span.start = begins_there old.start span.start inside in
    let here : call ≡ next_call old who span = call_is old who span (old.start + at) (blocks_in is.into) begins (whole_blocks is.into span.count is.room) in
    let ended = is.ended.ended alive in
    let made = read_made old who span bytes call (values_at (old.start + at) bytes) is.result stop entries ReadJob mid new is.stopped here (ap (λ (n : ℕ). values_at n bytes) begins) own ended.cause in
    let may : IsNextCall fixed.region old.number entries call = record { here = next.here; number = next.number; order = next.order } in
    let goes = ended_goes ReadJob io io' old (old.number + 1) new is.result ended idle own told who fixed entries (omega arith) may in (
      next_entry old who span bytes made.0 ∷ [],
      made_one old.stage.phase (MayTellRead stop) (next_entry old who span bytes) made.0 alive made.1,
      subst (λ (es : List Entry). GoesOn old new fixed entries es) made.2 goes,
    )

pub read_goes : CalledGoesOn IsRead MayTellRead
read_goes span bytes stop old new is idle own inside told who fixed entries next =
    dead_or old.stage.phase (λ dead. not_begun MayTellRead stop span bytes old new is.result who fixed entries dead (is.ended.dead dead)) (read_alive span bytes stop old new is idle own inside told who fixed entries next)

-- ---- writes

entry_is : (old : RegionSeen) (who : Caller) (span : Span) (bytes : List ℕ) (kind : EntryKind) (call : Call) (values : Contents) → call ≡ next_call old who span → values ≡ values_of kind span.start bytes → entry_of kind call values ≡ next_entry old who span bytes kind
entry_is old who span bytes kind call values e f = rw (e, f) refl

module _ (old : RegionSeen) (n : ℕ) (new : RegionSeen) (stays : StaysRegion old new) (who : Caller) (span : Span) (bytes : List ℕ) (fixed : Fixed) (entries : List Entry) (allows : Fixed → List Entry → Type 0) (course : List Happening) (began : ℕ) (before : Pending) (call : Call)
    (given values : Contents) (drawn : began ≡ old.number) (none : before ≡ NoCall) (may : allows fixed entries) (called : call ≡ next_call old who span) (same : given ≡ values_at span.start bytes) where
  -- the region goes on by the course that the write is told by
  told_by : (kind : EntryKind) (more : List Entry → List Entry) → more entries ≡ entry_of kind call given ∷ entries → values_at span.start bytes ≡ values_of kind span.start bytes → GoesBy allows course (record old { number = n }) began before new NoCall more →
      GoesOn old new fixed entries (next_entry old who span bytes kind ∷ entries)
  told_by kind more is these by =
      subst (λ (es : List Entry). GoesOn old new fixed entries es) (is ∙ ap (λ (e : Entry). e ∷ entries) (entry_is old who span bytes kind call given called (same ∙ these)))
      (by_course allows course old n began before new NoCall more by drawn none refl stays fixed entries may)

  write_made : (result : Result ℕ CellFault) (stop : Option CellFault) → stop ≡ stop_of result → old.log.lent ≡ false → CallHasCause WriteJob (record old { number = n }) new result → WriteGoes result allows course (record old { number = n }) began before new (Writes call given) values →
      (kind : EntryKind) × MayTellWrite stop kind × GoesOn old new fixed entries (next_entry old who span bytes kind ∷ entries)
  write_made (Ok n) stop is own cause goes = (Write, subst (λ (s : Option CellFault). MayTellWrite s Write) (sym is) refl, told_by Write (entries_by {T = ℕ} (Ok n) (Writes call given) values) refl refl goes)
  write_made (Err (Fault place)) stop is own cause goes = (Torn, subst (λ (s : Option CellFault). MayTellWrite s Torn) (sym is) refl, told_by Torn (entries_by {T = ℕ} (Err (Fault place)) (Writes call given) values) refl refl goes)
  write_made (Err PowerLost) stop is own cause (inl goes) = (Torn, subst (λ (s : Option CellFault). MayTellWrite s Torn) (sym is) (inl refl), told_by Torn (entries_after Lost (Writes call given) values) refl refl goes)
  write_made (Err PowerLost) stop is own cause (inr goes) = (Write, subst (λ (s : Option CellFault). MayTellWrite s Write) (sym is) (inr refl), told_by Write (entries_after Done (Writes call given) values) refl refl goes)
  write_made (Err Held) stop is own cause goes = absurd (false≢true (sym own ∙ cause))
  write_made (Err (Only map)) stop is own cause goes = absurd cause

-- a write to a region that is not dead
write_alive : (span : Span) (bytes : List ℕ) (stop : Option CellFault) (old new : RegionSeen) → IsWritten span bytes stop old new → IsIdle old.stage.phase → old.log.lent ≡ false → old.start ≤ span.start → IsTold old →
    (who : Caller) (fixed : Fixed) (entries : List Entry) → IsNextCall fixed.region old.number entries (next_call old who span) → (old.stage.phase ≡ Dead → ⊥) → Makes MayTellWrite stop span bytes old new who fixed entries
write_alive span bytes stop old new is idle own inside told who fixed entries next alive =
    let at = span.start - old.start in
    let io : Bytes = record { at = at; into = []; from = bytes; scratch = is.scratch } in
    let mid : RegionSeen = record old { number = old.number + 1 } in
    let call : Call = call_at mid who at (blocks_in bytes) in
    let begins : old.start + at ≡ span.start = begins_there old.start span.start inside in
    let here : call ≡ next_call old who span = call_is old who span (old.start + at) (blocks_in bytes) begins (whole_blocks bytes span.count is.size) in
    let ended = is.ended.ended alive in
    let goes = ended.goes told who in
    let mine : Pending = call_of WriteJob io mid who in
    let last : ℕ = start_last old.stage.phase WriteJob (old.number + 1) in
    let drawn : last ≡ old.number = idle_last old.stage.phase WriteJob (old.number + 1) idle ∙ omega arith in
    let none : start_call old.stage.phase mine ≡ NoCall = idle_call old.stage.phase mine idle in
    let begin : IsNextCall fixed.region old.number entries call = record { here = next.here; number = next.number; order = next.order } in
    let may : Allows old.stage.phase last mine fixed entries = idle_allows old.stage.phase last mine fixed entries (subst (λ (n : ℕ). IsNextCall fixed.region n entries call) (sym drawn) begin) in
    let these : values_at (old.start + at) bytes ≡ values_at span.start bytes = ap (λ (n : ℕ). values_at n bytes) begins in
    let stays = stays_kept old (old.number + 1) new ended.kept in
    let made = write_made old (old.number + 1) new stays who span bytes fixed entries _ goes.0 last _ call _ (values_at (old.start + at) []) drawn none may here these is.result stop is.stopped own ended.cause goes.1 in
    (next_entry old who span bytes made.0 ∷ [], made_one old.stage.phase (MayTellWrite stop) (next_entry old who span bytes) made.0 alive made.1, made.2)

pub write_goes : CalledGoesOn IsWritten MayTellWrite
write_goes span bytes stop old new is idle own inside told who fixed entries next =
    dead_or old.stage.phase (λ dead. not_begun MayTellWrite stop span bytes old new is.result who fixed entries dead (is.ended.dead dead)) (write_alive span bytes stop old new is idle own inside told who fixed entries next)

-- ---- jobs without a call

quiet_entries : {T : Type 0} (result : Result T CellFault) (values : Contents) (entries : List Entry) → entries_by result NoCall values entries ≡ entries
quiet_entries (Ok n) values entries = refl
quiet_entries (Err (Fault place)) values entries = refl
quiet_entries (Err PowerLost) values entries = refl
quiet_entries (Err Held) values entries = refl
quiet_entries (Err (Only map)) values entries = refl

same_region : {T : Type 0} (old new : RegionSeen) (result : Result T CellFault) (fixed : Fixed) (entries : List Entry) → IsNotBegun old new result → GoesOn old new fixed entries entries
same_region old new result fixed entries is = subst (λ (r : RegionSeen). GoesOn old r fixed entries entries) (sym is.same) (goes_same old fixed entries)

nobody : Caller
nobody = record { session = 0; place = 0 }

-- a job that was run, where no call is told of it
quiet_goes : {T : Type 0} (job : Job) (io io' : Bytes) (old new : RegionSeen) (result : Result T CellFault) (who : Caller) → HasEnded job io old new io' result → call_of job io old who ≡ NoCall → last_before job old.number ≡ old.number →
    IsIdle old.stage.phase → old.log.lent ≡ false → IsTold old → (fixed : Fixed) (entries : List Entry) → GoesOn old new fixed entries entries
quiet_goes job io io' old new result who ended none last idle own told fixed entries =
    subst (λ (es : List Entry). GoesOn old new fixed entries es) (ap (λ (call : Pending). entries_by result call (values_at (old.start + io'.at) io'.into) entries) none ∙ quiet_entries result (values_at (old.start + io'.at) io'.into) entries)
    (ended_goes job io io' old old.number new result ended idle own told who fixed entries last (subst (λ (call : Pending). MayBegin fixed.region old.number entries call) (sym none) tt))

pub settle_goes : EachSettlingGoesOn
settle_goes stop old new is idle own told fixed entries =
    dead_or old.stage.phase (λ dead. same_region old new is.result fixed entries (is.ends.ended.dead dead))
    (λ alive. quiet_goes Settle _ _ old new is.result nobody (is.ends.ended.ended alive) refl refl idle own told fixed entries)

pub clear_goes : EachClearingGoesOn
clear_goes stop old new is idle own told fixed entries =
    dead_or old.stage.phase (λ dead. same_region old new is.result fixed entries (is.ends.ended.dead dead))
    (λ alive. quiet_goes Clear _ _ old new is.result nobody (is.ends.ended.ended alive) refl refl idle own told fixed entries)

pub copy_goes : EachCopyGoesOn
copy_goes map result old new is idle own told fixed entries =
    dead_or old.stage.phase (λ dead. same_region old new result fixed entries (is.ends.ended.dead dead))
    (λ alive. quiet_goes (CopyJob map) _ _ old new result nobody (is.ends.ended.ended alive) refl refl idle own told fixed entries)

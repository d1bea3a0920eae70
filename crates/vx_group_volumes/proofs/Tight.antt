-- Where no call on the log fails, no mark comes loose.
use Rattle.std.proofs.Common.{◌≡◌, ◌≢◌, ℕ, zero, suc, ◌<◌, Bool, true, false, refl, sym, ◌∙◌, ap, subst, inl, inr, List, [], ◌∷◌, length, Option, Some, None, Result, Ok, Err}
use Rattle.std.proofs.lemmas.Bool.{cases_eq}
use Rattle.vx_base.specs.Blocks.{Contents}
use Rattle.vx_life.specs.Candidates.{Any}
use Rattle.vx_life.specs.Entry.{Entry}
use Rattle.vx_mask.specs.Marks.{Marks}
use Rattle.vx_mask.specs.Mask.{has}
use Rattle.vx_mask.proofs.MarkLemmas.{tidied_loose}
use Rattle.vx_mask.proofs.Tests.{not_before, true_or_false}
use Rattle.vx_core.specs.declared.stage.Act.{Act}
use Rattle.vx_core.specs.declared.stage.Act.TheVariants.{Mark, Unmark, WriteCall, WriteRegion, ReadCall, ReadRegion, Done, Skipped, Fault, Lost}
use Rattle.vx_core.specs.declared.stage.Event.{Event}
use Rattle.vx_core.specs.declared.stage.Event.TheVariants.{Begin, Marked, MarkFailed, Unmarked, UnmarkFailed, Wrote, WriteFailed, Got, ReadFailed, Cut}
use Rattle.vx_core.specs.declared.stage.Phase.{Phase}
use Rattle.vx_core.specs.declared.stage.Phase.TheVariants.{Settled, Unsettled, Dead, Busy}
use Rattle.vx_core.specs.declared.stage.Stage.{Stage}
use Rattle.vx_core.specs.History.{NoCall, Pending}
use Rattle.vx_core.specs.Region.{Around, Becomes, Disks, FitsIn, Fixed, GoesWell, MayAnswer, RegionState}
use Rattle.vx_core.specs.Recovery.{region_after}
use Rattle.vx_core.specs.Schedule.{Comes, Elsewhere, Happening, IsIdle, happens}
use Rattle.vx_core.specs.Table.{act_at, begun, goes_on, next_of}
use Rattle.vx_core_laws.specs.Course.{EachFits}
use Rattle.vx_marks.specs.Log.{KeepsLog, OnMarks}
use Rattle.vx_cell.specs.declared.fault.CellFault.{CellFault}
use Rattle.vx_cell.specs.Changes.{CellSeen}
use Rattle.vx_cell.specs.Region.{IsTold, LogRose, RegionSeen, Tells, TidiesOthers, disks_of, marks_or, state_of}
use Rattle.vx_cell.specs.Running.{act_of, log_fails}
use Rattle.vx_cell.proofs.LogLaws.{log_more, log_same}
use Rattle.vx_cell.proofs.Work.{log_now, log_still}
use Rattle.vx_volume.specs.declared.fault.IoFault.{IoFault}
use Rattle.vx_volume.specs.declared.fault.IoFault.TheVariants as io
use Rattle.vx_volume.specs.Calls.{io_stop}
use Rattle.vx_volume.specs.Laws.{AreTold, GoesOn, ShowFailures}
use Rattle.vx_volume.specs.Loop.{AreDone, stop_of}
use Rattle.vx_volume.specs.Passes.{CopiesTo, Copying, CopyEnds, IsCopiedAt}
use Rattle.vx_volume.specs.Volume.{VolumeSeen, cell_at, region_at, with_log}
use Rattle.vx_volume.proofs.Entries.{dead_or}
use Rattle.vx_volume.proofs.Volumes.{IsGone, copy_job}
use Rattle.vx_group_start.specs.Copying.{CopiesMap}
use Rattle.vx_volume_laws.specs.Exact.{LogIsWell}
use Rattle.vx_group_volumes.specs.Copies.{AreTight, EachCopyStaysTight}

-- ---- one event

abbrev Tight : Disks → Type 0
Tight d = (k : ℕ) → d.marks.loose k ≡ false

same_tight : (old now : Disks) → now.marks ≡ old.marks → Tight old → Tight now
same_tight old now same tight = subst (λ (m : Marks). (k : ℕ) → m.loose k ≡ false) (sym same) tight

alike_tight : (old now : Disks) → now ≡ old → Tight old → Tight now
alike_tight old now same tight = same_tight old now (ap (λ (d : Disks). d.marks) same) tight

well_tight : (act : Act) (call : Pending) (source : ℕ) (old now : Disks) → GoesWell call source act old now → Tight old → Tight now
well_tight (Mark b) call source old now h tight = h.1.loose
well_tight (Unmark b) call source old now h tight = h.1.loose
well_tight (WriteCall k) call source old now h tight = same_tight old now h.1 tight
well_tight (WriteRegion k) call source old now h tight = same_tight old now h.1 tight
well_tight (ReadCall b) call source old now h tight = alike_tight old now h tight
well_tight (ReadRegion k) call source old now h tight = alike_tight old now h tight
well_tight Done call source old now h tight = alike_tight old now h tight
well_tight Skipped call source old now h tight = alike_tight old now h tight
well_tight Fault call source old now h tight = alike_tight old now h tight
well_tight Lost call source old now h tight = alike_tight old now h tight

mark_fails : (act : Act) → MayAnswer act MarkFailed → log_fails act MarkFailed ≡ true
mark_fails (Mark b) may = refl
mark_fails (Unmark b) may = absurd may
mark_fails (WriteCall k) may = absurd may
mark_fails (WriteRegion k) may = absurd may
mark_fails (ReadCall b) may = absurd may
mark_fails (ReadRegion k) may = absurd may
mark_fails Done may = absurd may
mark_fails Skipped may = absurd may
mark_fails Fault may = absurd may
mark_fails Lost may = absurd may

unmark_fails : (act : Act) → MayAnswer act UnmarkFailed → log_fails act UnmarkFailed ≡ true
unmark_fails (Unmark b) may = refl
unmark_fails (Mark b) may = absurd may
unmark_fails (WriteCall k) may = absurd may
unmark_fails (WriteRegion k) may = absurd may
unmark_fails (ReadCall b) may = absurd may
unmark_fails (ReadRegion k) may = absurd may
unmark_fails Done may = absurd may
unmark_fails Skipped may = absurd may
unmark_fails Fault may = absurd may
unmark_fails Lost may = absurd may

write_fails : (act : Act) (call : Pending) (source : ℕ) (old now : Disks) → MayAnswer act WriteFailed → Becomes WriteFailed call source act old now → Tight old → Tight now
write_fails (WriteCall k) call source old now may h tight = same_tight old now h.1 tight
write_fails (WriteRegion k) call source old now may h tight = same_tight old now h.1 tight
write_fails (Mark b) call source old now may h tight = absurd may
write_fails (Unmark b) call source old now may h tight = absurd may
write_fails (ReadCall b) call source old now may h tight = absurd may
write_fails (ReadRegion k) call source old now may h tight = absurd may
write_fails Done call source old now may h tight = absurd may
write_fails Skipped call source old now may h tight = absurd may
write_fails Fault call source old now may h tight = absurd may
write_fails Lost call source old now may h tight = absurd may

read_fails : (act : Act) (j : ℕ) (call : Pending) (source : ℕ) (old now : Disks) → MayAnswer act (ReadFailed j) → Becomes (ReadFailed j) call source act old now → Tight old → Tight now
read_fails (ReadCall b) j call source old now may h tight = alike_tight old now h tight
read_fails (ReadRegion k) j call source old now may h tight = alike_tight old now h tight
read_fails (Mark b) j call source old now may h tight = absurd may
read_fails (Unmark b) j call source old now may h tight = absurd may
read_fails (WriteCall k) j call source old now may h tight = absurd may
read_fails (WriteRegion k) j call source old now may h tight = absurd may
read_fails Done j call source old now may h tight = absurd may
read_fails Skipped j call source old now may h tight = absurd may
read_fails Fault j call source old now may h tight = absurd may
read_fails Lost j call source old now may h tight = absurd may

-- an answer that tells no failure of the log, and no cut
answered_tight : (act : Act) (event : Event) (call : Pending) (source : ℕ) (old now : Disks) → MayAnswer act event → Becomes event call source act old now → (log_fails act event ≡ true → ⊥) → (event ≡ Cut → ⊥) → Tight old → Tight now
answered_tight act (Begin job) call source old now may h log cut tight = absurd h
answered_tight act Marked call source old now may h log cut tight = well_tight act call source old now h tight
answered_tight act MarkFailed call source old now may h log cut tight = absurd (log (mark_fails act may))
answered_tight act Unmarked call source old now may h log cut tight = well_tight act call source old now h tight
answered_tight act UnmarkFailed call source old now may h log cut tight = absurd (log (unmark_fails act may))
answered_tight act Wrote call source old now may h log cut tight = well_tight act call source old now h tight
answered_tight act WriteFailed call source old now may h log cut tight = write_fails act call source old now may h tight
answered_tight act Got call source old now may h log cut tight = well_tight act call source old now h tight
answered_tight act (ReadFailed j) call source old now may h log cut tight = read_fails act j call source old now may h tight
answered_tight act Cut call source old now may h log cut tight = absurd (cut refl)

tight_in : (s : Stage) (phase : Phase) (a : Around) (event : Event) (now : Disks) (call : Pending) (values : Contents) → FitsIn s phase a event now call values → (log_fails (act_of s phase) event ≡ true → ⊥) → (event ≡ Cut → ⊥) →
    Tight a.disks → Tight now
tight_in s (Busy w) a event now call values fits log cut tight = answered_tight (act_at s w w.step) event a.pending w.source a.disks now fits.0.0 fits.0.1 log cut tight
tight_in s Settled a (Begin job) now call values fits log cut tight = alike_tight a.disks now fits.0 tight
tight_in s Unsettled a (Begin job) now call values fits log cut tight = alike_tight a.disks now fits.0 tight
tight_in s Dead a (Begin job) now call values fits log cut tight = alike_tight a.disks now fits.0 tight
tight_in s Settled a Cut now call values fits log cut tight = absurd (cut refl)
tight_in s Unsettled a Cut now call values fits log cut tight = absurd (cut refl)
tight_in s Dead a Cut now call values fits log cut tight = absurd (cut refl)
tight_in s phase a event now call values fits log cut tight = absurd fits

-- ---- a course

-- a region without power stays so
dead_next : (s : Stage) (event : Event) → s.phase ≡ Dead → (next_of s event).0.phase ≡ Dead
dead_next s (Begin job) is = ap (λ (p : Phase). (begun s p job).0.phase) is
dead_next s Marked is = ap (λ (p : Phase). (goes_on s p Marked).0.phase) is
dead_next s MarkFailed is = ap (λ (p : Phase). (goes_on s p MarkFailed).0.phase) is
dead_next s Unmarked is = ap (λ (p : Phase). (goes_on s p Unmarked).0.phase) is
dead_next s UnmarkFailed is = ap (λ (p : Phase). (goes_on s p UnmarkFailed).0.phase) is
dead_next s Wrote is = ap (λ (p : Phase). (goes_on s p Wrote).0.phase) is
dead_next s WriteFailed is = ap (λ (p : Phase). (goes_on s p WriteFailed).0.phase) is
dead_next s Got is = ap (λ (p : Phase). (goes_on s p Got).0.phase) is
dead_next s (ReadFailed j) is = ap (λ (p : Phase). (goes_on s p (ReadFailed j)).0.phase) is
dead_next s Cut is = refl

dead_after : (course : List Happening) (r : RegionState) → r.stage.phase ≡ Dead → (region_after course r).stage.phase ≡ Dead
dead_after [] r is = is
dead_after (Comes event now call values ∷ hs) r is = dead_after hs (happens r (Comes event now call values)) (dead_next r.stage event is)
dead_after (Elsewhere marks ∷ hs) r is = dead_after hs (happens r (Elsewhere marks)) is

tight_after : (course : List Happening) (r : RegionState) (old new : RegionSeen) → EachFits course r → ShowFailures course r.stage old new → (LogRose old.log new.log → ⊥) → (region_after course r).stage.phase ≡ Settled →
    Tight r.around.disks → Tight (region_after course r).around.disks
tight_after [] r old new fits shown none settled tight = tight
tight_after (Comes event now call values ∷ hs) r old new fits shown none settled tight =
    tight_after hs (happens r (Comes event now call values)) old new fits.1 shown.1 none settled
    (tight_in r.stage r.stage.phase r.around event now call values fits.0 (λ e. none (shown.0.log e)) no_cut tight)
  where
    no_cut : event ≡ Cut → ⊥
    no_cut e = let dead : (region_after hs (happens r (Comes event now call values))).stage.phase ≡ Dead = dead_after hs (happens r (Comes event now call values)) (ap (λ (x : Event). (next_of r.stage x).0.phase) e) in let both : Dead ≡ Settled = sym dead ∙ settled in cc
tight_after (Elsewhere marks ∷ hs) r old new fits shown none settled tight =
    tight_after hs (happens r (Elsewhere marks)) old new fits.1 shown none settled
    (λ k. not_before _ _ (tidied_loose r.around.disks.marks marks fits.0 k) (tight k))

goes_tight : (old new : RegionSeen) (fixed : Fixed) (entries entries' : List Entry) → GoesOn old new fixed entries entries' → (LogRose old.log new.log → ⊥) → new.stage.phase ≡ Settled → Tight (disks_of old) → Tight (disks_of new)
goes_tight old new fixed entries entries' goes none settled tight =
    subst (λ (s : RegionState). Tight s.around.disks) goes.ends
    (tight_after goes.course (state_of old fixed entries NoCall old.number) old new goes.fits goes.shown none (ap (λ (s : RegionState). s.stage.phase) goes.ends ∙ settled) tight)

-- ---- a volume

-- no call is under way, the devices tell what they hold, and no mark is loose
record IsSteady (v : VolumeSeen) : Type 0 where
  pub index : (i : ℕ) → i < length v.cells → (cell_at v i).region ≡ i
  pub idle : (i : ℕ) → i < length v.cells → IsIdle (cell_at v i).stage.phase
  pub own : v.log.lent ≡ false
  pub told : AreTold v
  pub tight : AreTight v

-- it stays so, where no count of the log rises
record StaysSteady (old new : VolumeSeen) : Type 0 where
  pub log : KeepsLog old.log new.log
  pub stays : LogIsWell old new → IsSteady old → IsSteady new

steady_same : (v : VolumeSeen) → StaysSteady v v
steady_same v = record { log = log_same v.log; stays = λ none is. is }

steady_then : (a b c : VolumeSeen) → StaysSteady a b → StaysSteady b c → StaysSteady a c
steady_then a b c first then = record {
  log = log_more a.log b.log c.log first.log then.log;
  stays = λ none is. then.stays (λ rose. none (log_now a.log b.log c.log first.log rose)) (first.stays (λ rose. none (log_still a.log b.log c.log rose then.log)) is);
}

done_steady : {S : Type 0} (see : S → VolumeSeen) (Call : ℕ → Option CellFault → S → S → Type 0) → ((n : ℕ) (old new : S) → Call n None old new → StaysSteady (see old) (see new)) →
    (n : ℕ) (old new : S) → AreDone Call n old new → StaysSteady (see old) (see new)
done_steady {S = S} see Call each zero old new same = subst (λ (s : S). StaysSteady (see old) (see s)) (sym same) (steady_same (see old))
done_steady see Call each (suc n) old new done = steady_then (see old) (see done.0) (see new) (done_steady see Call each n old done.0 done.1) (each n done.0 new done.2)

-- ---- one copy

pub done_of : (result : Result Bool CellFault) → None ≡ stop_of result → (copied : Bool) × (result ≡ Ok copied)
done_of (Ok copied) e = (copied, refl)
done_of (Err fault) e = cc

pub copy_alive : {A : Type 0} (map : ℕ) (copied : Bool) (old new : RegionSeen) → IsCopiedAt map (Ok copied) old new → ((old.stage.phase ≡ Dead → ⊥) → A) → A
copy_alive {A = A} map copied old new is by = dead_or {A = A} old.stage.phase (λ dead. let no = (is.ends.ended.dead dead).answer in cc) by

pub copy_settles : (map : ℕ) (copied : Bool) (old new : RegionSeen) → IsCopiedAt map (Ok copied) old new → new.stage.phase ≡ Settled
copy_settles map copied old new is = copy_alive map copied old new is (λ alive. (is.ends.ended.ended alive).phase)

tidy_at : (x y : Option (ℕ → Marks)) (region i k : ℕ) → Tells x → OnMarks (TidiesOthers region) x y → i ≢ region → (marks_or x i).loose k ≡ false → (marks_or y i).loose k ≡ false
tidy_at None y region i k tells others apart tight = absurd tells
tidy_at (Some a) None region i k tells others apart tight = absurd others
tidy_at (Some a) (Some b) region i k tells others apart tight = not_before _ _ (tidied_loose (a i) (b i) (others i apart) k) tight

any_fixed : Fixed
any_fixed = record { held = λ k. false; copies = 0; base = λ k i. []; first = λ b. Any; region = 0; from = 0 }

module _ (map r : ℕ) (old new : Copying) (copies : CopiesTo map r None old new) where
  abbrev a : VolumeSeen
  a = old.volume

  abbrev b : VolumeSeen
  b = new.volume

  here : IsCopiedAt map copies.result (region_at a r) (region_at b r)
  here = copies.ends.goes

  gone : IsGone (region_at a r) (region_at b r)
  gone = (copy_job map copies.result).gone (region_at a r) (region_at b r) here

  settled : (cell_at b r).stage.phase ≡ Settled
  settled =
      let ok = done_of copies.result copies.stopped in
      copy_settles map ok.0 (region_at a r) (region_at b r) (subst (λ (x : Result Bool CellFault). IsCopiedAt map x (region_at a r) (region_at b r)) ok.1 here)

  before : (i : ℕ) → i < length b.cells → i < length a.cells
  before i lt = subst (λ (n : ℕ). i < n) copies.ends.count lt

  module _ (none : LogIsWell a b) (was : IsSteady a) where
    index_here : (cell_at b r).region ≡ r
    index_here = gone.stays.region ∙ was.index r copies.ends.inside

    told_here : IsTold (region_at b r)
    told_here = gone.tells (was.told r copies.ends.inside)

    tight_before : Tight (disks_of (region_at a r))
    tight_before k = subst (λ (n : ℕ). (marks_or a.log.told n).loose k ≡ false) (sym (was.index r copies.ends.inside)) (was.tight r k copies.ends.inside)

    tight_here : Tight (disks_of (region_at b r))
    tight_here =
        goes_tight (region_at a r) (region_at b r) any_fixed [] []
        ((copy_job map copies.result).goes (region_at a r) (region_at b r) here (was.idle r copies.ends.inside) was.own (was.told r copies.ends.inside) any_fixed [])
        none settled tight_before

    tight_other : (i k : ℕ) → i < length a.cells → i ≢ r → (marks_or b.log.told i).loose k ≡ false
    tight_other i k lt apart =
        tidy_at a.log.told b.log.told (cell_at a r).region i k (was.told r copies.ends.inside).1 gone.others (λ e. apart (e ∙ was.index r copies.ends.inside)) (was.tight i k lt)

    steady_now : IsSteady b
    steady_now = record {
      index = λ i lt. elim (cases_eq i r) [
        | inl is ↦ subst (λ (n : ℕ). (cell_at b n).region ≡ n) (sym is) index_here
        | inr apart ↦ ap (λ (c : CellSeen). c.region) (copies.ends.others i apart) ∙ was.index i (before i lt)
      ];
      idle = λ i lt. elim (cases_eq i r) [
        | inl is ↦ subst (λ (n : ℕ). IsIdle (cell_at b n).stage.phase) (sym is) (subst (λ (p : Phase). IsIdle p) (sym settled) tt)
        | inr apart ↦ subst (λ (c : CellSeen). IsIdle c.stage.phase) (sym (copies.ends.others i apart)) (was.idle i (before i lt))
      ];
      own = gone.stays.log.lent ∙ was.own;
      told = λ i lt. elim (cases_eq i r) [
        | inl is ↦ subst (λ (n : ℕ). IsTold (region_at b n)) (sym is) told_here
        | inr apart ↦ subst (λ (c : CellSeen). IsTold (with_log c b.log)) (sym (copies.ends.others i apart)) ((was.told i (before i lt)).0, told_here.1)
      ];
      tight = λ i k lt. elim (cases_eq i r) [
        | inl is ↦ subst (λ (n : ℕ). (marks_or b.log.told n).loose k ≡ false) (index_here ∙ sym is) (tight_here k)
        | inr apart ↦ tight_other i k (before i lt) apart
      ];
    }

  copy_steady : StaysSteady a b
  copy_steady = record { log = gone.stays.log; stays = steady_now }

-- ---- all copies

pub pass_done : (map : ℕ) (result : Result ℕ IoFault) (old new : VolumeSeen) → None ≡ io_stop result → CopyEnds map old new result →
    (n : ℕ) × AreDone (CopiesTo map) (length old.cells) (record { volume = old; copied = 0 }) (record { volume = new; copied = n })
pass_done map (Ok n) old new e ends = (n, ends)
pass_done map (Err io.Range) old new e ends = absurd ends.2
pass_done map (Err (io.Fault place)) old new e ends = cc
pass_done map (Err io.PowerLost) old new e ends = cc

map_steady : (mask map : ℕ) (old new : VolumeSeen) → CopiesMap mask map None old new → StaysSteady old new
map_steady mask map old new copies = elim (true_or_false (has mask map)) [
  | inl there ↦
      let pass = copies.pass there in
      let done = pass_done map pass.result old new pass.stopped pass.ends in
      done_steady (λ (c : Copying). c.volume) (CopiesTo map) (λ n x y call. copy_steady map n x y call) (length old.cells) (record { volume = old; copied = 0 }) (record { volume = new; copied = done.0 }) done.1
  | inr away ↦ subst (StaysSteady old) (sym (copies.none away).1) (steady_same old)
]

pub stays_tight : EachCopyStaysTight
stays_tight mask n old new copied volume told none tight =
    ((done_steady (λ (v : VolumeSeen). v) (CopiesMap mask) (λ map x y call. map_steady mask map x y call) copied.maps old new copied.made).stays none
    (record { index = λ i lt. (volume.each i lt).index; idle = λ i lt. (volume.each i lt).idle; own = volume.own; told = told; tight = tight })).tight

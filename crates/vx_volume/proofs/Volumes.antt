-- How the histories of all regions of a volume go on, where one of them is called.
use Rattle.std.proofs.Common.{◌≡◌, ◌≢◌, ℕ, ◌+◌, ◌<◌, ◌≤◌, Bool, true, false, refl, sym, ◌∙◌, subst, inl, inr, List, [], ◌∷◌, ◌++◌, length, Option, Some, None, Result}
use Rattle.std.specs.Prelude.{◌==◌}
use Rattle.std.proofs.lemmas.Bool.{cases_eq}
use Rattle.vx_block.specs.declared.geometry.Span.{Span}
use Rattle.vx_mask.specs.Marks.{Marks}
use Rattle.vx_mask.proofs.MarkLemmas.{tidy_same}
use Rattle.vx_life.specs.declared.EntryKind.{EntryKind}
use Rattle.vx_life.specs.Entry.{Entry}
use Rattle.vx_core.specs.declared.stage.Job.{Job}
use Rattle.vx_core.specs.declared.stage.Job.TheVariants.{Read as ReadJob, Copy as CopyJob, Settle, Clear}
use Rattle.vx_core.specs.declared.stage.Phase.{Phase}
use Rattle.vx_core.specs.declared.stage.Phase.TheVariants.{Settled, Unsettled, Dead, Busy}
use Rattle.vx_core.specs.History.{AllOf, MayPrecede}
use Rattle.vx_core.specs.Region.{Fixed}
use Rattle.vx_core.specs.Schedule.{IsIdle}
use Rattle.vx_marks.specs.Log.{OnMarks}
use Rattle.vx_cell.specs.declared.fault.CellFault.{CellFault}
use Rattle.vx_cell.specs.Acts.{Bytes}
use Rattle.vx_cell.specs.Calls.{HasEnded, IsNotBegun}
use Rattle.vx_cell.specs.Changes.{CellSeen}
use Rattle.vx_cell.specs.Region.{IsTold, RegionSeen, TidiesOthers}
use Rattle.vx_cell.specs.Running.{Caller}
use Rattle.vx_cell.proofs.Changes.{other_number, same_test}
use Rattle.vx_volume.specs.Calls.{ChangesRegion, IsRead, IsWritten}
use Rattle.vx_volume.specs.Laws.{AreMadeOf, AreTold, CallOfRegionGoesOn, CalledGoesOn, EachGoingGoesOn, EachGoingStands, GoesOn, JobOfRegionGoesOn, MayTellRead, MayTellWrite, QuietGoesOn, RegionsGoOn, StaysRegion, next_entry, with_made}
use Rattle.vx_volume.specs.Passes.{IsClearedAt, IsCopiedAt, IsSettledAt}
use Rattle.vx_volume.specs.Volume.{IsVolume, VolumeSeen, cell_at, region_at, with_log}
use Rattle.vx_volume.proofs.Entries.{clear_goes, copy_goes, dead_or, read_goes, settle_goes, write_goes}
use Rattle.vx_volume.proofs.Histories.{goes_same, goes_stands, goes_then, other_goes, stays_kept, stays_same}

-- ---- what a call leaves of its region and its log

pub record IsGone (old new : RegionSeen) : Type 0 where
  pub stays : StaysRegion old new
  pub tells : IsTold old → IsTold new
  pub others : OnMarks (TidiesOthers old.region) old.log.told new.log.told

same_others : (region : ℕ) (told : Option (ℕ → Marks)) → OnMarks (TidiesOthers region) told told
same_others region None = tt
same_others region (Some marks) = λ other apart. tidy_same (marks other)

gone_same : (r : RegionSeen) → IsGone r r
gone_same r = record { stays = stays_same r; tells = λ t. t; others = same_others r.region r.log.told }

gone_not_begun : {T : Type 0} (old new : RegionSeen) (result : Result T CellFault) → IsNotBegun old new result → IsGone old new
gone_not_begun old new result is = subst (λ (r : RegionSeen). IsGone old r) (sym is.same) (gone_same old)

gone_ended : {T : Type 0} (job : Job) (io io' : Bytes) (old : RegionSeen) (n : ℕ) (new : RegionSeen) (result : Result T CellFault) → HasEnded job io (record old { number = n }) new io' result → IsGone old new
gone_ended job io io' old n new result ended = record { stays = stays_kept old n new ended.kept; tells = ended.tells; others = ended.kept.others }

module _ (old new : RegionSeen) where
  settle_gone : (stop : Option CellFault) → IsSettledAt stop old new → IsGone old new
  settle_gone stop is = dead_or old.stage.phase (λ dead. gone_not_begun old new is.result (is.ends.ended.dead dead)) (λ alive. gone_ended Settle _ _ old old.number new is.result (is.ends.ended.ended alive))

  clear_gone : (stop : Option CellFault) → IsClearedAt stop old new → IsGone old new
  clear_gone stop is = dead_or old.stage.phase (λ dead. gone_not_begun old new is.result (is.ends.ended.dead dead)) (λ alive. gone_ended Clear _ _ old old.number new is.result (is.ends.ended.ended alive))

  copy_gone : (map : ℕ) (result : Result Bool CellFault) → IsCopiedAt map result old new → IsGone old new
  copy_gone map result is = dead_or old.stage.phase (λ dead. gone_not_begun old new result (is.ends.ended.dead dead)) (λ alive. gone_ended (CopyJob map) _ _ old old.number new result (is.ends.ended.ended alive))

  read_gone : (span : Span) (bytes : List ℕ) (stop : Option CellFault) → IsRead span bytes stop old new → IsGone old new
  read_gone span bytes stop is = dead_or old.stage.phase (λ dead. gone_not_begun old new is.result (is.ended.dead dead)) (λ alive. gone_ended ReadJob _ _ old (old.number + 1) new is.result (is.ended.ended alive))

  write_gone : (span : Span) (bytes : List ℕ) (stop : Option CellFault) → IsWritten span bytes stop old new → IsGone old new
  write_gone span bytes stop is =
      dead_or old.stage.phase (λ dead. gone_not_begun old new is.result (is.ended.dead dead))
      (λ alive. let ended = is.ended.ended alive in record { stays = stays_kept old (old.number + 1) new ended.kept; tells = ended.tells; others = ended.kept.others })

-- a way to call a region, and how it may be told
pub record IsWay (Way : Span → List ℕ → Option CellFault → RegionSeen → RegionSeen → Type 0) (may : Option CellFault → EntryKind → Type 0) : Type 0 where
  pub goes : CalledGoesOn Way may
  pub gone : (old new : RegionSeen) (span : Span) (bytes : List ℕ) (stop : Option CellFault) → Way span bytes stop old new → IsGone old new
  pub number : (old new : RegionSeen) (span : Span) (bytes : List ℕ) (stop : Option CellFault) → Way span bytes stop old new → (old.stage.phase ≡ Dead → ⊥) → new.number ≡ old.number + 1

pub read_way : IsWay IsRead MayTellRead
read_way = record { goes = read_goes; gone = read_gone; number = λ old new span bytes stop is alive. (is.ended.ended alive).number }

pub write_way : IsWay IsWritten MayTellWrite
write_way = record { goes = write_goes; gone = write_gone; number = λ old new span bytes stop is alive. (is.ended.ended alive).number }

-- a job without a call
pub record IsJob (Way : RegionSeen → RegionSeen → Type 0) : Type 0 where
  pub goes : QuietGoesOn Way
  pub gone : (old new : RegionSeen) → Way old new → IsGone old new

pub settle_job : (stop : Option CellFault) → IsJob (IsSettledAt stop)
settle_job stop = record { goes = settle_goes stop; gone = λ old new is. settle_gone old new stop is }

pub clear_job : (stop : Option CellFault) → IsJob (IsClearedAt stop)
clear_job stop = record { goes = clear_goes stop; gone = λ old new is. clear_gone old new stop is }

pub copy_job : (map : ℕ) (result : Result Bool CellFault) → IsJob (IsCopiedAt map result)
copy_job map result = record { goes = copy_goes map result; gone = λ old new is. copy_gone old new map result is }

-- ---- all regions

pub going_same : (v : VolumeSeen) (fixed : ℕ → Fixed) (entries : ℕ → List Entry) → AreTold v → RegionsGoOn v v fixed entries entries
going_same v fixed entries told = record { count = refl; each = λ r lt. goes_same (region_at v r) (fixed r) (entries r); told = told }

pub going_then : EachGoingGoesOn
going_then old mid new fixed entries entries' entries'' first then =
    record {
      count = then.count ∙ first.count;
      each = λ r lt. goes_then (region_at old r) (region_at mid r) (region_at new r) (fixed r) (entries r) (entries' r) (entries'' r) (first.each r lt) (then.each r (subst (λ (n : ℕ). r < n) (sym first.count) lt));
      told = then.told;
    }

pub going_stands : EachGoingStands
going_stands old new fixed entries entries' going stood r lt =
    let inside : r < length old.cells = subst (λ (n : ℕ). r < n) going.count lt in
    goes_stands (region_at old r) (region_at new r) (fixed r) (entries r) (entries' r) (going.each r inside) (stood r inside)

-- each cell is that of its region
abbrev pub AreIndexed : VolumeSeen → Type 0
AreIndexed v = (i : ℕ) → i < length v.cells → (cell_at v i).region ≡ i

module _ (r : ℕ) (old new : VolumeSeen) (Way : RegionSeen → RegionSeen → Type 0) (changes : ChangesRegion r Way old new) (index : AreIndexed old) (gone : IsGone (region_at old r) (region_at new r)) (told : AreTold old) where
  others_here : OnMarks (TidiesOthers r) old.log.told new.log.told
  others_here = subst (λ (n : ℕ). OnMarks (TidiesOthers n) old.log.told new.log.told) (index r changes.inside) gone.others

  other_region_goes : (i : ℕ) → i < length old.cells → i ≢ r → (fixed : Fixed) (entries : List Entry) → GoesOn (region_at old i) (region_at new i) fixed entries entries
  other_region_goes i lt apart fixed entries =
      subst (λ (c : CellSeen). GoesOn (region_at old i) (with_log c new.log) fixed entries entries) (sym (changes.others i apart))
      (other_goes r (region_at old i) new.log fixed entries (λ e. apart (sym (index i lt) ∙ e)) (told i lt).1 gone.stays.log others_here)

  step_told : AreTold new
  step_told i lt =
      let inside : i < length old.cells = subst (λ (n : ℕ). i < n) changes.count lt in
      let here : IsTold (region_at new r) = gone.tells (told r changes.inside) in
      elim (cases_eq i r) [
        | inl is ↦ subst (λ (n : ℕ). IsTold (region_at new n)) (sym is) here
        | inr apart ↦ subst (λ (c : CellSeen). IsTold (with_log c new.log)) (sym (changes.others i apart)) ((told i inside).0, here.1)
      ]

  pub step_goes : (fixed : ℕ → Fixed) (entries entries' : ℕ → List Entry) → GoesOn (region_at old r) (region_at new r) (fixed r) (entries r) (entries' r) → ((i : ℕ) → i ≢ r → entries' i ≡ entries i) → RegionsGoOn old new fixed entries entries'
  step_goes fixed entries entries' goes same =
      record {
        count = changes.count;
        each = λ i lt.
            elim (cases_eq i r) [
              | inl is ↦ subst (λ (n : ℕ). GoesOn (region_at old n) (region_at new n) (fixed n) (entries n) (entries' n)) (sym is) goes
              | inr apart ↦ subst (λ (es : List Entry). GoesOn (region_at old i) (region_at new i) (fixed i) (entries i) es) (sym (same i apart)) (other_region_goes i lt apart (fixed i) (entries i))
            ];
        told = step_told;
      }

  -- a job without a call was run
  pub quiet_step : QuietGoesOn Way → IsIdle (cell_at old r).stage.phase → old.log.lent ≡ false → (fixed : ℕ → Fixed) (entries : ℕ → List Entry) → RegionsGoOn old new fixed entries entries
  quiet_step quiet idle own fixed entries = step_goes fixed entries entries (quiet (region_at old r) (region_at new r) changes.goes idle own (told r changes.inside) (fixed r) (entries r)) (λ i apart. refl)

pub job_goes : (Way : RegionSeen → RegionSeen → Type 0) → IsJob Way → (r : ℕ) (old new : VolumeSeen) → ChangesRegion r Way old new → AreIndexed old → AreTold old → IsIdle (cell_at old r).stage.phase → old.log.lent ≡ false →
    (fixed : ℕ → Fixed) (entries : ℕ → List Entry) → RegionsGoOn old new fixed entries entries
job_goes Way job r old new changes index told idle own fixed entries = quiet_step r old new Way changes index (job.gone (region_at old r) (region_at new r) changes.goes) told job.goes idle own fixed entries

-- ---- the entries of one region

-- the entries are those of the region
pub record AreOf (r : ℕ) (made : List Entry) : Type 0 where
  pub here : (entries : List Entry) → with_made r made entries ≡ made ++ entries
  pub elsewhere : (i : ℕ) → i ≢ r → (entries : List Entry) → with_made i made entries ≡ entries

of_none : (r : ℕ) → AreOf r []
of_none r = record { here = λ entries. refl; elsewhere = λ i apart entries. refl }

of_one : (r : ℕ) (e : Entry) → e.part.region ≡ r → AreOf r (e ∷ [])
of_one r e is =
    record {
      here = λ entries. let test : (e.part.region == r) ≡ true = rw is (same_test r) in rw test refl;
      elsewhere = λ i apart entries. let test : (e.part.region == i) ≡ false = other_number e.part.region i (λ f. apart (sym f ∙ is)) in rw test refl;
    }

pub made_of : (phase : Phase) (may : EntryKind → Type 0) (entry : EntryKind → Entry) (made : List Entry) (r : ℕ) → ((kind : EntryKind) → (entry kind).part.region ≡ r) → AreMadeOf phase may entry made → AreOf r made
made_of Dead may entry made r own are = subst (λ (es : List Entry). AreOf r es) (sym are) (of_none r)
made_of Settled may entry made r own are = subst (λ (es : List Entry). AreOf r es) (sym are.2) (of_one r (entry are.0) (own are.0))
made_of Unsettled may entry made r own are = subst (λ (es : List Entry). AreOf r es) (sym are.2) (of_one r (entry are.0) (own are.0))
made_of (Busy w) may entry made r own are = subst (λ (es : List Entry). AreOf r es) (sym are.2) (of_one r (entry are.0) (own are.0))

-- ---- one region is called

module _ (Way : Span → List ℕ → Option CellFault → RegionSeen → RegionSeen → Type 0) (may : Option CellFault → EntryKind → Type 0) (way : IsWay Way may)
    (r : ℕ) (span : Span) (bytes : List ℕ) (stop : Option CellFault) (old new : VolumeSeen) (changes : ChangesRegion r (Way span bytes stop) old new) (index : AreIndexed old) (told : AreTold old) where
  pub call_goes : IsIdle (cell_at old r).stage.phase → old.log.lent ≡ false → (cell_at old r).start ≤ span.start → (who : Caller) (fixed : ℕ → Fixed) (entries : ℕ → List Entry) →
      (fixed r).region ≡ r → AllOf (MayPrecede who.session who.place (cell_at old r).epoch) (entries r) →
      (made : List Entry) × AreMadeOf (cell_at old r).stage.phase (may stop) (next_entry (region_at old r) who span bytes) made × AreOf r made × RegionsGoOn old new fixed entries (λ i. with_made i made (entries i))
  call_goes idle own inside who fixed entries here order =
      let gone = way.gone (region_at old r) (region_at new r) span bytes stop changes.goes in
      let goes = way.goes span bytes stop (region_at old r) (region_at new r) changes.goes idle own inside (told r changes.inside) who (fixed r) (entries r) (record { here = index r changes.inside ∙ sym here; number = refl; order = order }) in
      let are = made_of (cell_at old r).stage.phase (may stop) (next_entry (region_at old r) who span bytes) goes.0 r (λ kind. index r changes.inside) goes.1 in (
        goes.0,
        goes.1,
        are,
        step_goes r old new (Way span bytes stop) changes index gone told fixed entries (λ i. with_made i goes.0 (entries i))
            (subst (λ (es : List Entry). GoesOn (region_at old r) (region_at new r) (fixed r) (entries r) es) (sym (are.here (entries r))) goes.2) (λ i apart. are.elsewhere i apart (entries i)),
      )

-- a volume has its cells in order
pub indexed : (v : VolumeSeen) → IsVolume v → AreIndexed v
indexed v volume i lt = (volume.each i lt).index

pub call_of_region : (Way : Span → List ℕ → Option CellFault → RegionSeen → RegionSeen → Type 0) (may : Option CellFault → EntryKind → Type 0) → IsWay Way may → CallOfRegionGoesOn Way may
call_of_region Way may way r span bytes stop old new changes volume inside told who fixed entries next =
    let goes = call_goes Way may way r span bytes stop old new changes (indexed old volume) told (volume.each r changes.inside).idle volume.own inside who fixed entries (next.here r changes.inside) (next.order r changes.inside) in
    (goes.0, goes.1, goes.3)

-- ---- a job without a call is run on one region

pub job_of_region : (Way : RegionSeen → RegionSeen → Type 0) → IsJob Way → JobOfRegionGoesOn Way
job_of_region Way job r old new changes volume told fixed entries = job_goes Way job r old new changes (indexed old volume) told (volume.each r changes.inside).idle volume.own fixed entries

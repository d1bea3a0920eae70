-- How the histories of a volume go on through a pass over its regions.
use Rattle.std.proofs.Common.{◌≡◌, ℕ, zero, suc, ◌<◌, ◌≤◌, false, refl, sym, ◌∙◌, ap, subst, inl, inr, arith, List, length, Option, Some, None, Ok, Err}
use Rattle.std.proofs.lemmas.Bool.{cases_eq}
use Rattle.vx_life.specs.Entry.{Entry}
use Rattle.vx_core.specs.Region.{Fixed}
use Rattle.vx_core.specs.Schedule.{IsIdle}
use Rattle.vx_cell.specs.declared.fault.CellFault.{CellFault}
use Rattle.vx_cell.specs.Changes.{CellSeen}
use Rattle.vx_cell.specs.Region.{RegionSeen}
use Rattle.vx_volume.specs.Calls.{ChangesRegion, io_stop}
use Rattle.vx_volume.specs.Laws.{AreTold, CopyPassGoesOn, PassGoesOn, RegionsGoOn}
use Rattle.vx_volume.specs.Loop.{AreDone, AreMade}
use Rattle.vx_volume.specs.Passes.{Clears, CopiesTo, Copying, IsClearedAt, IsCopiedAt, IsSettledAt, Settles}
use Rattle.vx_volume.specs.Volume.{IsVolume, VolumeSeen, cell_at, region_at}
use Rattle.vx_volume.proofs.Volumes.{AreIndexed, IsJob, clear_job, copy_job, going_same, going_then, indexed, job_goes, settle_job}

-- the regions before this one had their jobs, and the others are as they were
pub record HasPassed (v : VolumeSeen) (fixed : ℕ → Fixed) (entries : ℕ → List Entry) (first : ℕ) (now : VolumeSeen) : Type 0 where
  pub index : AreIndexed now
  pub later : (i : ℕ) → first ≤ i → cell_at now i ≡ cell_at v i
  pub own : now.log.lent ≡ false
  pub goes : RegionsGoOn v now fixed entries entries

module _ (v : VolumeSeen) (volume : IsVolume v) (fixed : ℕ → Fixed) (entries : ℕ → List Entry) where
  pub begins : AreTold v → HasPassed v fixed entries 0 v
  begins told = record { index = indexed v volume; later = λ i le. refl; own = volume.own; goes = going_same v fixed entries told }

  -- one region more has its job
  pub passes : (Way : RegionSeen → RegionSeen → Type 0) → IsJob Way → (r : ℕ) (mid new : VolumeSeen) → HasPassed v fixed entries r mid → ChangesRegion r Way mid new → HasPassed v fixed entries (suc r) new
  passes Way job r mid new come changes =
      let inside : r < length v.cells = subst (λ (m : ℕ). r < m) come.goes.count changes.inside in
      let idle : IsIdle (cell_at mid r).stage.phase = subst (λ (c : CellSeen). IsIdle c.stage.phase) (sym (come.later r (omega arith))) (volume.each r inside).idle in
      let gone = job.gone (region_at mid r) (region_at new r) changes.goes in
      record {
        index = λ i lt.
            elim (cases_eq i r) [
              | inl is ↦ subst (λ (m : ℕ). (cell_at new m).region ≡ m) (sym is) (gone.stays.region ∙ come.index r changes.inside)
              | inr apart ↦ ap (λ (c : CellSeen). c.region) (changes.others i apart) ∙ come.index i (subst (λ (m : ℕ). i < m) changes.count lt)
            ];
        later = λ i le. changes.others i (λ e. absurd (omega (arith, e, le))) ∙ come.later i (omega (arith, le));
        own = gone.stays.log.lent ∙ come.own;
        goes = going_then v mid new fixed entries entries entries come.goes (job_goes Way job r mid new changes come.index come.goes.told idle come.own fixed entries);
      }

-- a pass whose calls each lead on
module _ {S : Type 0} (see : S → VolumeSeen) (Call : ℕ → Option CellFault → S → S → Type 0) (v : VolumeSeen) (fixed : ℕ → Fixed) (entries : ℕ → List Entry)
    (leads : (r : ℕ) (stop : Option CellFault) (mid new : S) → Call r stop mid new → HasPassed v fixed entries r (see mid) → HasPassed v fixed entries (suc r) (see new)) where
  all_passed : (n : ℕ) (old new : S) → HasPassed v fixed entries 0 (see old) → AreDone Call n old new → HasPassed v fixed entries n (see new)
  all_passed zero old new come done = subst (λ (s : S). HasPassed v fixed entries 0 (see s)) (sym done) come
  all_passed (suc n) old new come done = leads n None done.0 new done.2 (all_passed n old done.0 come done.1)

  pub pass_goes : (total : ℕ) (stop : Option CellFault) (old new : S) → HasPassed v fixed entries 0 (see old) → AreMade Call total stop old new → RegionsGoOn v (see new) fixed entries entries
  pass_goes total None old new come done = (all_passed total old new come done).goes
  pass_goes total (Some fault) old new come made = (leads made.0 (Some fault) made.1 new made.4 (all_passed made.0 old made.1 come made.3)).goes

pub settle_pass : PassGoesOn Settles
settle_pass old new result ends volume told fixed entries =
    pass_goes (λ (v : VolumeSeen). v) Settles old fixed entries (λ r stop mid now changes come. passes old volume fixed entries (IsSettledAt stop) (settle_job stop) r mid now come changes) (length old.cells) (io_stop result) old new (begins old volume fixed entries told) ends.0

pub clear_pass : PassGoesOn Clears
clear_pass old new result ends volume told fixed entries =
    pass_goes (λ (v : VolumeSeen). v) Clears old fixed entries (λ r stop mid now changes come. passes old volume fixed entries (IsClearedAt stop) (clear_job stop) r mid now come changes) (length old.cells) (io_stop result) old new (begins old volume fixed entries told) ends.0

-- each copy of a pass leads on
copies : (m : ℕ) (old : VolumeSeen) (volume : IsVolume old) (fixed : ℕ → Fixed) (entries : ℕ → List Entry) (r : ℕ) (stop : Option CellFault) (mid new : Copying) → CopiesTo m r stop mid new → HasPassed old fixed entries r mid.volume → HasPassed old fixed entries (suc r) new.volume
copies m old volume fixed entries r stop mid new is come = passes old volume fixed entries (IsCopiedAt m is.result) (copy_job m is.result) r mid.volume new.volume come is.ends

pub copy_pass : CopyPassGoesOn
copy_pass m old new (Ok n) ends volume told fixed entries =
    pass_goes (λ (c : Copying). c.volume) (CopiesTo m) old fixed entries (copies m old volume fixed entries) (length old.cells) None (record { volume = old; copied = 0 }) (record { volume = new; copied = n }) (begins old volume fixed entries told) ends
copy_pass m old new (Err fault) ends volume told fixed entries =
    pass_goes (λ (c : Copying). c.volume) (CopiesTo m) old fixed entries (copies m old volume fixed entries) (length old.cells) (io_stop {T = ℕ} (Err fault)) (record { volume = old; copied = 0 }) (record { volume = new; copied = ends.0 }) (begins old volume fixed entries told) ends.1

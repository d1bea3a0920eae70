-- What healing a volume, or a part of it, keeps of its regions.
use Rattle.std.proofs.Common.{◌≡◌, ◌⊎◌, inl, inr, ℕ, zero, suc, List, length, Option, Some, None, Result, Ok, Err, refl, sym, ◌∙◌, ap, subst}
use Rattle.std.proofs.lemmas.Bool.{cases_eq}
use Rattle.vx_life.specs.Entry.{Entry}
use Rattle.vx_mask.specs.Mask.{has}
use Rattle.vx_mask.proofs.Tests.{true_or_false}
use Rattle.vx_core.specs.Region.{Fixed}
use Rattle.vx_core.specs.declared.stage.Job.TheVariants.{Copy as CopyJob, Settle, Clear}
use Rattle.vx_core.specs.declared.stage.Phase.{Phase}
use Rattle.vx_core.specs.declared.stage.Phase.TheVariants.{Settled, Unsettled, Dead, Busy}
use Rattle.vx_cell.specs.declared.fault.CellFault.{CellFault}
use Rattle.vx_cell.specs.Changes.{CellSeen}
use Rattle.vx_cell.specs.Region.{RegionSeen}
use Rattle.vx_volume.specs.declared.fault.IoFault.{IoFault}
use Rattle.vx_volume.specs.Calls.{ChangesRegion, io_stop}
use Rattle.vx_volume.specs.Laws.{AreTold, RegionsGoOn}
use Rattle.vx_volume.specs.Loop.{AreDone, AreMade}
use Rattle.vx_volume.specs.Passes.{Clears, CopiesTo, CopyEnds, Copying, IsClearedAt, IsCopiedAt, IsSettledAt, JobEnds, PassEnds, Settles}
use Rattle.vx_volume.specs.Volume.{IsVolume, VolumeSeen, cell_at, region_at}
use Rattle.vx_volume.proofs.PassHistories.{clear_pass, copy_pass, settle_pass}
use Rattle.vx_volume.proofs.Volumes.{going_same, going_then}
use Rattle.vx_volume_laws.specs.Calls.{KeepsPlaces}
use Rattle.vx_volume_laws.proofs.Keepings.{each_clearing_keeps, each_copy_keeps, each_settling_keeps, keeping_keeps, keeps_same}
use Rattle.vx_group_calls.proofs.Failures.{clearing_gone, copying_gone, settling_gone}
use Rattle.vx_group_calls.proofs.Keeping.{HasGone, gone_same, gone_then}
use Rattle.vx_group_start.specs.Copying.{AreCopied, CopiesMap}
use Rattle.vx_group_recover.specs.Healing.{Heals, IsHealed}
use Rattle.vx_group_recover.specs.declared.healing.Healed.{Healed}
use Rattle.vx_group_volumes.proofs.CopiesRun.{pass_volume}
use Rattle.vx_group_volumes.proofs.Rests.{settled_volume}

-- ---- calls one after the other

-- what each call keeps all keep
module _ {S : Type 0} (Call : ℕ → Option CellFault → S → S → Type 0) (Rel : S → S → Type 0) (same : (s : S) → Rel s s) (then : (a b c : S) → Rel a b → Rel b c → Rel a c)
    (one : (n : ℕ) (stop : Option CellFault) (old new : S) → Call n stop old new → Rel old new) where
  done_keeps : (n : ℕ) (old new : S) → AreDone Call n old new → Rel old new
  done_keeps zero old new is = subst (Rel old) (sym is) (same old)
  done_keeps (suc n) old new (mid, done, last) = then old mid new (done_keeps n old mid done) (one n None mid new last)

  made_keeps : (total : ℕ) (stop : Option CellFault) (old new : S) → AreMade Call total stop old new → Rel old new
  made_keeps total None old new done = done_keeps total old new done
  made_keeps total (Some fault) old new (n, mid, low, done, last) = then old mid new (done_keeps n old mid done) (one n (Some fault) mid new last)

-- ---- numbers that are drawn

-- no number was drawn in any region
abbrev SameNumbers : VolumeSeen → VolumeSeen → Type 0
SameNumbers old new = (r : ℕ) → (cell_at new r).number ≡ (cell_at old r).number

numbers_same : (v : VolumeSeen) → SameNumbers v v
numbers_same v r = refl

numbers_then : (a b c : VolumeSeen) → SameNumbers a b → SameNumbers b c → SameNumbers a c
numbers_then a b c first then r = then r ∙ first r

pub dead_or_not : (phase : Phase) → (phase ≡ Dead) ⊎ (phase ≡ Dead → ⊥)
dead_or_not Dead = inl refl
dead_or_not Settled = inr (λ e. cc)
dead_or_not Unsettled = inr (λ e. cc)
dead_or_not (Busy w) = inr (λ e. cc)

changes_number : (Way : RegionSeen → RegionSeen → Type 0) → ((old new : RegionSeen) → Way old new → new.number ≡ old.number) → (r : ℕ) (old new : VolumeSeen) → ChangesRegion r Way old new → SameNumbers old new
changes_number Way keeps r old new changes i = elim (cases_eq i r) [
  | inl is ↦ subst (λ (n : ℕ). (cell_at new n).number ≡ (cell_at old n).number) (sym is) (keeps (region_at old r) (region_at new r) changes.goes)
  | inr apart ↦ ap (λ (c : CellSeen). c.number) (changes.others i apart)
]

settle_number : {T : Type 0} (result : Result T CellFault) (old new : RegionSeen) → JobEnds Settle result old new → new.number ≡ old.number
settle_number result old new ends = elim (dead_or_not old.stage.phase) [ inl dead ↦ ap (λ (r : RegionSeen). r.number) (ends.ended.dead dead).same | inr alive ↦ (ends.ended.ended alive).number ]

clear_number : {T : Type 0} (result : Result T CellFault) (old new : RegionSeen) → JobEnds Clear result old new → new.number ≡ old.number
clear_number result old new ends = elim (dead_or_not old.stage.phase) [ inl dead ↦ ap (λ (r : RegionSeen). r.number) (ends.ended.dead dead).same | inr alive ↦ (ends.ended.ended alive).number ]

copy_number : {T : Type 0} (map : ℕ) (result : Result T CellFault) (old new : RegionSeen) → JobEnds (CopyJob map) result old new → new.number ≡ old.number
copy_number map result old new ends = elim (dead_or_not old.stage.phase) [ inl dead ↦ ap (λ (r : RegionSeen). r.number) (ends.ended.dead dead).same | inr alive ↦ (ends.ended.ended alive).number ]

settles_numbers : (old new : VolumeSeen) (result : Result (Unit {0}) IoFault) → PassEnds Settles old new result → SameNumbers old new
settles_numbers old new result ends =
    made_keeps Settles SameNumbers numbers_same numbers_then (λ r stop a b changes. changes_number (IsSettledAt stop) (λ x y is. settle_number is.result x y is.ends) r a b changes) (length old.cells) (io_stop result) old new ends.0

clears_numbers : (old new : VolumeSeen) (result : Result (Unit {0}) IoFault) → PassEnds Clears old new result → SameNumbers old new
clears_numbers old new result ends =
    made_keeps Clears SameNumbers numbers_same numbers_then (λ r stop a b changes. changes_number (IsClearedAt stop) (λ x y is. clear_number is.result x y is.ends) r a b changes) (length old.cells) (io_stop result) old new ends.0

abbrev SameIn : Copying → Copying → Type 0
SameIn old new = SameNumbers old.volume new.volume

made_numbers : (map total : ℕ) (stop : Option CellFault) (old new : Copying) → AreMade (CopiesTo map) total stop old new → SameIn old new
made_numbers map total stop old new made =
    made_keeps (CopiesTo map) SameIn (λ c. numbers_same c.volume) (λ a b c first then. numbers_then a.volume b.volume c.volume first then)
    (λ r stop a b step. changes_number (IsCopiedAt map step.result) (λ x y is. copy_number map step.result x y is.ends) r a.volume b.volume step.ends) total stop old new made

copies_numbers : (map : ℕ) (old new : VolumeSeen) (result : Result ℕ IoFault) → CopyEnds map old new result → SameNumbers old new
copies_numbers map old new (Ok n) ends = made_numbers map (length old.cells) None (record { volume = old; copied = 0 }) (record { volume = new; copied = n }) ends
copies_numbers map old new (Err fault) ends = made_numbers map (length old.cells) (io_stop {T = ℕ} (Err fault)) (record { volume = old; copied = 0 }) (record { volume = new; copied = ends.0 }) ends.1

-- ---- what stays

-- no number was drawn, each piece is in its place, and the plexes go on
pub record Stays (old new : VolumeSeen) : Type 0 where
  pub numbers : (r : ℕ) → (cell_at new r).number ≡ (cell_at old r).number
  pub places : KeepsPlaces old new
  pub gone : HasGone old new

stays_same : (v : VolumeSeen) → Stays v v
stays_same v = record { numbers = numbers_same v; places = keeps_same v; gone = gone_same v }

stays_then : (a b c : VolumeSeen) → Stays a b → Stays b c → Stays a c
stays_then a b c first then = record { numbers = numbers_then a b c first.numbers then.numbers; places = keeping_keeps a b c first.places then.places; gone = gone_then a b c first.gone then.gone }

pub settles_stays : (old new : VolumeSeen) (result : Result (Unit {0}) IoFault) → PassEnds Settles old new result → Stays old new
settles_stays old new result ends = record { numbers = settles_numbers old new result ends; places = each_settling_keeps old new result ends; gone = settling_gone old new result ends }

clears_stays : (old new : VolumeSeen) (result : Result (Unit {0}) IoFault) → PassEnds Clears old new result → Stays old new
clears_stays old new result ends = record { numbers = clears_numbers old new result ends; places = each_clearing_keeps old new result ends; gone = clearing_gone old new result ends }

map_stays : (mask map : ℕ) (stop : Option CellFault) (old new : VolumeSeen) → CopiesMap mask map stop old new → Stays old new
map_stays mask map stop old new copies = elim (true_or_false (has mask map)) [
  | inl there ↦
      let pass = copies.pass there in
      record { numbers = copies_numbers map old new pass.result pass.ends; places = each_copy_keeps map old new pass.result pass.ends; gone = copying_gone map old new pass.result pass.ends }
  | inr away ↦ subst (Stays old) (sym (copies.none away).1) (stays_same old)
]

copies_stay : (mask : ℕ) (old new : VolumeSeen) (result : Result ℕ IoFault) → AreCopied mask old new result → Stays old new
copies_stay mask old new result copied = made_keeps (CopiesMap mask) Stays stays_same stays_then (λ map stop a b copies. map_stays mask map stop a b copies) copied.maps (io_stop result) old new copied.made

-- from when all was settled to the end
pub rest_stays : (old new : VolumeSeen) (healed : Healed) (is : IsHealed old new healed) → Stays is.mid new
rest_stays old new healed is = stays_then is.mid is.whole new (copies_stay is.mask is.mid is.whole (Ok healed.copied) is.copied) (clears_stays is.whole new (Ok tt) is.cleared)

pub heals_stays : (old new : VolumeSeen) (result : Result Healed IoFault) → Heals old new result → Stays old new
heals_stays old new (Ok healed) is = stays_then old is.mid new (settles_stays old is.mid (Ok tt) is.settled.settled) (rest_stays old new healed is)
heals_stays old new (Err fault) (inl settles) = settles_stays old new (Err fault) settles
heals_stays old new (Err fault) (inr (inl copy)) = stays_then old copy.mid new (settles_stays old copy.mid (Ok tt) copy.settled.settled) (copies_stay copy.mask copy.mid new (Err fault) copy.copied)
heals_stays old new (Err fault) (inr (inr clear)) =
    stays_then old clear.whole new (stays_then old clear.mid clear.whole (settles_stays old clear.mid (Ok tt) clear.settled.settled) (copies_stay clear.mask clear.mid clear.whole (Ok clear.number) clear.copied))
    (clears_stays clear.whole new (Err fault) clear.cleared)

-- ---- how the regions go on

module _ (fixed : ℕ → Fixed) (entries : ℕ → List Entry) where
  -- it is a volume, and its regions have gone on
  record Goes (old new : VolumeSeen) : Type 0 where
    volume : IsVolume new
    goes : RegionsGoOn old new fixed entries entries

  -- wherever it began
  abbrev Leads : VolumeSeen → VolumeSeen → Type 0
  Leads old new = IsVolume old → AreTold old → Goes old new

  leads_same : (v : VolumeSeen) → Leads v v
  leads_same v is told = record { volume = is; goes = going_same v fixed entries told }

  leads_then : (a b c : VolumeSeen) → Leads a b → Leads b c → Leads a c
  leads_then a b c first then is told =
      let x = first is told in
      let y = then x.volume x.goes.told in
      record { volume = y.volume; goes = going_then a b c fixed entries entries entries x.goes y.goes }

  settled_leads : (old new : VolumeSeen) → PassEnds Settles old new (Ok tt) → Leads old new
  settled_leads old new ends is told = record { volume = settled_volume old new ends is; goes = settle_pass old new (Ok tt) ends is told fixed entries }

  map_leads : (mask map : ℕ) (stop : Option CellFault) (old new : VolumeSeen) → CopiesMap mask map stop old new → Leads old new
  map_leads mask map stop old new copies is told = elim (true_or_false (has mask map)) [
    | inl there ↦
        let pass = copies.pass there in
        record { volume = pass_volume map old new pass.result pass.ends is; goes = copy_pass map old new pass.result pass.ends is told fixed entries }
    | inr away ↦ subst (Goes old) (sym (copies.none away).1) (leads_same old is told)
  ]

  copies_lead : (mask : ℕ) (old new : VolumeSeen) (result : Result ℕ IoFault) → AreCopied mask old new result → Leads old new
  copies_lead mask old new result copied = made_keeps (CopiesMap mask) Leads leads_same leads_then (λ map stop a b copies. map_leads mask map stop a b copies) copied.maps (io_stop result) old new copied.made

  -- each region goes on, however far the volume was healed
  pub heals_goes : (old new : VolumeSeen) (result : Result Healed IoFault) → Heals old new result → IsVolume old → AreTold old → RegionsGoOn old new fixed entries entries
  heals_goes old new (Ok healed) is volume told =
      let x = leads_then old is.mid is.whole (settled_leads old is.mid is.settled.settled) (copies_lead is.mask is.mid is.whole (Ok healed.copied) is.copied) volume told in
      going_then old is.whole new fixed entries entries entries x.goes (clear_pass is.whole new (Ok tt) is.cleared x.volume x.goes.told fixed entries)
  heals_goes old new (Err fault) (inl settles) volume told = settle_pass old new (Err fault) settles volume told fixed entries
  heals_goes old new (Err fault) (inr (inl copy)) volume told =
      (leads_then old copy.mid new (settled_leads old copy.mid copy.settled.settled) (copies_lead copy.mask copy.mid new (Err fault) copy.copied) volume told).goes
  heals_goes old new (Err fault) (inr (inr clear)) volume told =
      let x = leads_then old clear.mid clear.whole (settled_leads old clear.mid clear.settled.settled) (copies_lead clear.mask clear.mid clear.whole (Ok clear.number) clear.copied) volume told in
      going_then old clear.whole new fixed entries entries entries x.goes (clear_pass clear.whole new (Err fault) clear.cleared x.volume x.goes.told fixed entries)

-- Why a volume was not brought to rest, or not copied to: a device failed, on which the count of its pieces rose, or one of its pieces is cut.
use Rattle.std.proofs.Common.{◌≡◌, ◌⊎◌, ℕ, ◌-◌, ◌^◌, ◌<◌, ◌≤◌, min, true, false, List, length, Option, Some, Result, Ok, Err, sym, subst, inl, inr, arith}
use Rattle.std.specs.List.{sum_by}
use Rattle.vx_base.specs.Counts.{Rose}
use Rattle.vx_mask.specs.Mask.{has}
use Rattle.vx_mask.proofs.Tests.{true_or_false}
use Rattle.vx_pages.specs.declared.local_piece.LocalPiece.{Ghosts}
use Rattle.vx_piece.specs.Seen.{Keeps, Seen}
use Rattle.vx_runs.specs.Run.{EachPiece, SomeCut}
use Rattle.vx_carve.specs.Together.{faults_of, faults_on}
use Rattle.vx_core.specs.declared.stage.Job.{Job}
use Rattle.vx_core.specs.declared.stage.Job.TheVariants.{Clear, Copy as CopyJob, Settle}
use Rattle.vx_core.specs.declared.stage.Phase.TheVariants.{Dead}
use Rattle.vx_cell.specs.declared.fault.CellFault.{CellFault}
use Rattle.vx_cell.specs.declared.fault.CellFault.TheVariants as cell
use Rattle.vx_cell.specs.declared.fault.Place.{Place}
use Rattle.vx_cell.specs.declared.fault.Place.TheVariants.{Data, Log}
use Rattle.vx_cell.specs.Acts.{PlaceRose}
use Rattle.vx_cell.specs.Calls.{CallHasCause, IsNotBegun, LeavesPhase, Stands}
use Rattle.vx_cell.specs.Region.{IsCut, RegionSeen}
use Rattle.vx_cell.proofs.Work.{le_rose}
use Rattle.vx_volume.specs.declared.fault.IoFault.{IoFault}
use Rattle.vx_volume.specs.declared.fault.IoFault.TheVariants.{Fault, PowerLost, Range}
use Rattle.vx_volume.specs.declared.volume.Volume.{Volume}
use Rattle.vx_volume.specs.Log.{LogGoes}
use Rattle.vx_volume.specs.Calls.{io_stop}
use Rattle.vx_volume.specs.Loop.{AreMade, stop_of}
use Rattle.vx_volume.specs.Passes.{Clears, CopiesTo, CopyEnds, Copying, IsClearedAt, IsCopiedAt, IsSettledAt, PassEnds, Settles}
use Rattle.vx_volume.specs.Volume.{VolumeSeen, cell_at, log_of, region_at, volume_seen}
use Rattle.vx_volume.proofs.Entries.{dead_or}
use Rattle.vx_volume.proofs.Volumes.{clear_job, copy_job, settle_job}
use Rattle.vx_lending.specs.RegionPieces.{all_pieces}
use Rattle.vx_lending.specs.Left.{held_pieces, region_plexes}
use Rattle.vx_lending.specs.Logs.{log_pieces}
use Rattle.vx_group_calls.specs.Causes.{AreCutWhereDead}
use Rattle.vx_group_calls.specs.Ending.{device_of}
use Rattle.vx_group_calls.proofs.Failures.{copying_gone, settling_gone}
use Rattle.vx_group_calls.proofs.HeldPieces.{SumRose, cell_cut, cell_rose, cells_stay, cut_first, cut_then, log_stays, plex_rose, sum_rose, sums_grow}
use Rattle.vx_group_calls.proofs.Keeping.{FailedIn, HasGone, SomeRegionCut, done_gone, gone_same, gone_then, one_gone}
use Rattle.vx_group_calls.proofs.LogFaults.{beside_first, beside_then, log_cut, log_rose}
use Rattle.vx_group_start.specs.Copying.{AreCopied, CopiesMap}
use Rattle.vx_group_stop.specs.Stops.{ComesToRest}
use Rattle.vx_group_volumes.specs.RestLaws.{EachRestHasReason, RestHasReason}

-- ---- a region

stopped_by : {T : Type 0} (result : Result T CellFault) (fault : CellFault) → Some fault ≡ stop_of result → result ≡ Err fault
stopped_by (Ok u) fault is = cc
stopped_by (Err other) fault is = cc

no_fault : {T A : Type 0} (result : Result T CellFault) (place : Place) → result ≡ Err cell.PowerLost → result ≡ Err (cell.Fault place) → A
no_fault result place lost fault = cc

ended_cut : {T : Type 0} (job : Job) (old new : RegionSeen) (result : Result T CellFault) → LeavesPhase result new.stage.phase → CallHasCause job old new result → new.stage.phase ≡ Dead → IsCut new
ended_cut job old new (Ok u) leaves cause dead = cc
ended_cut job old new (Err (cell.Fault place)) (inl is) cause dead = cc
ended_cut job old new (Err (cell.Fault place)) (inr is) cause dead = cc
ended_cut job old new (Err cell.PowerLost) leaves cause dead = cause
ended_cut job old new (Err cell.Held) leaves cause dead = absurd (subst Stands dead leaves)
ended_cut job old new (Err (cell.Only map)) leaves cause dead = absurd leaves

module _ {T : Type 0} (job : Job) (old new : RegionSeen) (result : Result T CellFault) (dead : old.stage.phase ≡ Dead → IsNotBegun old new result)
    (phase : (old.stage.phase ≡ Dead → ⊥) → LeavesPhase result new.stage.phase) (cause : (old.stage.phase ≡ Dead → ⊥) → CallHasCause job old new result) where
  -- it is left dead only where it was, or is cut
  phase_cut : new.stage.phase ≡ Dead → (old.stage.phase ≡ Dead) ⊎ IsCut new
  phase_cut is = dead_or old.stage.phase (λ was. inl was) (λ alive. inr (ended_cut job old new result (phase alive) (cause alive) is))

  place_rose : (place : Place) → Some (cell.Fault place) ≡ stop_of result → PlaceRose place old.plexes old.log new.plexes new.log
  place_rose place stopped =
      let is : result ≡ Err (cell.Fault place) = stopped_by result (cell.Fault place) stopped in
      dead_or old.stage.phase (λ was. no_fault result place (dead was).answer is) (λ alive. (subst (λ (x : Result T CellFault). CallHasCause job old new x) is (cause alive)).0)

  power_cut : Some cell.PowerLost ≡ stop_of result → ((old.stage.phase ≡ Dead) × (new ≡ old)) ⊎ IsCut new
  power_cut stopped =
      let is : result ≡ Err cell.PowerLost = stopped_by result cell.PowerLost stopped in
      dead_or old.stage.phase (λ was. inl (was, (dead was).same)) (λ alive. inr (subst (λ (x : Result T CellFault). CallHasCause job old new x) is (cause alive)))

-- ---- a volume

abbrev itself : VolumeSeen → VolumeSeen
itself v = v

settles_gone : (r : ℕ) (stop : Option CellFault) (old new : VolumeSeen) → Settles r stop old new → HasGone old new
settles_gone r stop old new changes =
    let e = changes.goes.ends.ended in
    one_gone r (IsSettledAt stop) old new changes ((settle_job stop).gone _ _ changes.goes).stays
    (phase_cut Settle (region_at old r) (region_at new r) changes.goes.result e.dead (λ alive. (e.ended alive).phase) (λ alive. (e.ended alive).cause))

clears_gone : (r : ℕ) (stop : Option CellFault) (old new : VolumeSeen) → Clears r stop old new → HasGone old new
clears_gone r stop old new changes =
    let e = changes.goes.ends.ended in
    one_gone r (IsClearedAt stop) old new changes ((clear_job stop).gone _ _ changes.goes).stays
    (phase_cut Clear (region_at old r) (region_at new r) changes.goes.result e.dead (λ alive. (e.ended alive).phase) (λ alive. (e.ended alive).cause))

-- a place failed as the regions were settled
settling_fault : (place : Place) (old new : VolumeSeen) → PassEnds Settles old new (Err (Fault place)) → FailedIn place old new
settling_fault place old new ((n, mid, low, done, changes), plain) =
    let e = changes.goes.ends.ended in
    record {
      mid = mid;
      gone = done_gone itself Settles settles_gone n old mid done;
      last = settles_gone n (Some (cell.Fault place)) mid new changes;
      region = n;
      inside = changes.inside;
      rose = place_rose Settle (region_at mid n) (region_at new n) changes.goes.result e.dead (λ alive. (e.ended alive).phase) (λ alive. (e.ended alive).cause) place changes.goes.stopped;
    }

-- a place failed as their dirty marks were taken away
pub clearing_fault : (place : Place) (old new : VolumeSeen) → PassEnds Clears old new (Err (Fault place)) → FailedIn place old new
clearing_fault place old new ((n, mid, low, done, changes), plain) =
    let e = changes.goes.ends.ended in
    record {
      mid = mid;
      gone = done_gone itself Clears clears_gone n old mid done;
      last = clears_gone n (Some (cell.Fault place)) mid new changes;
      region = n;
      inside = changes.inside;
      rose = place_rose Clear (region_at mid n) (region_at new n) changes.goes.result e.dead (λ alive. (e.ended alive).phase) (λ alive. (e.ended alive).cause) place changes.goes.stopped;
    }

lost_here : (r : ℕ) (old new : VolumeSeen) → r < length old.cells → length new.cells ≡ length old.cells → AreCutWhereDead old → (((cell_at old r).stage.phase ≡ Dead) × (region_at new r ≡ region_at old r)) ⊎ IsCut (region_at new r) → SomeRegionCut new
lost_here r old new inside count cut (inl dead) =
    record { region = r; inside = subst (λ (n : ℕ). r < n) (sym count) inside; cut = subst (λ (x : RegionSeen). IsCut x) (sym dead.1) (cut r inside dead.0) }
lost_here r old new inside count cut (inr is) = record { region = r; inside = subst (λ (n : ℕ). r < n) (sym count) inside; cut = is }

-- the power went as they were settled, or as their dirty marks were taken away
settling_lost : (old new : VolumeSeen) → PassEnds Settles old new (Err PowerLost) → AreCutWhereDead old → SomeRegionCut new
settling_lost old new ((n, mid, low, done, changes), plain) cut =
    let e = changes.goes.ends.ended in
    lost_here n mid new changes.inside changes.count ((done_gone itself Settles settles_gone n old mid done).cut cut)
    (power_cut Settle (region_at mid n) (region_at new n) changes.goes.result e.dead (λ alive. (e.ended alive).phase) (λ alive. (e.ended alive).cause) changes.goes.stopped)

pub clearing_lost : (old new : VolumeSeen) → PassEnds Clears old new (Err PowerLost) → AreCutWhereDead old → SomeRegionCut new
clearing_lost old new ((n, mid, low, done, changes), plain) cut =
    let e = changes.goes.ends.ended in
    lost_here n mid new changes.inside changes.count ((done_gone itself Clears clears_gone n old mid done).cut cut)
    (power_cut Clear (region_at mid n) (region_at new n) changes.goes.result e.dead (λ alive. (e.ended alive).phase) (λ alive. (e.ended alive).cause) changes.goes.stopped)

-- ---- copies to a plex

volume_in : Copying → VolumeSeen
volume_in c = c.volume

copies_gone : (map r : ℕ) (stop : Option CellFault) (old new : Copying) → CopiesTo map r stop old new → HasGone (volume_in old) (volume_in new)
unfolding volume_in
copies_gone map r stop old new step =
    let e = step.ends.goes.ends.ended in
    one_gone r (IsCopiedAt map step.result) old.volume new.volume step.ends ((copy_job map step.result).gone _ _ step.ends.goes).stays
    (phase_cut (CopyJob map) (region_at old.volume r) (region_at new.volume r) step.result e.dead (λ alive. (e.ended alive).phase) (λ alive. (e.ended alive).cause))

-- a place failed as it was copied to
copying_fault : (place : Place) (map : ℕ) (old new : VolumeSeen) → CopyEnds map old new (Err (Fault place)) → FailedIn place old new
unfolding volume_in copies_gone
copying_fault place map old new (copied, (n, mid, low, done, step), plain) =
    let e = step.ends.goes.ends.ended in
    record {
      mid = mid.volume;
      gone = done_gone volume_in (CopiesTo map) (copies_gone map) n (record { volume = old; copied = 0 }) mid done;
      last = copies_gone map n (Some (cell.Fault place)) mid (record { volume = new; copied = copied }) step;
      region = n;
      inside = step.ends.inside;
      rose = place_rose (CopyJob map) (region_at mid.volume n) (region_at new n) step.result e.dead (λ alive. (e.ended alive).phase) (λ alive. (e.ended alive).cause) place step.stopped;
    }

-- the power went then
copying_lost : (map : ℕ) (old new : VolumeSeen) → CopyEnds map old new (Err PowerLost) → AreCutWhereDead old → SomeRegionCut new
unfolding volume_in copies_gone
copying_lost map old new (copied, (n, mid, low, done, step), plain) cut =
    let e = step.ends.goes.ends.ended in
    lost_here n mid.volume new step.ends.inside step.ends.count ((done_gone volume_in (CopiesTo map) (copies_gone map) n (record { volume = old; copied = 0 }) mid done).cut cut)
    (power_cut (CopyJob map) (region_at mid.volume n) (region_at new n) step.result e.dead (λ alive. (e.ended alive).phase) (λ alive. (e.ended alive).cause) step.stopped)

-- ---- copies to the plexes of a mask

map_gone : (mask map : ℕ) (stop : Option CellFault) (old new : VolumeSeen) → CopiesMap mask map stop old new → HasGone old new
map_gone mask map stop old new copies = elim (true_or_false (has mask map)) [
  | inl there ↦ let pass = copies.pass there in copying_gone map old new pass.result pass.ends
  | inr away ↦ subst (HasGone old) (sym (copies.none away).1) (gone_same old)
]

fault_by : (place : Place) (map : ℕ) (old new : VolumeSeen) (result : Result ℕ IoFault) → Some (cell.Fault place) ≡ io_stop result → CopyEnds map old new result → FailedIn place old new
fault_by place map old new (Ok n) is ends = cc
fault_by place map old new (Err (Fault other)) is ends = let same : other ≡ place = cc in subst (λ (x : Place). FailedIn x old new) same (copying_fault other map old new ends)
fault_by place map old new (Err PowerLost) is ends = cc
fault_by place map old new (Err Range) is ends = cc

lost_by : (map : ℕ) (old new : VolumeSeen) (result : Result ℕ IoFault) → Some cell.PowerLost ≡ io_stop result → CopyEnds map old new result → AreCutWhereDead old → SomeRegionCut new
lost_by map old new (Ok n) is ends cut = cc
lost_by map old new (Err (Fault other)) is ends cut = cc
lost_by map old new (Err PowerLost) is ends cut = copying_lost map old new ends cut
lost_by map old new (Err Range) is ends cut = cc

pub copies_fault : (place : Place) (mask total : ℕ) (old new : VolumeSeen) → AreMade (CopiesMap mask) total (Some (cell.Fault place)) old new → FailedIn place old new
copies_fault place mask total old new (n, mid, low, done, last) = by (true_or_false (has mask n))
  where
    by : (has mask n ≡ true) ⊎ (has mask n ≡ false) → FailedIn place old new
    by (inl there) =
        let pass = last.pass there in
        let f = fault_by place n mid new pass.result pass.stopped pass.ends in
        record { mid = f.mid; gone = gone_then old mid f.mid (done_gone itself (CopiesMap mask) (map_gone mask) n old mid done) f.gone; last = f.last; region = f.region; inside = f.inside; rose = f.rose }
    by (inr away) = let no = (last.none away).0 in cc

pub copies_lost : (mask total : ℕ) (old new : VolumeSeen) → AreMade (CopiesMap mask) total (Some cell.PowerLost) old new → AreCutWhereDead old → SomeRegionCut new
copies_lost mask total old new (n, mid, low, done, last) cut = by (true_or_false (has mask n))
  where
    by : (has mask n ≡ true) ⊎ (has mask n ≡ false) → SomeRegionCut new
    by (inl there) = let pass = last.pass there in lost_by n mid new pass.result pass.stopped pass.ends ((done_gone itself (CopiesMap mask) (map_gone mask) n old mid done).cut cut)
    by (inr away) = let no = (last.none away).0 in cc

-- ---- its pieces

clipped : (a b : ℕ) → SumRose a b → Rose (min a (2 ^ 64 - 1)) (min b (2 ^ 64 - 1))
clipped a b rose = omega (arith, rose)

later : (a b c : ℕ) → a ≤ b → SumRose b c → SumRose a c
later a b c le rose = omega (arith, le, rose)

module _ {P : Type 0} {ghosts : Ghosts P} (old new : Volume P ghosts) (follows : LogGoes ghosts.seen (log_of old) (log_of new)) where
  abbrev was : VolumeSeen
  was = volume_seen ghosts.seen old

  abbrev now : VolumeSeen
  now = volume_seen ghosts.seen new

  abbrev cells_of : VolumeSeen → List Seen
  cells_of v = all_pieces (region_plexes v.cells)

  kept_cells : (a b : VolumeSeen) → HasGone a b → EachPiece Keeps (cells_of a) (cells_of b)
  kept_cells a b gone = cells_stay a.cells b.cells gone.kept.count gone.kept.plexes

  kept_log : EachPiece Keeps (log_pieces ghosts.seen (log_of old)) (log_pieces ghosts.seen (log_of new))
  kept_log = log_stays (log_of old) (log_of new) follows

  rose_on : (device : ℕ) → SumRose (sum_by (faults_of device) (held_pieces ghosts.seen old)) (sum_by (faults_of device) (held_pieces ghosts.seen new)) → Rose (faults_on device (held_pieces ghosts.seen old)) (faults_on device (held_pieces ghosts.seen new))
  rose_on device rose = clipped _ _ rose

  pub failed_on : (place : Place) → FailedIn place was now → Rose (faults_on (device_of place) (held_pieces ghosts.seen old)) (faults_on (device_of place) (held_pieces ghosts.seen new))
  failed_on (Data map piece device) failed =
      let last = kept_cells failed.mid now failed.last in
      let rose = sum_rose device (cells_of failed.mid) (cells_of now) last
      (cell_rose device failed.mid.cells now.cells failed.region failed.inside failed.last.kept.count failed.last.kept.plexes
      (plex_rose map piece device _ _ (failed.last.kept.plexes failed.region failed.inside) failed.rose)) in
      rose_on device
      (beside_first device (cells_of was) (cells_of now) (log_pieces ghosts.seen (log_of old)) (log_pieces ghosts.seen (log_of new))
      (later _ _ _ (sums_grow device (cells_of was) (cells_of failed.mid) (kept_cells was failed.mid failed.gone)) rose) kept_log)
  failed_on (Log copy device) failed =
      let rose : Rose (was.log.faults copy device) (now.log.faults copy device) = le_rose (was.log.faults copy device) (failed.mid.log.faults copy device) (now.log.faults copy device) (failed.gone.kept.log.faults copy device) failed.rose in
      rose_on device
      (beside_then device (cells_of was) (cells_of now) (log_pieces ghosts.seen (log_of old)) (log_pieces ghosts.seen (log_of new)) (kept_cells was now (gone_then was failed.mid now failed.gone failed.last))
      (log_rose (log_of old) (log_of new) follows copy device rose))

  pub cut_in : SomeRegionCut now → SomeCut (held_pieces ghosts.seen new)
  cut_in some = by some.cut
    where
      by : IsCut (region_at now some.region) → SomeCut (held_pieces ghosts.seen new)
      by (inl piece) = cut_first (cells_of now) (log_pieces ghosts.seen (log_of new)) (cell_cut now.cells some.region some.inside piece)
      by (inr log) = cut_then (cells_of now) (log_pieces ghosts.seen (log_of new)) (log_cut (log_of new) log)

  reason : (result : Result ℕ IoFault) → ComesToRest was now result → RestHasReason ghosts.seen result old new
  reason (Ok marks) rest = tt
  reason (Err (Fault place)) (inl ends) = failed_on place (settling_fault place was now ends)
  reason (Err (Fault place)) (inr lost) = cc
  reason (Err PowerLost) (inl ends) = λ cut. cut_in (settling_lost was now ends cut)
  reason (Err PowerLost) (inr lost) = λ cut. cut_in (clearing_lost lost.1.mid now lost.1.clears ((settling_gone was lost.1.mid (Ok tt) lost.1.settled).cut cut))
  reason (Err Range) (inl ends) = absurd ends.1
  reason (Err Range) (inr lost) = cc

pub rest_reason : {P : Type 0} {ghosts : Ghosts P} (old new : Volume P ghosts) → EachRestHasReason ghosts.seen old new
rest_reason old new result rest follows = reason old new follows result rest

-- why a volume was not copied to
pub copy_reason : {P : Type 0} {ghosts : Ghosts P} (old new : Volume P ghosts) (mask : ℕ) (result : Result ℕ IoFault) → AreCopied mask (volume_seen ghosts.seen old) (volume_seen ghosts.seen new) result → LogGoes ghosts.seen (log_of old) (log_of new) → RestHasReason ghosts.seen result old new
copy_reason old new mask (Ok n) copied follows = tt
copy_reason old new mask (Err (Fault place)) copied follows = failed_on old new follows place (copies_fault place mask copied.maps _ _ copied.made)
copy_reason old new mask (Err PowerLost) copied follows = λ cut. cut_in old new follows (copies_lost mask copied.maps _ _ copied.made cut)
copy_reason old new mask (Err Range) copied follows = absurd copied.plain

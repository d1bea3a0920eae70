-- What the marking of a free map does to a volume of the code.
use Rattle.std.proofs.Common.{◌≡◌, ℕ, ◌-◌, ◌^◌, ◌<◌, min, Bool, List, length, Result, Ok, Err, sym, subst, arith}
use Rattle.vx_base.specs.Counts.{Rose}
use Rattle.vx_base.specs.Named.{Word}
use Rattle.vx_piece.specs.Seen.{Seen}
use Rattle.vx_carve.specs.Together.{faults_on}
use Rattle.vx_marks.specs.declared.marker.MarkFault.{MarkFault}
use Rattle.vx_marks.specs.declared.marker.MarkFault.TheVariants as mark
use Rattle.vx_cell.specs.Changes.{CellSeen}
use Rattle.vx_cell.specs.Plexes.{KeepPlexes}
use Rattle.vx_cell.proofs.Changes.{keep_same}
use Rattle.vx_pages.specs.declared.local_piece.LocalPiece.{Ghosts}
use Rattle.vx_volume.specs.declared.volume.Volume.{Volume}
use Rattle.vx_volume.specs.Changing.{IsFreeIn}
use Rattle.vx_volume.specs.Laws.{AreTold}
use Rattle.vx_volume.specs.Log.{LogGoes}
use Rattle.vx_volume.specs.Volume.{IsVolume, VolumeSeen, cell_at, log_of, volume_seen}
use Rattle.vx_lending.specs.RegionPieces.{all_pieces}
use Rattle.vx_lending.specs.Left.{held_pieces, region_plexes}
use Rattle.vx_lending.specs.Logs.{log_pieces}
use Rattle.vx_moments.specs.Tracks.{TrackOwner, volume_failed}
use Rattle.vx_image.specs.Image.{PlexImage}
use Rattle.vx_moments.specs.World.{Volume as WorldVolume}
use Rattle.vx_volume_laws.specs.Calls.{KeepsPlaces}
use Rattle.vx_volume_laws.specs.Exact.{IsExactVolume, LogIsWell}
use Rattle.vx_volume_laws.specs.RunLaws.{OwnersFit}
use Rattle.vx_volume_laws.specs.Running.{RunsAsVolume}
use Rattle.vx_volume_laws.proofs.Keepings.{keeps_same}
use Rattle.vx_volume_laws.proofs.Lasting.{lies_on}
use Rattle.vx_change_laws.specs.Laws.{EachFailureIsNoted, EachSettingKeepsPlaces, EachSettingRunsOn, EachSettingStaysCut, EachSettingStaysExact, RunsStill}
use Rattle.vx_group_calls.proofs.HeldPieces.{SumRose, cells_stay, cut_then}
use Rattle.vx_group_calls.proofs.Keeping.{HasGone, gone_same}
use Rattle.vx_group_calls.proofs.LogFaults.{beside_then, log_cut, log_rose}
use Rattle.vx_group_calls.proofs.Service.{gone_stays}
use Rattle.vx_group_volumes.specs.Laws.{GoesOn}
use Rattle.vx_group_volumes.specs.RestLaws.{RestHasReason}
use Rattle.vx_stage_mirrors.specs.Marking.{MarksVolume, SetsAll, as_io}
use Rattle.vx_stage_mirrors.specs.declared.marking.Unmarked.{Unmarked}
use Rattle.vx_stage_mirrors.specs.declared.marking.Unmarked.TheVariants as unmarked

-- the laws of maps that are set
pub record SettingLaws : Type 0 where
  pub cut : EachSettingStaysCut
  pub places : EachSettingKeepsPlaces
  pub runs : EachSettingRunsOn
  pub exact : EachSettingStaysExact
  pub noted : EachFailureIsNoted

clipped : (a b : ℕ) → SumRose a b → Rose (min a (2 ^ 64 - 1)) (min b (2 ^ 64 - 1))
clipped a b rose = omega (arith, rose)

module _ (laws : SettingLaws) (map : ℕ) (result : Result (Unit {0}) MarkFault) (old new : VolumeSeen) (s : SetsAll map result old new) where
  set_gone : HasGone old new
  set_gone = record {
    kept = record {
      count = s.sets.cells.size;
      plexes = λ i lt. subst (λ (c : CellSeen). KeepPlexes (cell_at old i).plexes c.plexes) (sym (s.sets.cells.each i lt)) (keep_same (cell_at old i).plexes);
      log = s.sets.kept;
    };
    cut = λ cut i lt.
        let at : i < length old.cells = subst (λ (n : ℕ). i < n) s.sets.cells.size lt in
        laws.cut map s.bits result old new s.sets i at (cut i at);
  }

module _ {P : Type 0} {ghosts : Ghosts P} (laws : SettingLaws) (map : ℕ) (result : Result (Unit {0}) Unmarked) (old new : Volume P ghosts) (marks : MarksVolume ghosts.seen map result old new) (whole : IsVolume (volume_seen ghosts.seen old))
    (free : IsFreeIn map (volume_seen ghosts.seen old)) (follows : LogGoes ghosts.seen (log_of old) (log_of new)) where
  abbrev was : VolumeSeen
  was = volume_seen ghosts.seen old

  abbrev now : VolumeSeen
  now = volume_seen ghosts.seen new

  gone_by : (r : Result (Unit {0}) Unmarked) → MarksVolume ghosts.seen map r old new → HasGone was now
  gone_by (Ok u) s = set_gone laws map (Ok tt) was now s
  gone_by (Err unmarked.OutOfMemory) same = subst (HasGone was) (sym same.seen) (gone_same was)
  gone_by (Err (unmarked.Fault fault)) s = set_gone laws map (Err fault) was now s.1

  pub gone : HasGone was now
  gone = gone_by result marks

  places_by : (r : Result (Unit {0}) Unmarked) → MarksVolume ghosts.seen map r old new → KeepsPlaces was now
  places_by (Ok u) s = laws.places map s.bits (Ok tt) was now s.sets
  places_by (Err unmarked.OutOfMemory) same = subst (KeepsPlaces was) (sym same.seen) (keeps_same was)
  places_by (Err (unmarked.Fault fault)) s = laws.places map s.1.bits (Err fault) was now s.1.sets

  pub goes_on : GoesOn ghosts.seen old new
  goes_on = record {
    together = gone_stays old new follows gone;
    lies = λ numbers form lies. lies_on numbers form old new lies (places_by result marks) follows;
    cut = gone.cut;
  }

  -- it runs on as the volume whose devices have failed too
  pub runs_on : (plexes : List PlexImage) (w : WorldVolume) → RunsAsVolume plexes was w → (owners : Word → TrackOwner) (failed : Word → Bool) → OwnersFit plexes was owners →
      RunsStill plexes plexes was now w (volume_failed owners failed w)
  runs_on plexes w run owners failed fit = by result marks
    where
      by : (r : Result (Unit {0}) Unmarked) → MarksVolume ghosts.seen map r old new → RunsStill plexes plexes was now w (volume_failed owners failed w)
      by (Ok u) s = laws.runs map s.bits (Ok tt) was now s.sets whole free tt plexes w run owners failed fit
      by (Err unmarked.OutOfMemory) same = subst (λ v. RunsStill plexes plexes was v w (volume_failed owners failed w)) (sym same.seen) (laws.noted plexes was w run owners failed)
      by (Err (unmarked.Fault fault)) s = laws.runs map s.1.bits (Err fault) was now s.1.sets whole free s.0 plexes w run owners failed fit

  -- its log stays exact where it is well
  pub exact_on : AreTold was → LogIsWell was now → IsExactVolume was → IsExactVolume now
  exact_on told well exact = by result marks
    where
      by : (r : Result (Unit {0}) Unmarked) → MarksVolume ghosts.seen map r old new → IsExactVolume now
      by (Ok u) s = laws.exact map s.bits (Ok tt) was now s.sets whole free told well exact
      by (Err unmarked.OutOfMemory) same = subst IsExactVolume (sym same.seen) exact
      by (Err (unmarked.Fault fault)) s = laws.exact map s.1.bits (Err fault) was now s.1.sets whole free told well exact

  -- ---- why it was not marked

  abbrev cells_of : VolumeSeen → List Seen
  cells_of v = all_pieces (region_plexes v.cells)

  log_fails : (copy device : ℕ) → Rose (was.log.faults copy device) (now.log.faults copy device) → Rose (faults_on device (held_pieces ghosts.seen old)) (faults_on device (held_pieces ghosts.seen new))
  log_fails copy device rose =
      clipped _ _
      (beside_then device (cells_of was) (cells_of now) (log_pieces ghosts.seen (log_of old)) (log_pieces ghosts.seen (log_of new)) (cells_stay was.cells now.cells gone.kept.count gone.kept.plexes)
      (log_rose (log_of old) (log_of new) follows copy device rose))

  pub fault_reason : (fault : MarkFault) → result ≡ Err (unmarked.Fault fault) → RestHasReason ghosts.seen (Err (as_io fault)) old new
  fault_reason fault is = by fault (subst (λ r. MarksVolume ghosts.seen map r old new) is marks).1
    where
      by : (f : MarkFault) → SetsAll map (Err f) was now → RestHasReason ghosts.seen (Err (as_io f)) old new
      by (mark.Failed copy device) s = log_fails copy device s.sets.cause.rose
      by mark.PowerLost s = λ cut. cut_then (cells_of now) (log_pieces ghosts.seen (log_of new)) (log_cut (log_of new) s.sets.cause)
      by mark.Busy s = absurd (let lent = s.sets.cause.1 in let own = whole.own in cc)

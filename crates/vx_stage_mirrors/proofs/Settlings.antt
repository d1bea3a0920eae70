-- What coming to rest with a firm log does to a volume of the code.
use Rattle.std.proofs.Common.{◌≡◌, ℕ, ◌-◌, ◌^◌, ◌<◌, ◌≤◌, min, Bool, List, length, Result, Ok, Err, sym, ap, subst, inl, inr, arith}
use Rattle.vx_base.specs.Counts.{Rose}
use Rattle.vx_base.specs.Named.{Word}
use Rattle.vx_piece.specs.Seen.{Seen}
use Rattle.vx_carve.specs.Together.{faults_on}
use Rattle.vx_life.specs.Entry.{Entry}
use Rattle.vx_core.specs.declared.stage.Phase.TheVariants.{Settled}
use Rattle.vx_marks.specs.declared.marker.MarkFault.{MarkFault}
use Rattle.vx_marks.specs.declared.marker.MarkFault.TheVariants as mark
use Rattle.vx_cell.specs.Changes.{CellSeen}
use Rattle.vx_cell.specs.Plexes.{KeepPlexes, PlexRose}
use Rattle.vx_cell.proofs.Changes.{keep_same}
use Rattle.vx_pages.specs.declared.local_piece.LocalPiece.{Ghosts}
use Rattle.vx_volume.specs.declared.fault.IoFault.{IoFault}
use Rattle.vx_volume.specs.declared.volume.Volume.{Volume}
use Rattle.vx_volume.specs.Log.{LogGoes}
use Rattle.vx_volume.specs.Switching.{Firms, IsSettled}
use Rattle.vx_volume.specs.Volume.{IsVolume, VolumeSeen, cell_at, log_of, volume_seen}
use Rattle.vx_volume.proofs.PassHistories.{settle_pass}
use Rattle.vx_lending.specs.RegionPieces.{all_pieces}
use Rattle.vx_lending.specs.Left.{held_pieces, region_plexes}
use Rattle.vx_lending.specs.Logs.{log_pieces}
use Rattle.vx_moments.specs.Tracks.{TrackOwner, volume_failed}
use Rattle.vx_moments.specs.World.{Volume as WorldVolume}
use Rattle.vx_image.specs.Image.{PlexImage}
use Rattle.vx_volume_laws.specs.Exact.{IsExactVolume, LogIsWell}
use Rattle.vx_volume_laws.specs.Leaving.{EachSettlingSettles}
use Rattle.vx_volume_laws.specs.RunLaws.{EachSettlingRunsOn, FailuresAreTold, OwnersFit}
use Rattle.vx_volume_laws.specs.Running.{RunsAsVolume, entries_in}
use Rattle.vx_volume_laws.proofs.ExactLogs.{settling_exact}
use Rattle.vx_change_laws.specs.Laws.{RunsStill}
use Rattle.vx_change_laws.specs.Switching.{EachFirmingRunsOn}
use Rattle.vx_change_laws.proofs.Switchings.{firming_cut, firming_exact, firming_places}
use Rattle.vx_group_calls.proofs.HeldPieces.{SumRose, cells_stay, cut_then}
use Rattle.vx_group_calls.proofs.LogFaults.{beside_then, log_cut, log_rose}
use Rattle.vx_group_volumes.specs.Laws.{GoesOn}
use Rattle.vx_group_volumes.specs.RestLaws.{RestHasReason}
use Rattle.vx_group_volumes.proofs.Passes.{Keeps, goes_on, keep_then, settling}
use Rattle.vx_group_volumes.proofs.Reasons.{rest_reason}
use Rattle.vx_group_volumes.proofs.Rests.{settled_volume}
use Rattle.vx_stage_mirrors.specs.Marking.{as_io}
use Rattle.vx_stage_mirrors.specs.Settling.{ComesFirm, IsFirmed}

-- the laws of volumes that are settled, and whose log is made firm
pub record FirmLaws : Type 0 where
  pub settling : EachSettlingRunsOn
  pub firming : EachFirmingRunsOn
  pub settles : EachSettlingSettles

-- ---- a log that is made firm

module _ (result : Result (Unit {0}) MarkFault) (old new : VolumeSeen) (firms : Firms result old new) where
  same_cell : (r : ℕ) → cell_at new r ≡ cell_at old r
  same_cell r = ap (λ (v : VolumeSeen). cell_at v r) firms.same

  inside_old : (r : ℕ) → r < length new.cells → r < length old.cells
  inside_old r lt = subst (λ (v : VolumeSeen). r < length v.cells) firms.same lt

  firm_keeps : Keeps old new
  firm_keeps = record {
    gone = record {
      kept = record {
        count = ap (λ (v : VolumeSeen). length v.cells) firms.same;
        plexes = λ i lt. subst (λ (c : CellSeen). KeepPlexes (cell_at old i).plexes c.plexes) (sym (same_cell i)) (keep_same (cell_at old i).plexes);
        log = firms.kept;
      };
      cut = λ cut i lt. firming_cut result old new firms i (inside_old i lt) (cut i (inside_old i lt));
    };
    places = firming_places result old new firms;
  }

-- ---- both

come_keeps : (old new : VolumeSeen) (result : Result (Unit {0}) IoFault) → ComesFirm old new result → Keeps old new
come_keeps old new (Ok u) (firmed, tight) = keep_then old firmed.mid new (settling old firmed.mid (Ok tt) firmed.settled) (firm_keeps (Ok tt) firmed.mid new firmed.firms)
come_keeps old new (Err fault) (inl ends) = settling old new (Err fault) ends
come_keeps old new (Err fault) (inr (mark, is, firmed)) = keep_then old firmed.mid new (settling old firmed.mid (Ok tt) firmed.settled) (firm_keeps (Err mark) firmed.mid new firmed.firms)

rose_on : (a b c : ℕ) → Rose a b → b ≤ c → Rose a c
rose_on a b c rose le = omega (arith, rose, le)

rose_then : (a b c : ℕ) → a ≤ b → Rose b c → Rose a c
rose_then a b c le rose = omega (arith, rose, le)

module _ (result : Result (Unit {0}) MarkFault) (old new : VolumeSeen) (firmed : IsFirmed result old new) (was : IsVolume old) where
  abbrev mid : VolumeSeen
  mid = firmed.mid

  pub whole_mid : IsVolume mid
  whole_mid = settled_volume old mid firmed.settled was

  -- all regions are settled
  pub all_settled : FirmLaws → IsSettled new
  all_settled laws r lt =
      let firms = firmed.firms in
      subst (λ (c : CellSeen). c.stage.phase ≡ Settled) (sym (same_cell result mid new firms r)) (laws.settles old mid tt firmed.settled r (inside_old result mid new firms r lt))

  well_mid : LogIsWell old new → LogIsWell old mid
  well_mid well (copy, device, rose) = well (copy, device, rose_on _ _ _ rose (firmed.firms.kept.faults copy device))

  module _ (plexes : List PlexImage) (w : WorldVolume) (run : RunsAsVolume plexes old w) where
    abbrev entries : ℕ → List Entry
    entries r = entries_in r w.life.entries

    firmed_exact : LogIsWell old new → IsExactVolume old → IsExactVolume new
    firmed_exact well exact =
        let goes = settle_pass old mid (Ok tt) firmed.settled was run.told run.fixed entries in
        firming_exact result mid new firmed.firms goes.told (settling_exact old mid (Ok tt) firmed.settled was whole_mid plexes w run (well_mid well) exact)

    module _ (laws : FirmLaws) (owners : Word → TrackOwner) (failed : Word → Bool) (fit : OwnersFit plexes old owners) (told : FailuresAreTold plexes owners failed old new) where
      told_mid : FailuresAreTold plexes owners failed old mid
      told_mid p there r inside rose = told p there r inside (subst (λ (c : CellSeen). PlexRose p.map (cell_at old r).plexes c.plexes) (sym (same_cell result mid new firmed.firms r)) rose)

      firmed_runs : RunsStill plexes plexes old new w (volume_failed owners failed w)
      firmed_runs =
          let once = laws.settling old mid (Ok tt) firmed.settled was whole_mid plexes w run owners failed fit told_mid in
          let again = laws.firming result mid new firmed.firms whole_mid plexes (volume_failed owners failed w) once.0 in
          record { runs = again.runs; sure = λ sure. again.sure (once.1 sure) }

-- ---- a volume of the code

clipped : (a b : ℕ) → SumRose a b → Rose (min a (2 ^ 64 - 1)) (min b (2 ^ 64 - 1))
clipped a b rose = omega (arith, rose)

module _ {P : Type 0} {ghosts : Ghosts P} (old new : Volume P ghosts) (result : Result (Unit {0}) IoFault) (comes : ComesFirm (volume_seen ghosts.seen old) (volume_seen ghosts.seen new) result) (follows : LogGoes ghosts.seen (log_of old) (log_of new))
    (was : IsVolume (volume_seen ghosts.seen old)) (is : IsVolume (volume_seen ghosts.seen new)) where
  abbrev before : VolumeSeen
  before = volume_seen ghosts.seen old

  abbrev after : VolumeSeen
  after = volume_seen ghosts.seen new

  keeps : Keeps before after
  keeps = come_keeps before after result comes

  pub come_goes : GoesOn ghosts.seen old new
  come_goes = goes_on old new keeps follows

  -- it runs on as the volume whose devices have failed too
  pub come_runs : FirmLaws → (plexes : List PlexImage) (w : WorldVolume) → RunsAsVolume plexes before w → (owners : Word → TrackOwner) (failed : Word → Bool) → OwnersFit plexes before owners → FailuresAreTold plexes owners failed before after →
      RunsStill plexes plexes before after w (volume_failed owners failed w)
  come_runs laws plexes w run owners failed fit told = by result comes
    where
      by : (x : Result (Unit {0}) IoFault) → ComesFirm before after x → RunsStill plexes plexes before after w (volume_failed owners failed w)
      by (Ok u) (firmed, tight) = firmed_runs (Ok tt) before after firmed was plexes w run laws owners failed fit told
      by (Err fault) (inl ends) = let once = laws.settling before after (Err fault) ends was is plexes w run owners failed fit told in record { runs = once.0; sure = once.1 }
      by (Err fault) (inr (mark, same, firmed)) = firmed_runs (Err mark) before after firmed was plexes w run laws owners failed fit told

  -- its log stays exact where it is well
  pub come_exact : (plexes : List PlexImage) (w : WorldVolume) → RunsAsVolume plexes before w → LogIsWell before after → IsExactVolume before → IsExactVolume after
  come_exact plexes w run well exact = by result comes
    where
      by : (x : Result (Unit {0}) IoFault) → ComesFirm before after x → IsExactVolume after
      by (Ok u) (firmed, tight) = firmed_exact (Ok tt) before after firmed was plexes w run well exact
      by (Err fault) (inl ends) = settling_exact before after (Err fault) ends was is plexes w run well exact
      by (Err fault) (inr (mark, same, firmed)) = firmed_exact (Err mark) before after firmed was plexes w run well exact

  -- ---- why it did not come to rest

  abbrev cells_of : VolumeSeen → List Seen
  cells_of v = all_pieces (region_plexes v.cells)

  log_fails : (copy device : ℕ) → Rose (before.log.faults copy device) (after.log.faults copy device) → Rose (faults_on device (held_pieces ghosts.seen old)) (faults_on device (held_pieces ghosts.seen new))
  log_fails copy device rose =
      clipped _ _
      (beside_then device (cells_of before) (cells_of after) (log_pieces ghosts.seen (log_of old)) (log_pieces ghosts.seen (log_of new)) (cells_stay before.cells after.cells keeps.gone.kept.count keeps.gone.kept.plexes)
      (log_rose (log_of old) (log_of new) follows copy device rose))

  firm_reason : (m : MarkFault) → IsFirmed (Err m) before after → RestHasReason ghosts.seen (Err (as_io m)) old new
  firm_reason (mark.Failed copy device) f =
      let first = (settling before f.mid (Ok tt) f.settled).gone.kept.log.faults copy device in
      log_fails copy device (rose_then _ _ _ first f.firms.cause.rose)
  firm_reason mark.PowerLost f = λ cut. cut_then (cells_of after) (log_pieces ghosts.seen (log_of new)) (log_cut (log_of new) f.firms.cause)
  firm_reason mark.Busy f = absurd (let lent = f.firms.cause.1 in let own = (whole_mid (Err mark.Busy) before after f was).own in cc)

  pub come_reason : (fault : IoFault) → result ≡ Err fault → RestHasReason ghosts.seen (Err fault) old new
  come_reason fault same = by fault (subst (ComesFirm before after) same comes)
    where
      by : (f : IoFault) → ComesFirm before after (Err f) → RestHasReason ghosts.seen (Err f) old new
      by f (inl ends) = rest_reason old new (Err f) (inl ends) follows
      by f (inr (mark, is_mark, firmed)) = subst (λ (x : IoFault). RestHasReason ghosts.seen (Err x) old new) (sym is_mark) (firm_reason mark firmed)

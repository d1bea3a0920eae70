-- A volume that is healed, or not to the end, runs on as the volume of the world whose devices have failed too.
use Rattle.std.proofs.Common.{◌≡◌, ◌⊎◌, inl, inr, ℕ, ◌<◌, Bool, List, Result, Ok, Err, sym, subst}
use Rattle.vx_base.specs.Named.{Word}
use Rattle.vx_cell.proofs.Changes.{rose_now, rose_still}
use Rattle.vx_image.specs.Image.{PlexImage}
use Rattle.vx_moments.specs.World.{Volume}
use Rattle.vx_moments.specs.Tracks.{TrackOwner, volume_failed}
use Rattle.vx_volume.specs.declared.fault.IoFault.{IoFault}
use Rattle.vx_volume.specs.Calls.{io_stop}
use Rattle.vx_volume.specs.Passes.{Clears, PassEnds, Settles}
use Rattle.vx_volume.specs.Volume.{IsVolume, VolumeSeen, cell_at}
use Rattle.vx_volume_laws.specs.RunLaws.{EachClearingRunsOn, EachCopyRunsOn, EachSettlingRunsOn, FailuresAreTold, OwnersFit}
use Rattle.vx_volume_laws.specs.Running.{IsSureOfOthers, RunsAsVolume}
use Rattle.vx_group_start.specs.Copying.{AreCopied}
use Rattle.vx_group_volumes.proofs.CopiesRun.{RunsAfter, copied_volume, copies_run_on}
use Rattle.vx_group_volumes.proofs.Passes.{Keeps, clearing, copies_made, keep_same, keep_then, settling}
use Rattle.vx_group_volumes.proofs.Rests.{failed_twice, same_map, settled_volume}
use Rattle.vx_group_recover.specs.Healing.{Heals}
use Rattle.vx_group_recover.specs.declared.healing.Healed.{Healed}
use Rattle.vx_healed_volumes.specs.Laws.{EachHealingRunsOn}

-- ---- what its passes keep

pub copying : {T : Type 0} (mask : ℕ) (old new : VolumeSeen) (result : Result T IoFault) → AreCopied mask old new result → Keeps old new
copying mask old new result copied = copies_made mask copied.maps (io_stop result) old new copied.made

pub healing_keeps : (old new : VolumeSeen) (result : Result Healed IoFault) → Heals old new result → Keeps old new
healing_keeps old new (Ok healed) is =
    keep_then old is.mid new (settling old is.mid (Ok tt) is.settled.settled)
    (keep_then is.mid is.whole new (copying is.mask is.mid is.whole (Ok healed.copied) is.copied) (clearing is.whole new (Ok tt) is.cleared))
healing_keeps old new (Err fault) (inl ends) = settling old new (Err fault) ends
healing_keeps old new (Err fault) (inr (inl is)) = keep_then old is.mid new (settling old is.mid (Ok tt) is.settled.settled) (copying {T = ℕ} is.mask is.mid new (Err fault) is.copied)
healing_keeps old new (Err fault) (inr (inr is)) =
    keep_then old is.mid new (settling old is.mid (Ok tt) is.settled.settled)
    (keep_then is.mid is.whole new (copying is.mask is.mid is.whole (Ok is.number) is.copied) (clearing is.whole new (Err fault) is.cleared))

-- ---- it runs on

module _ (settles : EachSettlingRunsOn) (copies : EachCopyRunsOn) (clears : EachClearingRunsOn) (old new : VolumeSeen) (was : IsVolume old) (plexes : List PlexImage) (w : Volume) (run : RunsAsVolume plexes old w)
    (owners : Word → TrackOwner) (failed : Word → Bool) (fit : OwnersFit plexes old owners) (told : FailuresAreTold plexes owners failed old new) where
  abbrev later : Volume
  later = volume_failed owners failed w

  -- so far is the volume, and so it goes on to its end
  record IsAt (mid : VolumeSeen) : Type 0 where
    volume : IsVolume mid
    first : Keeps old mid
    runs : RunsAfter plexes old w mid later

  fit_at : (mid : VolumeSeen) → Keeps old mid → OwnersFit plexes mid owners
  fit_at mid first p there r inside =
      let inside_old = subst (λ (n : ℕ). r < n) first.gone.kept.count inside in
      same_map (cell_at old r).stage (cell_at mid r).stage (first.places.masks r inside_old) p.map (owners p.name) (fit p there r inside_old)

  told_between : (mid next : VolumeSeen) → Keeps old mid → Keeps mid next → Keeps next new → FailuresAreTold plexes owners failed mid next
  told_between mid next first step rest p there r inside rose =
      let inside_old = subst (λ (n : ℕ). r < n) first.gone.kept.count inside in
      let inside_next = subst (λ (n : ℕ). r < n) (sym step.gone.kept.count) inside in
      told p there r inside_old
      (rose_still p.map (cell_at old r).plexes (cell_at next r).plexes (cell_at new r).plexes
      (rose_now p.map (cell_at old r).plexes (cell_at mid r).plexes (cell_at next r).plexes (first.gone.kept.plexes r inside_old) rose)
      (rest.gone.kept.plexes r inside_next))

  -- devices that failed before are told once more
  again : (mid next : VolumeSeen) → RunsAfter plexes old w mid later → RunsAfter plexes mid later next (volume_failed owners failed later) → RunsAfter plexes old w next later
  again mid next runs then =
      (subst (RunsAsVolume plexes next) (failed_twice owners failed w) then.0, λ sure. subst (IsSureOfOthers plexes next) (failed_twice owners failed w) (then.1 (runs.1 sure)))

  settled_at : (mid : VolumeSeen) → PassEnds Settles old mid (Ok tt) → Keeps mid new → IsAt mid
  settled_at mid ends rest =
      let step = settling old mid (Ok tt) ends in
      let whole = settled_volume old mid ends was in
      record { volume = whole; first = step; runs = settles old mid (Ok tt) ends was whole plexes w run owners failed fit (told_between old mid (keep_same old) step rest) }

  copied_runs : (mask : ℕ) (mid next : VolumeSeen) (result : Result ℕ IoFault) → AreCopied mask mid next result → IsAt mid → Keeps next new → RunsAfter plexes old w next later
  copied_runs mask mid next result copied at rest =
      by (copies_run_on copies mask mid next at.volume plexes later at.runs.0 owners failed (fit_at mid at.first) (told_between mid next at.first (copying mask mid next result copied) rest) result copied)
    where
      by : (next ≡ mid) ⊎ RunsAfter plexes mid later next (volume_failed owners failed later) → RunsAfter plexes old w next later
      by (inl same) = subst (λ (v : VolumeSeen). RunsAfter plexes old w v later) (sym same) at.runs
      by (inr then) = again mid next at.runs then

  copied_at : (mask n : ℕ) (mid next : VolumeSeen) → AreCopied mask mid next (Ok n) → IsAt mid → Keeps next new → IsAt next
  copied_at mask n mid next copied at rest = record {
    volume = copied_volume mask n mid next copied at.volume;
    first = keep_then old mid next at.first (copying mask mid next (Ok n) copied);
    runs = copied_runs mask mid next (Ok n) copied at rest;
  }

  cleared_runs : (mid : VolumeSeen) (result : Result (Unit {0}) IoFault) → PassEnds Clears mid new result → IsAt mid → IsVolume new → RunsAfter plexes old w new later
  cleared_runs mid result ends at is =
      again mid new at.runs
      (clears mid new result ends at.volume is plexes later at.runs.0 owners failed (fit_at mid at.first) (told_between mid new at.first (clearing mid new result ends) (keep_same new)))

  all_runs : (mid whole : VolumeSeen) (mask n : ℕ) (result : Result (Unit {0}) IoFault) → PassEnds Settles old mid (Ok tt) → AreCopied mask mid whole (Ok n) → PassEnds Clears whole new result → IsVolume new → RunsAfter plexes old w new later
  all_runs mid whole mask n result settled copied cleared is =
      let last = clearing whole new result cleared in
      let at = settled_at mid settled (keep_then mid whole new (copying mask mid whole (Ok n) copied) last) in
      cleared_runs whole result cleared (copied_at mask n mid whole copied at last) is

  heals_on : (result : Result Healed IoFault) → Heals old new result → IsVolume new → RunsAfter plexes old w new later
  heals_on (Ok healed) h is = all_runs h.mid h.whole h.mask healed.copied (Ok tt) h.settled.settled h.copied h.cleared is
  heals_on (Err fault) (inl ends) is = settles old new (Err fault) ends was is plexes w run owners failed fit told
  heals_on (Err fault) (inr (inl h)) is =
      copied_runs h.mask h.mid new (Err fault) h.copied (settled_at h.mid h.settled.settled (copying {T = ℕ} h.mask h.mid new (Err fault) h.copied)) (keep_same new)
  heals_on (Err fault) (inr (inr h)) is = all_runs h.mid h.whole h.mask h.number (Err fault) h.settled.settled h.copied h.cleared is

pub healing_runs_on : EachSettlingRunsOn → EachCopyRunsOn → EachClearingRunsOn → EachHealingRunsOn
healing_runs_on settles copies clears old new result heals was is plexes w run owners failed fit told = heals_on settles copies clears old new was plexes w run owners failed fit told result heals is

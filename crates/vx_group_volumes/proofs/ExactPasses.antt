-- The log of a volume stays exact through copies to its plexes, and through what brings it to rest.
use Rattle.std.proofs.Common.{inl, inr, ℕ, zero, suc, List, Option, Some, None, Result, Ok, Err, sym, subst}
use Rattle.vx_life.specs.Entry.{Entry}
use Rattle.vx_mask.specs.Mask.{has}
use Rattle.vx_mask.proofs.Tests.{true_or_false}
use Rattle.vx_cell.specs.declared.fault.CellFault.{CellFault}
use Rattle.vx_core.specs.Region.{Fixed}
use Rattle.vx_volume.specs.declared.fault.IoFault.{IoFault}
use Rattle.vx_volume.specs.declared.fault.IoFault.TheVariants.{PowerLost}
use Rattle.vx_volume.specs.Calls.{io_stop}
use Rattle.vx_volume.specs.Laws.{AreTold, RegionsGoOn}
use Rattle.vx_volume.specs.Loop.{AreDone, AreMade}
use Rattle.vx_volume.specs.Passes.{Clears, PassEnds, Settles}
use Rattle.vx_volume.specs.Volume.{IsVolume, VolumeSeen}
use Rattle.vx_volume.proofs.PassHistories.{clear_pass, copy_pass, settle_pass}
use Rattle.vx_volume.proofs.Volumes.{going_same, going_then}
use Rattle.vx_volume_laws.specs.Running.{entries_in}
use Rattle.vx_volume_laws.proofs.ExactLogs.{run_exact}
use Rattle.vx_group_start.specs.Copying.{CopiesMap}
use Rattle.vx_group_stop.specs.Stops.{ComesToRest}
use Rattle.vx_group_volumes.specs.ExactLaws.{EachCopyingStaysExact, EachRestStaysExact}
use Rattle.vx_group_volumes.proofs.CopiesRun.{pass_volume}
use Rattle.vx_group_volumes.proofs.Rests.{settled_volume}

-- ---- passes go on with the histories that regions had

module _ (old : VolumeSeen) (was : IsVolume old) (told : AreTold old) (fixed : ℕ → Fixed) (entries : ℕ → List Entry) where
  -- so far is the volume
  record IsAt (mid : VolumeSeen) : Type 0 where
    volume : IsVolume mid
    goes : RegionsGoOn old mid fixed entries entries

  then : (mid new : VolumeSeen) → IsAt mid → RegionsGoOn mid new fixed entries entries → RegionsGoOn old new fixed entries entries
  then mid new at goes = going_then old mid new fixed entries entries entries at.goes goes

  one_map : (mask map : ℕ) (stop : Option CellFault) (mid new : VolumeSeen) → CopiesMap mask map stop mid new → IsAt mid → IsAt new
  one_map mask map stop mid new copies at = elim (true_or_false (has mask map)) [
    | inl there ↦
        let pass = copies.pass there in
        record { volume = pass_volume map mid new pass.result pass.ends at.volume; goes = then mid new at (copy_pass map mid new pass.result pass.ends at.volume at.goes.told fixed entries) }
    | inr away ↦ subst IsAt (sym (copies.none away).1) at
  ]

  maps_done : (mask n : ℕ) (mid : VolumeSeen) → AreDone (CopiesMap mask) n old mid → IsAt mid
  maps_done mask zero mid same = subst IsAt (sym same) (record { volume = was; goes = going_same old fixed entries told })
  maps_done mask (suc n) mid (before, done, last) = one_map mask n None before mid last (maps_done mask n before done)

  maps_made : (mask total : ℕ) (stop : Option CellFault) (new : VolumeSeen) → AreMade (CopiesMap mask) total stop old new → IsAt new
  maps_made mask total None new done = maps_done mask total new done
  maps_made mask total (Some fault) new (n, mid, low, done, last) = one_map mask n (Some fault) mid new last (maps_done mask n mid done)

  both_go : (mid new : VolumeSeen) (cleared : Result (Unit {0}) IoFault) → PassEnds Settles old mid (Ok tt) → PassEnds Clears mid new cleared → RegionsGoOn old new fixed entries entries
  both_go mid new cleared settled clears =
      let first = settle_pass old mid (Ok tt) settled was told fixed entries in
      let whole = settled_volume old mid settled was in
      then mid new (record { volume = whole; goes = first }) (clear_pass mid new cleared clears whole first.told fixed entries)

  rest_goes : (new : VolumeSeen) (result : Result ℕ IoFault) → ComesToRest old new result → RegionsGoOn old new fixed entries entries
  rest_goes new (Ok marks) rest = both_go rest.mid new rest.cleared rest.settled rest.clears
  rest_goes new (Err fault) (inl ends) = settle_pass old new (Err fault) ends was told fixed entries
  rest_goes new (Err fault) (inr lost) = both_go lost.1.mid new (Err PowerLost) lost.1.settled lost.1.clears

-- ---- so the log stays exact

pub copying_exact : EachCopyingStaysExact
copying_exact mask old new result copied was is plexes w run =
    let entries : ℕ → List Entry = λ r. entries_in r w.life.entries in
    run_exact plexes old new was is w run entries (maps_made old was run.told run.fixed entries mask copied.maps (io_stop result) new copied.made).goes

pub rest_exact : EachRestStaysExact
rest_exact old new result rests was is plexes w run =
    let entries : ℕ → List Entry = λ r. entries_in r w.life.entries in
    run_exact plexes old new was is w run entries (rest_goes old was run.told run.fixed entries new result rests)

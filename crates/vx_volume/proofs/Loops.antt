-- Calls that are made one after the other.
use Rattle.std.proofs.Common.{◌≡◌, ℕ, ◌+◌, ◌<◌, ◌≤◌, Bool, true, false, Option, Some, None, Result, Ok, Err, refl, sym, subst, ap, add-one, ◌∙◌, arith}
use Rattle.std.specs.Prelude.{if◌then◌else◌}
use mir.Val.{bool_byte}
use Rattle.vx_cell.specs.declared.fault.CellFault.{CellFault}
use Rattle.vx_cell.specs.declared.fault.CellFault.TheVariants.{Fault, PowerLost, Held, Only}
use Rattle.vx_volume.specs.Calls.{ChangesRegion, IsNoRange, io_fault_of, io_result_of, io_stop}
use Rattle.vx_volume.specs.Loop.{AreDone, AreMade, IsPlainEnd, stop_of}
use Rattle.vx_volume.specs.Passes.{CopiesTo, IsCopiedAt, counted}
use Rattle.vx_volume.specs.Volume.{VolumeSeen}

module _ {S : Type 0} (Call : ℕ → Option CellFault → S → S → Type 0) where
  -- one more is done
  pub done_more : (n : ℕ) (old mid new : S) → AreDone Call n old mid → Call n None mid new → AreDone Call (n + 1) old new
  done_more n old mid new done call = subst (λ m. AreDone Call m old new) (sym (add-one n)) (mid, done, call)

  -- all are done
  pub made_all : (total n : ℕ) (old new : S) → n ≡ total → AreDone Call n old new → AreDone Call total old new
  made_all total n old new all done = subst (λ m. AreDone Call m old new) all done

  -- one is stopped, and those before it are done
  pub made_stopped : (total n : ℕ) (old mid new : S) (fault : CellFault) (result : Result (Unit {0}) CellFault) → result ≡ Err fault → n < total → AreDone Call n old mid → Call n (Some fault) mid new → AreMade Call total (stop_of result) old new
  made_stopped total n old mid new fault result is inside done call = subst (λ (r : Result (Unit {0}) CellFault). AreMade Call total (stop_of r) old new) (sym is) (n, mid, inside, done, call)

-- what stopped a call that was not held is told as it is
pub stop_told : {T : Type 0} (result : Result T CellFault) → IsPlainEnd result → io_stop (io_result_of result) ≡ stop_of result
stop_told (Ok value) plain = refl
stop_told (Err (Fault place)) plain = refl
stop_told (Err PowerLost) plain = refl
stop_told (Err Held) plain = absurd plain
stop_told (Err (Only map)) plain = absurd plain

pub no_range : {T : Type 0} (result : Result T CellFault) → IsNoRange (io_result_of result)
no_range (Ok value) = tt
no_range (Err (Fault place)) = tt
no_range (Err PowerLost) = tt
no_range (Err Held) = tt
no_range (Err (Only map)) = tt

pub fault_told : (fault : CellFault) → IsPlainEnd {T = ℕ} (Err fault) → io_stop {T = ℕ} (Err (io_fault_of fault)) ≡ Some fault
fault_told (Fault place) plain = refl
fault_told PowerLost plain = refl
fault_told Held plain = absurd plain
fault_told (Only map) plain = absurd plain

-- the regions were copied up to this one, which was not
pub copies_stopped : (map total region copied : ℕ) (old mid new : VolumeSeen) (fault : CellFault) (result : Result Bool CellFault) → region < total → AreDone (CopiesTo map) region (record { volume = old; copied = 0 }) (record { volume = mid; copied = copied }) → result ≡ Err fault → IsPlainEnd {T = ℕ} (Err fault) → ChangesRegion region (IsCopiedAt map result) mid new
    → AreMade (CopiesTo map) total (io_stop {T = ℕ} (Err (io_fault_of fault))) (record { volume = old; copied = 0 }) (record { volume = new; copied = copied })
copies_stopped map total region copied old mid new fault result inside done is plain changes =
    rw (fault_told fault plain) (
      region,
      record { volume = mid; copied = copied },
      inside,
      done,
      record { result = result; stopped = ap stop_of (sym is); ends = changes; copied = ap (λ (r : Result Bool CellFault). counted r copied) (sym is) },
    )

count_more : (done : Bool) (copied : ℕ) → copied + bool_byte done ≡ (if done then copied + 1 else copied)
count_more true copied = refl
count_more false copied = omega arith

-- one region more was copied, or had nothing to copy
pub copied_one : (map region copied : ℕ) (mid new : VolumeSeen) (result : Result Bool CellFault) (done : Bool) (more : ℕ) → result ≡ Ok done → more ≡ bool_byte done → ChangesRegion region (IsCopiedAt map result) mid new
    → CopiesTo map region None (record { volume = mid; copied = copied }) (record { volume = new; copied = copied + more })
copied_one map region copied mid new result done more is count changes =
    record {
      result = result;
      stopped = ap stop_of (sym is);
      ends = changes;
      copied = ap (λ n. copied + n) count ∙ count_more done copied ∙ ap (λ (r : Result Bool CellFault). counted r copied) (sym is);
    }

pub at_most_one : (done : Bool) → bool_byte done ≤ 1
at_most_one true = omega arith
at_most_one false = omega arith

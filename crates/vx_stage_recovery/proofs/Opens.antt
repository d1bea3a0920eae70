-- The volume of a recovery is opened out of the pieces of its group, or not.
use Rattle.std.proofs.Common.{◌≡◌, ℕ, ap, is_err, false, Bool, Some, None, Result, Ok, Err, refl, subst, inl, inr}
use Rattle.std.specs.Prelude.{IfErr, IfOk, OnOk, is_some}
use Rattle.vx_base.specs.declared.memory.OutOfMemory.{OutOfMemory}
use Rattle.vx_pages.specs.declared.local_piece.LocalPiece.{Ghosts}
use Rattle.vx_piece.specs.Seen.{Seen}
use Rattle.vx_config_parts.specs.declared.vol.Vol.{Vol}
use Rattle.vx_house.specs.View.{IsGroupKept}
use Rattle.vx_house.specs.declared.house.Imported.{Imported}
use Rattle.vx_house.specs.declared.stop.Stop.{Stop}
use Rattle.vx_house.specs.declared.stop.Stop.TheVariants as stops
use Rattle.vx_lending.specs.declared.public.Running.{Running}
use Rattle.vx_stage_volumes.specs.Early.{IsRefusedEarly, refusal_here}
use Rattle.vx_stage_volumes.specs.Opening.{IsUnopenedIn, OpensIn, good_of}
use Rattle.vx_stage_volumes.specs.Parting.{IsReadyToOpen, PartsGroup}
use Rattle.vx_stage_volumes.proofs.PartedGroup.{parts_self}
use Rattle.vx_stage_volumes.proofs.StartEnds.{was_done}
use Rattle.vx_stage_recovery.specs.Opening.{IsOpenedOut, IsReadyFor, IsUnopenedOut}

module _ {P : Type 0} {ghosts : Ghosts P} (see : P → Seen) (v : Vol) (g : Imported P ghosts) (good : ℕ) (good_is : good ≡ good_of see g) where
  -- a test refuses it at once
  pub refused_out : ((p q : P) → is_some (see p).told ≡ is_some (see q).told) → IsGroupKept see g → (stop : Stop) → IsRefusedEarly g.config good v stop → IsUnopenedOut see v g g stop
  refused_out alike kept stops.OutOfMemory is = inr (inl (refl, parts_self see alike g kept))
  refused_out alike kept (stops.Ended end) (r, is, end_is) = inl (record { refusal = r; refused = subst (λ n. refusal_here g.config n v ≡ Some r) good_is is; stop_is = ap stops.Ended end_is; same = refl })

  -- nothing does, and the group is ready
  module _ (result : Result (Unit {0}) Stop) (passes : OnOk result (refusal_here g.config good v ≡ None)) (passed : result ≡ Ok tt) (mid : Imported P ghosts) (parts : PartsGroup see g mid)
      (prepared : Result (Unit {0}) OutOfMemory) (ready : OnOk prepared (IsReadyToOpen see mid)) (refused : Bool) (is : refused ≡ is_err prepared) (no_error : refused ≡ false) where
    pub is_ready : IsReadyFor see v g mid
    is_ready = record {
      early = subst (λ n. refusal_here g.config n v ≡ None) good_is (subst (λ r. OnOk r (refusal_here g.config good v ≡ None)) passed passes);
      parts = parts;
      ready = was_done (IsReadyToOpen see mid) prepared refused ready is no_error;
    }

    pub opened_out : (new : Imported P ghosts) (opened : Result (Running P ghosts) Stop) → IfOk opened (OpensIn see v mid new) → IfOk opened (IsOpenedOut see v g new)
    opened_out new (Ok running) opens = record { mid = mid; ready = is_ready; opens = opens }
    opened_out new (Err stop) opens = tt

    pub left_out : (new : Imported P ghosts) (opened : Result (Running P ghosts) Stop) → IfErr opened (IsUnopenedIn see v mid new) → IfErr opened (IsUnopenedOut see v g new)
    left_out new (Ok running) unopened = tt
    left_out new (Err stop) unopened = inr (inr (record { mid = mid; ready = is_ready; unopened = unopened }))

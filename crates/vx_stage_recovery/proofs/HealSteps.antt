-- How a volume that is opened, healed and recorded ends, on its group, by its steps.
use Rattle.std.proofs.Common.{inl, inr, refl, Result, Ok, Err, sym, subst}
use Rattle.vx_pages.specs.declared.local_piece.LocalPiece.{Ghosts}
use Rattle.vx_base.specs.Named.{Word}
use Rattle.vx_piece.specs.Seen.{Seen}
use Rattle.vx_config_parts.specs.declared.vol.Vol.{Vol}
use Rattle.vx_lending.specs.declared.public.Running.{Running}
use Rattle.vx_group_recover.specs.declared.healing.Healed.{Healed}
use Rattle.vx_house.specs.declared.house.Imported.{Imported}
use Rattle.vx_house.specs.declared.stop.Stop.{Stop}
use Rattle.vx_stage_volumes.proofs.Named.{found_name}
use Rattle.vx_stage_recovery.specs.Ending.{EndEnds, FinishEnds, IsEndedIn, OpenEnds}
use Rattle.vx_stage_recovery.specs.Healing.{HealsTo}
use Rattle.vx_stage_recovery.specs.Opening.{IsBegunIn, IsOpenedOut, IsUnopenedOut}

-- a volume that was healed and recorded, or put back
pub ended_so : {P : Type 0} {ghosts : Ghosts P} (see : P → Seen) (name : Word) (v : Vol) (running after : Running P ghosts) (done : Healed) → HealsTo see running after (Ok done) → (result : Result Healed Stop) (old new : Imported P ghosts) →
    EndEnds see name v after done result old new → OpenEnds see name v running result old new
ended_so see name v running after done heals (Ok told) old new (same, is) = subst (λ (d : Healed). IsEndedIn see name v running d (Ok tt) old new) (sym same) (record { after = after; heals = heals; recorded = is })
ended_so see name v running after done heals (Err stop) old new (inl (wants, back)) = inr (done, inl (wants, record { after = after; result = Ok done; heals = heals; back = back; told_is = refl }))
ended_so see name v running after done heals (Err stop) old new (inr is) = inr (done, inr (record { after = after; heals = heals; recorded = is }))

module _ {P : Type 0} {ghosts : Ghosts P} (see : P → Seen) (name : Word) (g : Imported P ghosts) (v : Vol) (begun : IsBegunIn name g v) where
  -- it is so by its own name
  pub begun_named : IsBegunIn v.name g v
  begun_named = subst (λ (n : Word). IsBegunIn n g v) (sym (found_name g.config name v begun.found)) begun

  -- it was not opened
  pub unopened_so : {new : Imported P ghosts} {stop : Stop} → IsUnopenedOut see v g new stop → FinishEnds see name (Err stop) g new
  unopened_so is = inl (inr (inl (record { volume = v; begun = begun; unopened = is })))

  -- it was opened, and all that is open ends so
  pub opened_so : (opened new : Imported P ghosts) (running : Running P ghosts) (result : Result Healed Stop) → IsOpenedOut see v g opened running → OpenEnds see name v running result opened new → FinishEnds see name result g new
  opened_so opened new running (Ok done) opens is = record { volume = v; begun = begun; opened = _; running = _; opens = opens; ends = is }
  opened_so opened new running (Err stop) opens (inl is) = inl (inr (inr (record { volume = v; begun = begun; opened = _; running = _; opens = opens; healed = is })))
  opened_so opened new running (Err stop) opens (inr (done, inl (wants, is))) = inr (done, inl (wants, record { volume = v; begun = begun; opened = _; running = _; opens = opens; healed = is }))
  opened_so opened new running (Err stop) opens (inr (done, inr is)) = inr (done, inr (record { volume = v; begun = begun; opened = _; running = _; opens = opens; ends = is }))

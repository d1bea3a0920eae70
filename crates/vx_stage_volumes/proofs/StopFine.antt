-- No test refuses what a stop records, once the longest text that it may have is short enough.
use Rattle.std.proofs.Common.{◌≡◌, ◌∙◌, ℕ, ◌<◌, ◌≤◌, ◌^◌, length, Some, None, Result, Ok, Err, sym, ap, subst, inl, inr, arith}
use Rattle.vx_pages.specs.declared.local_piece.LocalPiece.{Ghosts}
use Rattle.vx_piece.specs.Seen.{Seen}
use Rattle.vx_config_parts.specs.declared.vol.Vol.{Vol}
use Rattle.vx_objects.specs.declared.config.Config.{Config}
use Rattle.vx_objects.specs.Applied.{IsEdited}
use Rattle.vx_answers.specs.declared.answer.End.{End}
use Rattle.vx_answers.specs.declared.answer.End.TheVariants as ends
use Rattle.vx_answers.specs.declared.refusal.Refusal.{Refusal}
use Rattle.vx_state_edits.specs.Edits.{stop_edits}
use Rattle.vx_state_edits.specs.Laws.{EachStopIsFine, IsRecorded}
use Rattle.vx_state_texts.specs.Texts.{EachMaskIsWithinAll, EachStopIsNoLonger, all_maps}
use Rattle.vx_stages.specs.Ends.{RefusedAsLong}
use Rattle.vx_stages.specs.Refusals.{refusal_from}
use Rattle.vx_house.specs.declared.house.Imported.{Imported}
use Rattle.vx_house.specs.declared.stop.Stop.{Stop}
use Rattle.vx_house.specs.declared.stop.Stop.TheVariants as stops
use Rattle.vx_stage_changes.specs.Changing.{ChangeEnds}
use Rattle.vx_stage_changes.specs.Planning.{IsBroken, IsPlanned, IsUnplanned}
use Rattle.vx_stage_changes.specs.declared.planning.NextConfig.{NextConfig}
use Rattle.vx_stage_volumes.specs.Stopping.{Fits, IsStopTooLong, RecordEnds}

module _ (fine : EachStopIsFine) (c : Config) (v : Vol) (here : IsRecorded c v) where
  -- no rule refuses it
  never_broken : (marks : ℕ) (end : End) → IsBroken (stop_edits c v marks) c end → ⊥
  never_broken marks end (r, is, same) = no r (sym (ap refusal_from (fine c v marks here)) ∙ is)
    where
      no : (r : Refusal) → None ≡ Some r → ⊥
      no r e = cc

  pub planned_fits : (p : NextConfig) → IsPlanned (stop_edits c v all_maps) c p → Fits (stop_edits c v all_maps) c
  planned_fits p (edited, printed) = (p.config, p.text.items, record { edited = edited; printed = printed })

  pub unplanned_long : (stop : Stop) → IsUnplanned (stop_edits c v all_maps) c stop → IsStopTooLong v c stop
  unplanned_long stops.OutOfMemory is = tt
  unplanned_long (stops.Ended end) (inl broken) = absurd (never_broken all_maps end broken)
  unplanned_long (stops.Ended end) (inr long) = long

  module _ (longest : EachStopIsNoLonger) (within : EachMaskIsWithinAll) (marks : ℕ) (few : marks < 2 ^ 64) (fits : Fits (stop_edits c v all_maps) c) where
    never_long : (end : End) (next : Config) → IsEdited (stop_edits c v marks) c next → RefusedAsLong next end → ⊥
    never_long end next edited (text, printed, long, same) =
        let short : length fits.1 ≤ 522240 = fits.2.printed.1 in
        let less = longest c v marks all_maps here (within marks few) next fits.0 edited fits.2.edited text fits.1 printed fits.2.printed.0 in
        omega (arith, short, less, long)

    never_unplanned : (end : End) → IsUnplanned (stop_edits c v marks) c (stops.Ended end) → ⊥
    never_unplanned end (inl broken) = never_broken marks end broken
    never_unplanned end (inr long) = never_long end long.0 long.1 long.2

    -- so the commit is not refused
    pub record_ends : {P : Type 0} {ghosts : Ghosts P} (see : P → Seen) (old new : Imported P ghosts) → old.config ≡ c → (result : Result (Unit {0}) Stop) → ChangeEnds see (stop_edits c v marks) result old new → RecordEnds see (stop_edits c v marks) result old new
    record_ends see old new same (Ok u) is = is
    record_ends see old new same (Err stops.OutOfMemory) is = is
    record_ends see old new same (Err (stops.Ended ends.GroupLost)) is = is
    record_ends see old new same (Err (stops.Ended (ends.Lost parts))) is = is
    record_ends see old new same (Err (stops.Ended (ends.Done copied parts blocks))) is = never_unplanned (ends.Done copied parts blocks) (subst (λ k. IsUnplanned (stop_edits c v marks) k (stops.Ended (ends.Done copied parts blocks))) same is.1)
    record_ends see old new same (Err (stops.Ended (ends.Refused r))) is = never_unplanned (ends.Refused r) (subst (λ k. IsUnplanned (stop_edits c v marks) k (stops.Ended (ends.Refused r))) same is.1)
    record_ends see old new same (Err (stops.Ended (ends.Fault told device parts))) is = never_unplanned (ends.Fault told device parts) (subst (λ k. IsUnplanned (stop_edits c v marks) k (stops.Ended (ends.Fault told device parts))) same is.1)
    record_ends see old new same (Err (stops.Ended ends.ShelfFailed)) is = never_unplanned ends.ShelfFailed (subst (λ k. IsUnplanned (stop_edits c v marks) k (stops.Ended ends.ShelfFailed)) same is.1)

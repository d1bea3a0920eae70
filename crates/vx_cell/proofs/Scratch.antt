-- What the scratch holds while plexes are rewritten.
use Rattle.std.proofs.Common.{◌≡◌, ◌≢◌, ℕ, ◌+◌, ◌<◌, Bool, refl, sym, ◌∙◌, ap, subst, arith, List, Some, Result, Ok, Err}
use Rattle.vx_base.specs.Blocks.{Contents, block_at, blocks_in}
use Rattle.vx_mask.specs.Mask.{has}
use Rattle.vx_core.specs.declared.stage.Job.{Job}
use Rattle.vx_core.specs.declared.stage.Event.{Event}
use Rattle.vx_core.specs.declared.stage.Step.{Step}
use Rattle.vx_core.specs.declared.stage.Stage.{Stage}
use Rattle.vx_core.specs.declared.stage.Job.TheVariants.{Read as ReadJob, Write as WriteJob, Copy as CopyJob, Settle, Clear}
use Rattle.vx_core.specs.declared.stage.Event.TheVariants.{Begin, Marked, MarkFailed, Unmarked, UnmarkFailed, Wrote, WriteFailed, Got, ReadFailed, Cut}
use Rattle.vx_core.specs.declared.stage.Step.TheVariants.{Mark as AtMark, Write as AtWrite, MarkFailed as AtMarkFailed, Find as AtFind, Equal as AtEqual, Copy as AtCopy, Unmark as AtUnmark, Read as AtRead}
use Rattle.vx_core.specs.Table.{act_at}
use Rattle.vx_core.specs.Follow.{Rewrites, HasRead, IsPossible}
use Rattle.vx_core.proofs.Jobs.{mk}
use Rattle.vx_marks.specs.Log.{LogSeen}
use Rattle.vx_runs.specs.declared.run.RunFault.{RunFault}
use Rattle.vx_runs.specs.declared.run.RunFault.TheVariants.{Failed, PowerLost}
use Rattle.vx_cell.specs.Plexes.{PlexSeen, contents_of, holds, AllTell, ChangesPlex}
use Rattle.vx_cell.specs.Acts.{Bytes, Carries, IsPlexWritten, IsPlexRead, read_event}
use Rattle.vx_cell.specs.Region.{RegionSeen, IsTold}
use Rattle.vx_cell.specs.Running.{HoldsRegion}
use Rattle.vx_cell.proofs.Changes.{change_others}
use Rattle.vx_cell.proofs.Blocks.{keeps_written, read_same, read_blocks}

-- ---- what the scratch holds

-- a read that has got its bytes
zero_plus : (i : ℕ) → 0 + i ≡ i
zero_plus i = omega arith

pub got_ok : (k : ℕ) (result : Result (Unit {0}) RunFault) → Some Got ≡ Some (read_event k result) → result ≡ Ok tt
got_ok k (Ok tt) e = refl
got_ok k (Err (Failed piece device)) e = cc
got_ok k (Err PowerLost) e = cc

scratch_read : (region size : ℕ) (ps qs : List PlexSeen) (scratch : List ℕ) (k : ℕ) (result : Result (Unit {0}) RunFault) → Some Got ≡ Some (read_event k result) →
    ChangesPlex k (IsPlexRead 0 scratch result) ps qs → AllTell ps → blocks_in scratch ≡ size → (i : ℕ) → i < size → block_at scratch i ≡ contents_of qs k i
scratch_read region size ps qs scratch k result e c tell full i lt =
    let c_ok : ChangesPlex k (IsPlexRead 0 scratch (Ok tt)) ps qs = subst (λ (r : Result (Unit {0}) RunFault). ChangesPlex k (IsPlexRead 0 scratch r) ps qs) (got_ok k result e) c in
    read_blocks k 0 scratch ps qs tell c_ok i (omega (arith, full, lt)) ∙ ap (contents_of ps k) (zero_plus i) ∙ sym (ap (λ (f : ℕ → Contents). f k i) (read_same k 0 scratch (Ok tt) ps qs c_ok))

scratch_written : (size : ℕ) (ps qs : List PlexSeen) (scratch scratch' : List ℕ) (k source : ℕ) (result : Result (Unit {0}) RunFault) → k ≢ source →
    ChangesPlex k (IsPlexWritten 0 scratch result) ps qs → scratch' ≡ scratch → ((i : ℕ) → i < size → block_at scratch i ≡ contents_of ps source i) → (i : ℕ) → i < size → block_at scratch' i ≡ contents_of qs source i
scratch_written size ps qs scratch scratch' k source result apart c same holds i lt =
    ap (λ (bs : List ℕ). block_at bs i) same ∙ holds i lt ∙ sym (change_others k (IsPlexWritten 0 scratch result) ps qs (keeps_written 0 scratch result) c source i (λ e. apart (sym e)))

module _ (region size : ℕ) (ps qs : List PlexSeen) (log log' : LogSeen) (io io' : Bytes) (old : RegionSeen) (s : Stage) (held : ℕ → Bool) (tell : IsTold old → AllTell ps) (full : blocks_in io'.scratch ≡ size) where
  pub scratch_after : (job : Job) (step : Step) (source left good failed : ℕ) (event : Event) →
      Carries region (act_at s (mk job step source left good failed) step) (Some event) io ps log io' qs log' →
      IsPossible s held job source (act_at s (mk job step source left good failed) step) → HasRead job step event →
      (Rewrites step → HoldsRegion old size io.scratch ps source) → HoldsRegion old size io'.scratch qs source
  scratch_after ReadJob AtMark source left good failed event h can has holds = absurd has
  scratch_after ReadJob AtWrite source left good failed event h can has holds = absurd has
  scratch_after ReadJob AtMarkFailed source left good failed event h can has holds = absurd has
  scratch_after ReadJob AtUnmark source left good failed event h can has holds = absurd has
  scratch_after ReadJob AtFind source left good failed (Begin new) h can has holds = absurd has
  scratch_after ReadJob AtFind source left good failed Marked h can has holds = absurd has
  scratch_after ReadJob AtFind source left good failed MarkFailed h can has holds = absurd has
  scratch_after ReadJob AtFind source left good failed Unmarked h can has holds = absurd has
  scratch_after ReadJob AtFind source left good failed UnmarkFailed h can has holds = absurd has
  scratch_after ReadJob AtFind source left good failed Wrote h can has holds = absurd has
  scratch_after ReadJob AtFind source left good failed WriteFailed h can has holds = absurd has
  scratch_after ReadJob AtFind source left good failed Got h can has holds = λ told i lt. scratch_read region size ps qs io'.scratch source h.0.result h.0.answers h.0.changes (tell told) full i lt
  scratch_after ReadJob AtFind source left good failed (ReadFailed j) h can has holds = absurd has
  scratch_after ReadJob AtFind source left good failed Cut h can has holds = absurd has
  scratch_after ReadJob AtRead source left good failed (Begin new) h can has holds = absurd has
  scratch_after ReadJob AtRead source left good failed Marked h can has holds = absurd has
  scratch_after ReadJob AtRead source left good failed MarkFailed h can has holds = absurd has
  scratch_after ReadJob AtRead source left good failed Unmarked h can has holds = absurd has
  scratch_after ReadJob AtRead source left good failed UnmarkFailed h can has holds = absurd has
  scratch_after ReadJob AtRead source left good failed Wrote h can has holds = absurd has
  scratch_after ReadJob AtRead source left good failed WriteFailed h can has holds = absurd has
  scratch_after ReadJob AtRead source left good failed Got h can has holds = absurd has
  scratch_after ReadJob AtRead source left good failed (ReadFailed j) h can has holds = absurd has
  scratch_after ReadJob AtRead source left good failed Cut h can has holds = absurd has
  scratch_after ReadJob AtEqual source left good failed event h can has holds =
      λ told i lt. scratch_written size ps qs io.scratch io'.scratch _ source h.0.result can.1 h.0.changes (ap (λ (b : Bytes). b.scratch) h.2) (holds tt told) i lt
  scratch_after ReadJob AtCopy source left good failed event h can has holds =
      λ told i lt. scratch_written size ps qs io.scratch io'.scratch _ source h.0.result can.1 h.0.changes (ap (λ (b : Bytes). b.scratch) h.2) (holds tt told) i lt
  scratch_after WriteJob AtMark source left good failed event h can has holds = absurd has
  scratch_after WriteJob AtWrite source left good failed event h can has holds = absurd has
  scratch_after WriteJob AtMarkFailed source left good failed event h can has holds = absurd has
  scratch_after WriteJob AtUnmark source left good failed event h can has holds = absurd has
  scratch_after WriteJob AtFind source left good failed (Begin new) h can has holds = absurd has
  scratch_after WriteJob AtFind source left good failed Marked h can has holds = absurd has
  scratch_after WriteJob AtFind source left good failed MarkFailed h can has holds = absurd has
  scratch_after WriteJob AtFind source left good failed Unmarked h can has holds = absurd has
  scratch_after WriteJob AtFind source left good failed UnmarkFailed h can has holds = absurd has
  scratch_after WriteJob AtFind source left good failed Wrote h can has holds = absurd has
  scratch_after WriteJob AtFind source left good failed WriteFailed h can has holds = absurd has
  scratch_after WriteJob AtFind source left good failed Got h can has holds = λ told i lt. scratch_read region size ps qs io'.scratch source h.0.result h.0.answers h.0.changes (tell told) full i lt
  scratch_after WriteJob AtFind source left good failed (ReadFailed j) h can has holds = absurd has
  scratch_after WriteJob AtFind source left good failed Cut h can has holds = absurd has
  scratch_after WriteJob AtRead source left good failed (Begin new) h can has holds = absurd has
  scratch_after WriteJob AtRead source left good failed Marked h can has holds = absurd has
  scratch_after WriteJob AtRead source left good failed MarkFailed h can has holds = absurd has
  scratch_after WriteJob AtRead source left good failed Unmarked h can has holds = absurd has
  scratch_after WriteJob AtRead source left good failed UnmarkFailed h can has holds = absurd has
  scratch_after WriteJob AtRead source left good failed Wrote h can has holds = absurd has
  scratch_after WriteJob AtRead source left good failed WriteFailed h can has holds = absurd has
  scratch_after WriteJob AtRead source left good failed Got h can has holds = absurd has
  scratch_after WriteJob AtRead source left good failed (ReadFailed j) h can has holds = absurd has
  scratch_after WriteJob AtRead source left good failed Cut h can has holds = absurd has
  scratch_after WriteJob AtEqual source left good failed event h can has holds =
      λ told i lt. scratch_written size ps qs io.scratch io'.scratch _ source h.0.result can.1 h.0.changes (ap (λ (b : Bytes). b.scratch) h.2) (holds tt told) i lt
  scratch_after WriteJob AtCopy source left good failed event h can has holds =
      λ told i lt. scratch_written size ps qs io.scratch io'.scratch _ source h.0.result can.1 h.0.changes (ap (λ (b : Bytes). b.scratch) h.2) (holds tt told) i lt
  scratch_after (CopyJob k) AtMark source left good failed event h can has holds = absurd has
  scratch_after (CopyJob k) AtWrite source left good failed event h can has holds = absurd has
  scratch_after (CopyJob k) AtMarkFailed source left good failed event h can has holds = absurd has
  scratch_after (CopyJob k) AtUnmark source left good failed event h can has holds = absurd has
  scratch_after (CopyJob k) AtFind source left good failed (Begin new) h can has holds = absurd has
  scratch_after (CopyJob k) AtFind source left good failed Marked h can has holds = absurd has
  scratch_after (CopyJob k) AtFind source left good failed MarkFailed h can has holds = absurd has
  scratch_after (CopyJob k) AtFind source left good failed Unmarked h can has holds = absurd has
  scratch_after (CopyJob k) AtFind source left good failed UnmarkFailed h can has holds = absurd has
  scratch_after (CopyJob k) AtFind source left good failed Wrote h can has holds = absurd has
  scratch_after (CopyJob k) AtFind source left good failed WriteFailed h can has holds = absurd has
  scratch_after (CopyJob k) AtFind source left good failed Got h can has holds = λ told i lt. scratch_read region size ps qs io'.scratch source h.0.result h.0.answers h.0.changes (tell told) full i lt
  scratch_after (CopyJob k) AtFind source left good failed (ReadFailed j) h can has holds = absurd has
  scratch_after (CopyJob k) AtFind source left good failed Cut h can has holds = absurd has
  scratch_after (CopyJob k) AtRead source left good failed (Begin new) h can has holds = absurd has
  scratch_after (CopyJob k) AtRead source left good failed Marked h can has holds = absurd has
  scratch_after (CopyJob k) AtRead source left good failed MarkFailed h can has holds = absurd has
  scratch_after (CopyJob k) AtRead source left good failed Unmarked h can has holds = absurd has
  scratch_after (CopyJob k) AtRead source left good failed UnmarkFailed h can has holds = absurd has
  scratch_after (CopyJob k) AtRead source left good failed Wrote h can has holds = absurd has
  scratch_after (CopyJob k) AtRead source left good failed WriteFailed h can has holds = absurd has
  scratch_after (CopyJob k) AtRead source left good failed Got h can has holds = λ told i lt. scratch_read region size ps qs io'.scratch source h.0.result h.0.answers h.0.changes (tell told) full i lt
  scratch_after (CopyJob k) AtRead source left good failed (ReadFailed j) h can has holds = absurd has
  scratch_after (CopyJob k) AtRead source left good failed Cut h can has holds = absurd has
  scratch_after (CopyJob k) AtEqual source left good failed event h can has holds =
      λ told i lt. scratch_written size ps qs io.scratch io'.scratch _ source h.0.result can.1 h.0.changes (ap (λ (b : Bytes). b.scratch) h.2) (holds tt told) i lt
  scratch_after (CopyJob k) AtCopy source left good failed event h can has holds =
      λ told i lt. scratch_written size ps qs io.scratch io'.scratch _ source h.0.result can.1 h.0.changes (ap (λ (b : Bytes). b.scratch) h.2) (holds tt told) i lt
  scratch_after Settle AtMark source left good failed event h can has holds = absurd has
  scratch_after Settle AtWrite source left good failed event h can has holds = absurd has
  scratch_after Settle AtMarkFailed source left good failed event h can has holds = absurd has
  scratch_after Settle AtUnmark source left good failed event h can has holds = absurd has
  scratch_after Settle AtFind source left good failed (Begin new) h can has holds = absurd has
  scratch_after Settle AtFind source left good failed Marked h can has holds = absurd has
  scratch_after Settle AtFind source left good failed MarkFailed h can has holds = absurd has
  scratch_after Settle AtFind source left good failed Unmarked h can has holds = absurd has
  scratch_after Settle AtFind source left good failed UnmarkFailed h can has holds = absurd has
  scratch_after Settle AtFind source left good failed Wrote h can has holds = absurd has
  scratch_after Settle AtFind source left good failed WriteFailed h can has holds = absurd has
  scratch_after Settle AtFind source left good failed Got h can has holds = λ told i lt. scratch_read region size ps qs io'.scratch source h.0.result h.0.answers h.0.changes (tell told) full i lt
  scratch_after Settle AtFind source left good failed (ReadFailed j) h can has holds = absurd has
  scratch_after Settle AtFind source left good failed Cut h can has holds = absurd has
  scratch_after Settle AtRead source left good failed (Begin new) h can has holds = absurd has
  scratch_after Settle AtRead source left good failed Marked h can has holds = absurd has
  scratch_after Settle AtRead source left good failed MarkFailed h can has holds = absurd has
  scratch_after Settle AtRead source left good failed Unmarked h can has holds = absurd has
  scratch_after Settle AtRead source left good failed UnmarkFailed h can has holds = absurd has
  scratch_after Settle AtRead source left good failed Wrote h can has holds = absurd has
  scratch_after Settle AtRead source left good failed WriteFailed h can has holds = absurd has
  scratch_after Settle AtRead source left good failed Got h can has holds = absurd has
  scratch_after Settle AtRead source left good failed (ReadFailed j) h can has holds = absurd has
  scratch_after Settle AtRead source left good failed Cut h can has holds = absurd has
  scratch_after Settle AtEqual source left good failed event h can has holds =
      λ told i lt. scratch_written size ps qs io.scratch io'.scratch _ source h.0.result can.1 h.0.changes (ap (λ (b : Bytes). b.scratch) h.2) (holds tt told) i lt
  scratch_after Settle AtCopy source left good failed event h can has holds =
      λ told i lt. scratch_written size ps qs io.scratch io'.scratch _ source h.0.result can.1 h.0.changes (ap (λ (b : Bytes). b.scratch) h.2) (holds tt told) i lt
  scratch_after Clear AtMark source left good failed event h can has holds = absurd has
  scratch_after Clear AtWrite source left good failed event h can has holds = absurd has
  scratch_after Clear AtMarkFailed source left good failed event h can has holds = absurd has
  scratch_after Clear AtUnmark source left good failed event h can has holds = absurd has
  scratch_after Clear AtFind source left good failed (Begin new) h can has holds = absurd has
  scratch_after Clear AtFind source left good failed Marked h can has holds = absurd has
  scratch_after Clear AtFind source left good failed MarkFailed h can has holds = absurd has
  scratch_after Clear AtFind source left good failed Unmarked h can has holds = absurd has
  scratch_after Clear AtFind source left good failed UnmarkFailed h can has holds = absurd has
  scratch_after Clear AtFind source left good failed Wrote h can has holds = absurd has
  scratch_after Clear AtFind source left good failed WriteFailed h can has holds = absurd has
  scratch_after Clear AtFind source left good failed Got h can has holds = λ told i lt. scratch_read region size ps qs io'.scratch source h.0.result h.0.answers h.0.changes (tell told) full i lt
  scratch_after Clear AtFind source left good failed (ReadFailed j) h can has holds = absurd has
  scratch_after Clear AtFind source left good failed Cut h can has holds = absurd has
  scratch_after Clear AtRead source left good failed (Begin new) h can has holds = absurd has
  scratch_after Clear AtRead source left good failed Marked h can has holds = absurd has
  scratch_after Clear AtRead source left good failed MarkFailed h can has holds = absurd has
  scratch_after Clear AtRead source left good failed Unmarked h can has holds = absurd has
  scratch_after Clear AtRead source left good failed UnmarkFailed h can has holds = absurd has
  scratch_after Clear AtRead source left good failed Wrote h can has holds = absurd has
  scratch_after Clear AtRead source left good failed WriteFailed h can has holds = absurd has
  scratch_after Clear AtRead source left good failed Got h can has holds = absurd has
  scratch_after Clear AtRead source left good failed (ReadFailed j) h can has holds = absurd has
  scratch_after Clear AtRead source left good failed Cut h can has holds = absurd has
  scratch_after Clear AtEqual source left good failed event h can has holds =
      λ told i lt. scratch_written size ps qs io.scratch io'.scratch _ source h.0.result can.1 h.0.changes (ap (λ (b : Bytes). b.scratch) h.2) (holds tt told) i lt
  scratch_after Clear AtCopy source left good failed event h can has holds =
      λ told i lt. scratch_written size ps qs io.scratch io'.scratch _ source h.0.result can.1 h.0.changes (ap (λ (b : Bytes). b.scratch) h.2) (holds tt told) i lt

-- ---- what an act needs is there

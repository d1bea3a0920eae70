-- A volume that was called lies where its form says still.
use Rattle.std.proofs.Common.{◌≡◌, ℕ, List, Result, Ok, Err, sym, subst}
use Rattle.std.specs.Prelude.{IfOk, OnErr}
use Rattle.vx_pages.specs.declared.local_piece.LocalPiece.{Ghosts}
use Rattle.vx_volume.specs.declared.volume.Volume.{Volume}
use Rattle.vx_volume.specs.Log.{LogGoes}
use Rattle.vx_volume.specs.Volume.{log_of, volume_seen}
use Rattle.vx_lending.specs.declared.form.VolumeForm.{VolumeForm}
use Rattle.vx_volume_laws.specs.Lying.{LiesIn}
use Rattle.vx_volume_laws.proofs.Keepings.{each_read_keeps, each_write_keeps}
use Rattle.vx_volume_laws.proofs.Lasting.{lies_on}
use Rattle.vx_group_calls.specs.declared.served.Served.{Served}
use Rattle.vx_group_calls.specs.Ending.{IsReadServed, IsWriteServed}

module _ {P E : Type 0} {ghosts : Ghosts P} (numbers : List ℕ) (form : VolumeForm) (old new : Volume P ghosts) (was : LiesIn ghosts.seen numbers form old) where
  pub lies_read : (start count : ℕ) (result : Result Served E) → OnErr result (new ≡ old) → LogGoes ghosts.seen (log_of old) (log_of new) →
      IfOk result (λ served. IsReadServed start count served (volume_seen ghosts.seen old) (volume_seen ghosts.seen new)) → LiesIn ghosts.seen numbers form new
  lies_read start count (Ok s) refused goes served = lies_on numbers form old new was (each_read_keeps start _ _ served.result served.before served.after served.ends) goes
  lies_read start count (Err e) refused goes served = subst (LiesIn ghosts.seen numbers form) (sym refused) was

  pub lies_written : (start count : ℕ) (bytes : List ℕ) (result : Result Served E) → OnErr result (new ≡ old) → LogGoes ghosts.seen (log_of old) (log_of new) →
      IfOk result (λ served. IsWriteServed start count bytes served (volume_seen ghosts.seen old) (volume_seen ghosts.seen new)) → LiesIn ghosts.seen numbers form new
  lies_written start count bytes (Ok s) refused goes served = lies_on numbers form old new was (each_write_keeps start bytes _ _ served.result served.before served.after served.ends) goes
  lies_written start count bytes (Err e) refused goes served = subst (LiesIn ghosts.seen numbers form) (sym refused) was

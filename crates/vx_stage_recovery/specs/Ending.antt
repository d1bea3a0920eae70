-- How the end of a recovery ends, on the group, once its volume was opened and healed.
use Rattle.std.specs.Prelude.{◌≡◌, ◌⊎◌, ℕ, Result, Ok, Err}
use Rattle.vx_base.specs.Named.{Word}
use Rattle.vx_pages.specs.declared.local_piece.LocalPiece.{Ghosts}
use Rattle.vx_piece.specs.Seen.{Seen}
use Rattle.vx_config_parts.specs.declared.vol.Vol.{Vol}
use Rattle.vx_lending.specs.declared.public.Running.{Running}
use Rattle.vx_group_recover.specs.declared.healing.Healed.{Healed}
use Rattle.vx_house.specs.declared.house.Imported.{Imported}
use Rattle.vx_house.specs.declared.stop.Stop.{Stop}
use Rattle.vx_house.specs.declared.stop.Stop.TheVariants as stops
use Rattle.vx_stage_changes.specs.Planning.{IsPlanned}
use Rattle.vx_stage_changes.specs.declared.planning.NextConfig.{NextConfig}
use Rattle.vx_stage_volumes.specs.Recording.{RecordEnds}
use Rattle.vx_state_edits.specs.Edits.{recovered_edits}
use Rattle.vx_stage_recovery.specs.Healing.{HealEnds, HealsOut, HealsTo, IsHealedIn, IsPutBack}
use Rattle.vx_stage_recovery.specs.Opening.{IsBegunIn, IsOpenedOut}

-- the end is planned by these marks, and the volume was recorded with this result
pub record IsRecordedBy {P : Type 0} {ghosts : Ghosts P} (see : P → Seen) (name : Word) (v : Vol) (running : Running P ghosts) (marks : ℕ) (result : Result (Unit {0}) Stop) (old new : Imported P ghosts) : Type 0 where
  pub next : NextConfig
  pub planned : IsPlanned (recovered_edits old.config v marks) old.config next
  pub records : RecordEnds see name running next result old new

-- by the answer: it is recorded, and told; or it was put back for want of memory; or it is not recorded
abbrev pub EndEnds : {P : Type 0} {ghosts : Ghosts P} → (P → Seen) → Word → Vol → Running P ghosts → Healed → Result Healed Stop → Imported P ghosts → Imported P ghosts → Type 0
EndEnds see name v running done (Ok told) old new = (told ≡ done) × IsRecordedBy see name v running done.marks (Ok tt) old new
EndEnds see name v running done (Err stop) old new = ((stop ≡ stops.OutOfMemory) × IsPutBack see running old new) ⊎ IsRecordedBy see name v running done.marks (Err stop) old new

-- an open volume was healed, and recorded with this result
pub record IsEndedIn {P : Type 0} {ghosts : Ghosts P} (see : P → Seen) (name : Word) (v : Vol) (running : Running P ghosts) (done : Healed) (result : Result (Unit {0}) Stop) (old new : Imported P ghosts) : Type 0 where
  pub after : Running P ghosts
  pub heals : HealsTo see running after (Ok done)
  pub recorded : IsRecordedBy see name v after done.marks result old new

-- by the answer: it was healed and recorded; or not healed to the end; or put back for want of memory; or not recorded
abbrev pub OpenEnds : {P : Type 0} {ghosts : Ghosts P} → (P → Seen) → Word → Vol → Running P ghosts → Result Healed Stop → Imported P ghosts → Imported P ghosts → Type 0
OpenEnds see name v running (Ok done) old new = IsEndedIn see name v running done (Ok tt) old new
OpenEnds see name v running (Err stop) old new =
    IsHealedIn see running (Err stop) old new
    ⊎ ((done : Healed) × (((stop ≡ stops.OutOfMemory) × IsHealedIn see running (Ok done) old new) ⊎ IsEndedIn see name v running done (Err stop) old new))

-- the volume of the name was opened, healed, and recorded with this result
pub record EndsOut {P : Type 0} {ghosts : Ghosts P} (see : P → Seen) (name : Word) (done : Healed) (result : Result (Unit {0}) Stop) (old new : Imported P ghosts) : Type 0 where
  pub volume : Vol
  pub begun : IsBegunIn name old volume
  pub opened : Imported P ghosts
  pub running : Running P ghosts
  pub opens : IsOpenedOut see volume old opened running
  pub ends : IsEndedIn see name volume running done result opened new

-- by the answer: it runs; or it was not opened or not healed to the end; or healed, and put back for want of memory, or not recorded
abbrev pub FinishEnds : {P : Type 0} {ghosts : Ghosts P} → (P → Seen) → Word → Result Healed Stop → Imported P ghosts → Imported P ghosts → Type 0
FinishEnds see name (Ok done) old new = EndsOut see name done (Ok tt) old new
FinishEnds see name (Err stop) old new =
    HealEnds see name (Err stop) old new
    ⊎ ((done : Healed) × (((stop ≡ stops.OutOfMemory) × HealsOut see name (Ok done) old new) ⊎ EndsOut see name done (Err stop) old new))

-- What is seen of pieces, by what is seen of each.
use Rattle.std.specs.Prelude.{◌≡◌, ℕ, true, is_some, IsTrue, List, Option, Result, Ok, Err}
use Rattle.std.specs.Option.{option_map}
use Rattle.vx_base.specs.Counts.{Rose}
use Rattle.vx_piece.specs.Seen.{Seen, Keeps}
use Rattle.vx_runs.specs.Part.{told_or}
use Rattle.vx_marks.specs.declared.marker.MarkFault.{MarkFault}
use Rattle.vx_marks.specs.declared.marker.MarkFault.TheVariants.{Failed, PowerLost, Busy}
use Rattle.vx_pages.specs.Counts.{Hands}
use Rattle.vx_pages.specs.Sector.{Copies, SectorSeen, Holds}

abbrev pub copies_of : {P : Type 0} → (P → Seen) → P → Option P → Copies
copies_of seen first second = record { first = seen first; second = option_map seen second }

-- why a write on one piece of a copy answers so
abbrev pub PieceCause : {T : Type 0} → ℕ → Seen → Seen → Result T MarkFault → Type 0
PieceCause number old new (Ok u) = new.faults ≡ old.faults
PieceCause number old new (Err (Failed copy device)) = (copy ≡ number) × (device ≡ old.device) × Rose old.faults new.faults
PieceCause number old new (Err PowerLost) = IsTrue new.cut
PieceCause number old new (Err Busy) = ⊥

-- a sector is written on one piece of a copy
pub record IsPutOn {T : Type 0} (number : ℕ) (bytes : List ℕ) (old new : Seen) (result : Result T MarkFault) : Type 0 where
  pub kept : Keeps old new
  pub tells : is_some new.told ≡ is_some old.told
  pub holds : is_some old.told ≡ true → Holds bytes (told_or old.told 0) (told_or new.told 0) result
  pub cause : PieceCause number old new result
  pub counts : Hands 1 result old new

abbrev pub sector_of : {P : Type 0} → (P → Seen) → P → Option P → List ℕ → List ℕ → SectorSeen
sector_of seen first second sure loose = record { copies = copies_of seen first second; sure = sure; loose = loose }

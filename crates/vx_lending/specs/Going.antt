-- What becomes of pieces together while calls are made on them.
use Rattle.std.specs.Prelude.{◌≡◌, ℕ, ◌≤◌, List, Option}
use Rattle.std.specs.List.{All}
use Rattle.vx_piece.specs.Seen.{Seen}
use Rattle.vx_carve.specs.Together.{HasSome, HasStop, cut_on, faults_on, owners}

-- Each sector is in as many of them as before. No count of faults falls, no power comes back, none is empty that was not, and each
-- keeps its stop.
pub record GoTogether (old new : List Seen) : Type 0 where
  pub sectors : (device sector : ℕ) → owners device sector new ≡ owners device sector old
  pub faults : (device : ℕ) → faults_on device old ≤ faults_on device new
  pub cut : (device : ℕ) → cut_on device old ≤ cut_on device new
  pub some : All HasSome old → All HasSome new
  pub stops : (stop : Option ℕ) → All (HasStop stop) old → All (HasStop stop) new

-- What a run is, sector by sector, whatever pieces it is made of.
use Rattle.std.specs.Prelude.{◌≡◌, ℕ, zero, suc, ◌+◌, ◌-◌, ◌*◌, ◌<◌, ◌==◌, nat_lt, Bool, if◌then◌else◌, List, [], ◌∷◌, Option, Some, None, slice_index_or}
use Rattle.std.specs.Option.{option_map}
use Rattle.std.specs.List.{All}
use Rattle.vx_base.specs.Blocks.{Contents}
use Rattle.vx_piece.specs.Seen.{Seen}
use Rattle.vx_runs.specs.Run.{run_sectors, RunTells}

-- a sector of a device: its place, what it holds where that is told, and its piece's power
pub record SectorSeen : Type 0 where
  pub device : ℕ
  pub place : ℕ
  pub holds : Option (List ℕ)
  pub cut : Bool
  pub stop : Option ℕ

-- a sector of a piece
abbrev pub sector_in : Seen → ℕ → SectorSeen
sector_in p k = record { device = p.device; place = p.start + k; holds = option_map (λ (c : Contents). c k) p.told; cut = p.cut; stop = p.stop }

-- a sector of a run; there is none past its end
abbrev pub run_at : List Seen → ℕ → Option SectorSeen
run_at [] k = None
run_at (p ∷ ps) k = if nat_lt k p.sectors then Some (sector_in p k) else run_at ps (k - p.sectors)

-- what the pieces on a device have counted
abbrev pub counted : (Seen → ℕ) → ℕ → List Seen → ℕ
counted count device [] = 0
counted count device (p ∷ ps) = (if p.device == device then count p else 0) + counted count device ps

-- the piece has a sector
abbrev pub HasSome : Seen → Type 0
HasSome p = 0 < p.sectors

-- the two runs have the same sectors in the same order, which hold the same, and the counts of each device are the same; and
-- where no piece of the one is empty, none of the other is
pub record SameRun (old new : List Seen) : Type 0 where
  pub each : (k : ℕ) → run_at new k ≡ run_at old k
  pub sectors : run_sectors new ≡ run_sectors old
  pub tells : RunTells old → RunTells new
  pub faults : (device : ℕ) → counted (λ p. p.faults) device new ≡ counted (λ p. p.faults) device old
  pub writes : (device : ℕ) → counted (λ p. p.writes) device new ≡ counted (λ p. p.writes) device old
  pub reads : (device : ℕ) → counted (λ p. p.reads) device new ≡ counted (λ p. p.reads) device old
  pub some : All HasSome old → All HasSome new

-- the piece has one sector
abbrev pub IsSingle : Seen → Type 0
IsSingle p = p.sectors ≡ 1

-- the first so many pieces have one sector each
abbrev pub AreSingle : ℕ → List Seen → Type 0
AreSingle n ps = (k : ℕ) (d : Seen) → k < n → IsSingle (slice_index_or ps k d)

-- how many steps it takes to cut a piece into single sectors
abbrev pub steps : ℕ → ℕ
steps zero = 1
steps (suc n) = 2 * n + 1

abbrev pub work : List Seen → ℕ
work [] = 0
work (p ∷ ps) = steps p.sectors + work ps

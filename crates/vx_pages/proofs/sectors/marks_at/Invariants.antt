use Rattle.std.proofs.Common.{◌≡◌, ℕ}
use Rattle.std.specs.Prelude.{◌&&◌, nat_lt}
use Rattle.vx_mask.specs.Mask.{has}
use Rattle.vx_pages.specs.Sector.{is_sure}
use Rattle.vx_pages.specs.Page.{sector_at, sectors_seen}
use Rattle.vx_pages.proofs.sectors.marks_at.Given as goal

abbrev pub invariant-loop-map : goal.invariant-loop-map
invariant-loop-map g l = (map : ℕ) → has l.marks map ≡ (nat_lt map l.map && is_sure (sector_at (sectors_seen g.P.LocalPiece.seen l.sectors.items) map) l.region)

use Rattle.std.proofs.Common.{◌≤◌, map, sym, subst}
use Rattle.std.specs.List.{All}
use Rattle.vx_carve.specs.Together.{owners}
use Rattle.vx_carve.specs.Carved.{IsPlaced, wanted}
use Rattle.vx_carve_rows.specs.Setting.{numbers}
use Rattle.vx_carve_rows.proofs.Disks.{all_open, all_placed, equal_le}
use Rattle.vx_carve_rows.proofs.taking.whole.Goals as goal

pub carve-requires-clause-placed : goal.carve-requires-clause-placed
carve-requires-clause-placed g c κs within = subst (All (IsPlaced numbers)) (sym c.stretches-runs.ensures) (all_placed c.args.sectors c.requires.some c.requires.fits)

pub carve-requires-clause-free : goal.carve-requires-clause-free
carve-requires-clause-free g c κs within device sector =
    subst (λ rs. wanted numbers device sector rs ≤ owners device sector (map g.P.Piece.seen c.args.pool.now.items.items)) (sym c.stretches-runs.ensures) (equal_le _ _ (c.requires.public device sector))

pub carve-requires-clause-once : goal.carve-requires-clause-once
carve-requires-clause-once g c κs within = (all_open c.args.sectors (map g.P.Piece.seen c.args.pool.now.items.items) c.requires.public).0

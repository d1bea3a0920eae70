use Rattle.std.proofs.Common.{ℕ, ◌*◌, ◌<◌, ◌≤◌, ◌++◌, length, map, get_or}
use Rattle.std.specs.List.{flat_map}
use Rattle.vx_block.specs.Regions.{region_count}
use Rattle.vx_layout.specs.declared.layout.Layout.{Layout}
use Rattle.vx_layout.specs.Columns.{place_of}
use Rattle.vx_carve.specs.Together.{SameSectors}
use Rattle.vx_carve.specs.Carved.{IsFreeAt}
use Rattle.vx_carve_rows.specs.Setting.{numbers}
use Rattle.vx_carve_rows.proofs.taking.take_all.Given as goal

abbrev pub invariant-regions : goal.invariant-regions
invariant-regions g l = record {
  few : l.region ≤ region_count l.setting.geometry.length l.setting.geometry.region;
  same : SameSectors (map g.P.Piece.seen l.fn.pool.items.items) (flat_map (λ xs. xs) (map (λ x. map g.P.Piece.seen x.items) l.taken.items) ++ map g.P.Piece.seen l.pool.items.items);
  free : (k : ℕ) (d : Layout) → k < length l.setting.layouts.items → (b : ℕ) → b < l.region * l.setting.geometry.region → b < l.setting.geometry.length → IsFreeAt numbers (map g.P.Piece.seen l.pool.items.items) (place_of (get_or l.setting.layouts.items k d).unit (get_or l.setting.layouts.items k d).columns b);
}

abbrev pub decreases-regions : goal.decreases-regions
decreases-regions g l = l.region

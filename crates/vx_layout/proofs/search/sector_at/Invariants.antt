use Rattle.std.proofs.Common.{◌≡◌, ◌+◌, drop}
use Rattle.std.specs.Prelude.{option_map}
use Rattle.vx_layout.specs.Columns.{column_length, sector_at}
use Rattle.vx_layout.proofs.search.sector_at.Given as goal

abbrev pub invariant-loop-strip : goal.invariant-loop-strip
invariant-loop-strip l = record {
  size : l.before + column_length (drop l.strip-index l.strips) ≡ column_length l.strips;
  told : option_map (λ s. l.before + s) (sector_at (drop l.strip-index l.strips) l.place) ≡ sector_at l.strips l.place;
}

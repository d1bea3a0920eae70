-- Extents whose sectors can be counted.
use Rattle.std.specs.Prelude.{◌≡◌, ◌+◌, ◌≤◌, ◌^◌, nat_lt, true, List}
use Rattle.std.specs.List.{list_all}
use Rattle.vx_base.specs.Named.{Word}
use Rattle.vx_space.specs.declared.extent.Extent.{Extent}
use Rattle.vx_space.specs.Extents.{total}

pub record AreSmall (es : List Extent) : Type 0 where
  pub ends : list_all (λ e. nat_lt (e.start + e.count) (2 ^ 64)) es ≡ true
  pub totals : (disk : Word) → total disk es ≤ 2 ^ 40

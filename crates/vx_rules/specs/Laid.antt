-- Extents that lie on disks and do not meet, by disk and first sector.
use Rattle.std.specs.Prelude.{◌≡◌, ℕ, ◌+◌, ◌<◌, ◌≤◌, true, Some, List, ◌&&◌, ◌==◌}
use Rattle.std.specs.List.{All, list_any}
use Rattle.std.specs.Str.{bytes_eq}
use Rattle.std.specs.BTreeMap.{BTreeMap, get}
use Rattle.vx_base.specs.Named.{Word}
use Rattle.vx_rules.specs.Keys.{Key, key_cmp}
use Rattle.vx_rules.specs.declared.extent.Extent.{Extent}

-- the map holds the ends of these extents under their disks and first sectors
pub record IsLaid (ends : BTreeMap Key ℕ) (done : List Extent) : Type 0 where
  -- each is there
  pub found : All (λ e. get key_cmp ends (e.disk, e.off) ≡ Some (e.off + e.len)) done
  -- what is there is one of them
  pub known : (disk : Word) (off end : ℕ) → get key_cmp ends (disk, off) ≡ Some end → list_any (λ e. bytes_eq e.disk disk && e.off == off && e.off + e.len == end) done ≡ true
  -- each has a sector
  pub filled : (disk : Word) (off end : ℕ) → get key_cmp ends (disk, off) ≡ Some end → off < end
  -- none meets another
  pub apart : (disk : Word) (off end off' end' : ℕ) → get key_cmp ends (disk, off) ≡ Some end → get key_cmp ends (disk, off') ≡ Some end' → off < off' → end ≤ off'

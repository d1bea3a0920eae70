-- The started volumes, of which the tests ask no more than their names.
use Rattle.std.specs.Prelude.{◌||◌, Bool, is_some}
use Rattle.std.specs.BTreeMap.{BTreeMap, get}
use Rattle.std.specs.Cmp.Lexicographic.{slice_cmp}
use Rattle.std.specs.Ordering.{nat_cmp}
use Rattle.vx_base.specs.Named.{Word}

-- a volume of the name is started
abbrev pub is_running : {T : Type 0} → BTreeMap Word T → Word → Bool
is_running volumes vol = is_some (get (slice_cmp nat_cmp) volumes vol)

-- a volume of the name is started on a whole device, or runs on plexes of the group
abbrev pub is_either : {T U : Type 0} → BTreeMap Word T → BTreeMap Word U → Word → Bool
is_either volumes running vol = is_running volumes vol || is_running running vol

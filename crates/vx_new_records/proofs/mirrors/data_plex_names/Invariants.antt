use Rattle.std.proofs.Common.{◌≡◌, ◌||◌, ℕ, List, drop}
use Rattle.vx_rules.specs.Maps.{has_data_plex}
use Rattle.vx_new_volumes.specs.Naming.{is_known}
use Rattle.vx_new_records.proofs.mirrors.data_plex_names.Given as goal

abbrev pub invariant-loop-object : goal.invariant-loop-object
invariant-loop-object l = (name : List ℕ) → (is_known l.names.items name || has_data_plex name l.vol (drop l.object-index l.group)) ≡ has_data_plex name l.vol l.group

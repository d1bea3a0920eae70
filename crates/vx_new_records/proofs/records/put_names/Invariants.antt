use Rattle.std.proofs.Common.{◌≡◌, ◌++◌, map, drop}
use Rattle.vx_config_parts.specs.Objects.{name_of}
use Rattle.vx_new_records.proofs.records.put_names.Given as goal

abbrev pub invariant-loop-object : goal.invariant-loop-object
invariant-loop-object l = l.names.items ++ map name_of (drop l.object-index l.group) ≡ l.initial.names.items ++ map name_of l.group

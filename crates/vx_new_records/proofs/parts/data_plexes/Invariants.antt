use Rattle.std.proofs.Common.{◌≡◌, ◌++◌, drop}
use Rattle.vx_new_volumes.specs.Records.{data_plexes}
use Rattle.vx_new_records.proofs.parts.data_plexes.Given as goal

abbrev pub invariant-loop-name : goal.invariant-loop-name
invariant-loop-name l = l.records.items ++ data_plexes l.new l.map (drop l.name-index l.names) ≡ data_plexes l.new 0 l.names

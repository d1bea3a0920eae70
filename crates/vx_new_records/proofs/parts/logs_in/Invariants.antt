use Rattle.std.proofs.Common.{◌≡◌, ◌++◌, map, drop}
use Rattle.vx_new_volumes.specs.Logs.{log_in}
use Rattle.vx_new_records.proofs.parts.logs_in.Given as goal

abbrev pub invariant-loop-name : goal.invariant-loop-name
invariant-loop-name l = l.records.items ++ map (log_in l.fn.vol l.fn.state) (drop l.name-index l.names) ≡ map (log_in l.fn.vol l.fn.state) l.names

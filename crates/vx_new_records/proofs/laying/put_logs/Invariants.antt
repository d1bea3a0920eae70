use Rattle.std.proofs.Common.{◌≡◌, length, drop}
use Rattle.vx_new_volumes.specs.Laying.{put_logs}
use Rattle.vx_new_records.specs.Laid.{laid}
use Rattle.vx_new_records.proofs.laying.put_logs.Given as goal

abbrev pub invariant-loop-name : goal.invariant-loop-name
invariant-loop-name l =
    put_logs l.known.names.items (drop (length l.yielded) l.names) (drop (length l.yielded) l.logs) (laid l.made)
    ≡ put_logs l.known.names.items l.names l.logs (laid l.initial.made)

use Rattle.std.proofs.Common.{◌≡◌, length, drop}
use Rattle.vx_new_volumes.specs.Laying.{put_plexes}
use Rattle.vx_new_records.specs.Laid.{laid}
use Rattle.vx_new_records.proofs.laying.put_plexes.Given as goal

abbrev pub invariant-loop-name : goal.invariant-loop-name
invariant-loop-name l =
    put_plexes l.known.names.items (drop (length l.yielded) l.names) (drop (length l.yielded) l.plexes) (laid l.made)
    ≡ put_plexes l.known.names.items l.names l.plexes (laid l.initial.made)

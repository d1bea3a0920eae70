use Rattle.std.proofs.Common.{◌≡◌, drop}
use Rattle.vx_new_volumes.specs.Laying.{put_column}
use Rattle.vx_new_records.specs.Laid.{laid}
use Rattle.vx_new_records.proofs.laying.put_column.Given as goal

abbrev pub invariant-loop-extent : goal.invariant-loop-extent
invariant-loop-extent l =
    put_column l.known.names.items l.plex l.col l.at (drop l.extent-index l.extents) (laid l.made)
    ≡ put_column l.known.names.items l.plex l.col 0 l.extents (laid l.initial.made)

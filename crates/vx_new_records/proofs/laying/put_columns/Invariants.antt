use Rattle.std.proofs.Common.{◌≡◌, drop}
use Rattle.vx_new_volumes.specs.Laying.{put_columns}
use Rattle.vx_new_records.specs.Laid.{laid}
use Rattle.vx_new_records.proofs.laying.put_columns.Given as goal

abbrev pub invariant-loop-column : goal.invariant-loop-column
invariant-loop-column l =
    put_columns l.known.names.items l.plex l.col (drop l.column-index l.columns) (laid l.made)
    ≡ put_columns l.known.names.items l.plex 0 l.columns (laid l.initial.made)

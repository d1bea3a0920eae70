use Rattle.std.proofs.Common.{◌≡◌, ◌++◌, ◌-◌}
use Rattle.vx_image.specs.Lies.{columns_from, columns_of}
use Rattle.vx_image.proofs.columns.columns_of.Given as goal

abbrev pub invariant-loop-col : goal.invariant-loop-col
invariant-loop-col l = l.columns.items ++ columns_from (l.plex.ncol - l.col) l.config l.plex.name l.col ≡ columns_of l.config l.plex

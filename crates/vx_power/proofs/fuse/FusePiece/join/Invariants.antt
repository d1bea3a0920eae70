use Rattle.std.proofs.Common.{◌+◌}
use Rattle.vx_power.specs.Fused.{written_on, read_on}
use Rattle.vx_power.proofs.fuse.FusePiece.join.Given as goal

abbrev pub ghosts-join : goal.ghosts-join
ghosts-join g a = record { writes = written_on a.first + written_on a.second; reads = read_on a.first + read_on a.second }

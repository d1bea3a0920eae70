use Rattle.std.proofs.Common.{◌≡◌, ◌++◌, drop}
use Rattle.std.specs.List.{filter}
use Rattle.vx_space.specs.Disks.{is_good}
use Rattle.vx_space.proofs.disks.those_good.Given as goal

abbrev pub invariant-loop-disk : goal.invariant-loop-disk
invariant-loop-disk l = l.found.items ++ filter (is_good l.good) (drop l.disk-index l.disks) ≡ filter (is_good l.good) l.disks

use Rattle.std.proofs.Common.{◌≡◌, drop}
use Rattle.vx_new_volumes.specs.Mirrors.{lower, lowest_plex}
use Rattle.vx_new_records.proofs.mirrors.lowest_plex.Given as goal

abbrev pub invariant-loop-object : goal.invariant-loop-object
invariant-loop-object l = lower l.found (lowest_plex l.vol (drop l.object-index l.group)) ≡ lowest_plex l.vol l.group

use Rattle.std.proofs.Common.{◌≡◌, map, take}
use Rattle.vx_stages.specs.Finding.{needs_sync}
use Rattle.vx_stage_import.proofs.judging.all_synced.Given as goal

abbrev pub invariant-loop-object : goal.invariant-loop-object
invariant-loop-object l = l.out.items ≡ map needs_sync (take l.object-index l.all)

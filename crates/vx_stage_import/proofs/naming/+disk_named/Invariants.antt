use Rattle.std.proofs.Common.{length}
use Rattle.vx_stage_import.proofs.naming.+disk_named.Given as goal

abbrev pub decreases-disk_named : goal.decreases-disk_named
decreases-disk_named l = length l.records.now

use Rattle.std.proofs.Common.{length}
use Rattle.vx_added_records.proofs.refusal.+started_name.Given as goal

abbrev pub decreases-started_name : goal.decreases-started_name
decreases-started_name g l = length l.added.now

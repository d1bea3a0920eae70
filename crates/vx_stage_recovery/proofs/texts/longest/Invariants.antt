use Rattle.std.proofs.Common.{drop}
use Rattle.vx_stage_recovery.proofs.Longest.{IsSoFar}
use Rattle.vx_stage_recovery.proofs.texts.longest.Given as goal

-- how far the commits of the names so far come
abbrev pub invariant-loop-name : goal.invariant-loop-name
invariant-loop-name l = IsSoFar l.names (drop l.name-index l.names) l.config l.reached

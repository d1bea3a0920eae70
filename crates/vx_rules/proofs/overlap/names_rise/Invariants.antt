use Rattle.std.proofs.Common.{◌≡◌, drop, None}
use Rattle.vx_rules.specs.Extents.{names_rise}
use Rattle.vx_rules.proofs.overlap.names_rise.Given as goal

abbrev pub invariant-loop-extent : goal.invariant-loop-extent
invariant-loop-extent l = names_rise l.last (drop l.extent-index l.extents) ≡ names_rise None l.extents

use Rattle.std.proofs.Common.{◌≡◌, take, drop, []}
use Rattle.vx_rules.specs.Extents.{first_clash}
use Rattle.vx_rules.specs.Laid.{IsLaid}
use Rattle.vx_rules.proofs.overlap.first_clash.Given as goal

abbrev pub invariant-loop-extent : goal.invariant-loop-extent
invariant-loop-extent l = record {
  same : first_clash (take l.extent-index l.extents) (drop l.extent-index l.extents) ≡ first_clash [] l.extents;
  laid : IsLaid l.laid.ends (take l.extent-index l.extents);
}

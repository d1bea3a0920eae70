use Rattle.std.proofs.Common.{◌≡◌, drop}
use Rattle.std.specs.List.{fold}
use Rattle.vx_rules.specs.Overlap.{first_overlap_with, first_overlap}
use Rattle.vx_rules.proofs.overlap.first_overlap.Given as goal

abbrev pub invariant-loop-object : goal.invariant-loop-object
invariant-loop-object l = fold (first_overlap_with l.all) l.best (drop l.object-index l.all) ≡ first_overlap l.all

use Rattle.std.proofs.Common.{◌≡◌, ◌++◌, take}
use Rattle.std.specs.List.{flat_map}
use Rattle.vx_answers.specs.Lines.{view_lines}
use Rattle.vx_answers.proofs.line.put_views.Given as goal

abbrev pub invariant-loop-view : goal.invariant-loop-view
invariant-loop-view l = l.out.items ≡ l.fn.out.items ++ flat_map view_lines (take l.view-index l.views)

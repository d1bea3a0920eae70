use Rattle.std.proofs.Common.{◌≡◌, ◌++◌, drop}
use Rattle.vx_rules.specs.Pieces.{pieces}
use Rattle.vx_rules.proofs.piece.pieces_of.Given as goal

abbrev pub invariant-loop-object : goal.invariant-loop-object
invariant-loop-object l = l.found.items ++ pieces (drop l.object-index l.all) ≡ pieces l.all

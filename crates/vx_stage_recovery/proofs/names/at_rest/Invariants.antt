use Rattle.std.proofs.Common.{◌≡◌, take}
use Rattle.vx_house.specs.Plain.{plain}
use Rattle.vx_recovery.specs.Going.{at_rest}
use Rattle.vx_stage_recovery.proofs.names.at_rest.Given as goal

-- those of the names so far
abbrev pub invariant-loop-name : goal.invariant-loop-name
invariant-loop-name g l = l.rest.items ≡ at_rest (plain g.P.Piece.seen l.house) (take l.name-index l.names)

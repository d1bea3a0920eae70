use Rattle.vx_stage_devices.specs.Looks.{IsReadBlank}
use Rattle.vx_stage_devices.proofs.Passes.{Passed}
use Rattle.vx_stage_devices.proofs.looking.look_through.Given as goal

abbrev pub invariant-loop-taken : goal.invariant-loop-taken
invariant-loop-taken g l = Passed (IsReadBlank g.P.Piece.seen) l.taken-index l.fn.hand l.hand

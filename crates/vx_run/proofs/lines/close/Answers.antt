use Rattle.std.proofs.lemmas.Result.{on_err_weaker}
use Rattle.vx_house.specs.Scene.{shelved}
use Rattle.vx_run.proofs.Ends.{holds_some}
use Rattle.vx_run.proofs.lines.close.Goals as goal

pub returns-clause-stuck : goal.returns-clause-stuck
returns-clause-stuck g c =
    on_err_weaker c.leave.result
    (λ stuck. holds_some g.S.P.Piece.seen (shelved g.S.Shelf.free g.S.Shelf.held g.S.Shelf.counted g.S.Shelf.faults c.leave.new.shelf) c.leave.new.house stuck.later.devices stuck.some stuck.disks)
    c.leave.ensures.stuck

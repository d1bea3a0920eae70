use Rattle.std.proofs.Common.{map, arith}
use Rattle.std.proofs.lemmas.List.{length-map}
use Rattle.std.proofs.lemmas.Result.{IfOk-weaker}
use Rattle.vx_maps.proofs.SlotRuns.{whole_slots, same_slots}
use Rattle.vx_maps.proofs.runs.cut_copy.Goals as goal

pub returns-in-Ok-clause-whole : goal.returns-in-Ok-clause-whole
returns-in-Ok-clause-whole g c =
    let n = length-map c.in-Ok.singles.items g.P.Piece.seen in
    let m = c.in-Ok.ensures.count in
    IfOk-weaker _ _ _ (λ cut h. whole_slots c.args.size (map g.P.Piece.seen c.in-Ok.singles.items) _ h (omega (arith, n, m)) c.in-Ok.ensures.singles) c.put_in.ensures.same

pub returns-in-Ok-clause-same : goal.returns-in-Ok-clause-same
returns-in-Ok-clause-same g c = IfOk-weaker c.put_in.result _ _ (λ cut h. same_slots (map g.P.Piece.seen c.args.pieces.items) (map g.P.Piece.seen c.in-Ok.singles.items) _ c.in-Ok.ensures.same h) c.put_in.ensures.same

use Rattle.vx_power.proofs.Joins.{wires_joined}
use Rattle.vx_power.proofs.fuse.FusePiece.join.Goals as goal

pub returns-in-Ok-clause-joined : goal.returns-in-Ok-clause-joined
returns-in-Ok-clause-joined g c =
    let counts = g.met.P.Piece.counts in
    let wire = c.join-in-Ok.ensures in
    wires_joined c.args.self.wire c.args.next.wire c.join-in-Ok.result _ _ _ (counts c.args.self.inner) (counts c.args.next.inner) (counts c.in-Ok.inner) c.in-Ok.ensures.joined wire.acted wire.writes wire.reads

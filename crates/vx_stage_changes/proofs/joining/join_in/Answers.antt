use Rattle.std.proofs.Common.{Err, inl, inr, subst}
use Rattle.vx_stage_changes.specs.Joining.{JoinEnds}
use Rattle.vx_stage_changes.proofs.Room.{placed, kept_back}
use Rattle.vx_stage_changes.proofs.joining.join_in.Goals as goal

pub returns-in-Ok-clause-ends : goal.returns-in-Ok-clause-ends
returns-in-Ok-clause-ends g c = placed g.P.Piece.seen c.args.pair.now c.in-Some.taken _ c.args.hand.now.items c.pop.new.self.items c.args.group.now c.enter.new.group c.in-Some.ensures.items c.requires.named c.in-Ok.ensures.ends

pub returns-in-None-clause-ends : goal.returns-in-None-clause-ends
returns-in-None-clause-ends g c =
    inl (placed g.P.Piece.seen c.args.pair.now c.in-Some.taken _ c.args.hand.now.items c.pop.new.self.items c.args.group.now c.enter.new.group c.in-Some.ensures.items c.requires.named
    (subst (λ b. JoinEnds g.P.Piece.seen c.args.pair.now c.in-Some.taken (Err (c.in-Err.stop, b)) c.args.group.now c.enter.new.group) c.in-None.is c.in-Err.ensures.ends))

pub returns-in-Some-back-clause-ends : goal.returns-in-Some-back-clause-ends
returns-in-Some-back-clause-ends g c =
    inr (kept_back g.P.Piece.seen c.args.pair.now c.in-Some.taken c.in-Some-back.taken c.in-Err.stop c.args.hand.now.items c.pop.new.self.items c.push_reserved.new.self.items c.args.group.now c.enter.new.group c.in-Some.ensures.items c.requires.named c.push_reserved.ensures.items
    (subst (λ b. JoinEnds g.P.Piece.seen c.args.pair.now c.in-Some.taken (Err (c.in-Err.stop, b)) c.args.group.now c.enter.new.group) c.in-Some-back.is c.in-Err.ensures.ends))

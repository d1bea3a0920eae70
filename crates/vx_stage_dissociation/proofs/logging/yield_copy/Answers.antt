use Rattle.vx_stage_dissociation.proofs.YieldTakes.{yields_in}
use Rattle.vx_stage_dissociation.proofs.logging.yield_copy.Goals as goal

pub returns : goal.returns
returns g c = record {
  ends = yields_in g.P.Piece.seen c.args.group.now c.args.name.now c.args.copy c.args.next c.commit_next.new.group c.in_ok-commit_next.ensures.ends c.widen.new.left c.widen.ensures.items c.give_up.new.group c.give_up.ensures;
}

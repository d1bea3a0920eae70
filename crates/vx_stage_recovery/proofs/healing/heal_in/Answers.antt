use Rattle.vx_stage_recovery.proofs.HealSteps.{begun_named, opened_so}
use Rattle.vx_stage_recovery.proofs.healing.heal_in.Goals as goal

pub open-requires-clause-begun : goal.open-requires-clause-begun
open-requires-clause-begun g c κs within = begun_named g.P.Piece.seen c.args.name.now c.args.group.now c.in-Some.vol c.in-Some.ensures

pub returns : goal.returns
returns g c = record {
  ends = opened_so g.P.Piece.seen c.args.name.now c.args.group.now c.in-Some.vol c.in-Some.ensures c.open.new.group c.heal_open.new.group c.in_ok-running.running c.heal_open.result c.in_ok-running.ensures.opens c.heal_open.ensures.ends;
}

use Rattle.vx_lending.specs.Form.{IsLayoutOf}
use Rattle.vx_stage_dissociation.proofs.YieldTakes.{may_yield, only_ends, unlogged_ends, yielded_ends}
use Rattle.vx_stage_dissociation.proofs.logging.leave_copy.Goals as goal

pub returns-in_default-copy_on : goal.returns-in_default-copy_on
returns-in_default-copy_on g c =
    let see = g.P.Piece.seen in
    let lay : IsLayoutOf c.args.group.now.config c.args.plex.now c.in-Ok.layout = record { unit = c.in-Ok.ensures.unit; columns = c.in-Ok.ensures.columns } in
    record {
      ends = unlogged_ends see c.args.group.now c.args.vol.now c.args.plex.now c.args.next c.requires.kept c.requires.runs c.in-Ok.layout lay c.stand_in_order.ensures c.in_default-copy_on.ensures c.commit_next.result c.commit_next.new.group
          c.commit_next.ensures.ends;
    }

pub returns-then-not-has_two : goal.returns-then-not-has_two
returns-then-not-has_two g c =
    let see = g.P.Piece.seen in
    let lay : IsLayoutOf c.args.group.now.config c.args.plex.now c.in-Ok.layout = record { unit = c.in-Ok.ensures.unit; columns = c.in-Ok.ensures.columns } in
    record {
      ends = rw c.refused.ensures
          (only_ends see c.args.group.now c.args.vol.now c.args.plex.now c.args.next c.requires.kept c.requires.runs c.in-Ok.layout c.in-Some.copy c.in-Some.ensures c.has_two.result c.has_two.ensures lay c.stand_in_order.ensures c.if-not-has_two.true);
    }

pub yield_copy-requires-clause-may : goal.yield_copy-requires-clause-may
yield_copy-requires-clause-may g c κs within =
    may_yield g.P.Piece.seen c.args.group.now c.args.vol.now c.args.plex.now c.args.next c.requires.kept c.requires.runs c.in-Ok.layout c.in-Some.copy c.in-Some.ensures c.has_two.result c.has_two.ensures c.if-not-has_two.false

pub returns : goal.returns
returns g c =
    let see = g.P.Piece.seen in
    let lay : IsLayoutOf c.args.group.now.config c.args.plex.now c.in-Ok.layout = record { unit = c.in-Ok.ensures.unit; columns = c.in-Ok.ensures.columns } in
    record {
      ends = yielded_ends see c.args.group.now c.args.vol.now c.args.plex.now c.args.next c.requires.kept c.requires.runs c.in-Ok.layout c.in-Some.copy c.in-Some.ensures c.has_two.result c.has_two.ensures lay c.stand_in_order.ensures
          (c.is_powered.ensures.powered c.if-not-is_powered.false) c.yield_copy.result c.yield_copy.new.group c.yield_copy.ensures.ends;
    }

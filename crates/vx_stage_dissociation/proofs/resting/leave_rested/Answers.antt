use Rattle.std.proofs.Common.{Err, Ok}
use Rattle.std.specs.Vec.{vec_capacity}
use Rattle.std.proofs.lemmas.Result.{err_from_is_err_and}
use Rattle.vx_stage_mirrors.proofs.SettlingFacts.{settle_keeps, settled_there}
use Rattle.vx_stage_dissociation.proofs.Takes.{left_ends, may_settle, may_take, needed_ends, spared_ends, unsettled_ends, wanted_ends}
use Rattle.vx_stage_dissociation.proofs.resting.leave_rested.Goals as goal

pub settle-requires-clause-may : goal.settle-requires-clause-may
settle-requires-clause-may g c κs within = may_settle g.P.Piece.seen c.args.group.now c.args.vol.now.name c.args.plex.now c.args.next c.requires.kept c.requires.runs

pub returns-in_err-settle : goal.returns-in_err-settle
returns-in_err-settle g c =
    let p = err_from_is_err_and c.from_residual.result c.from_residual.ensures.1 in
    record { ends = rw (p.1, p.2) (unsettled_ends g.P.Piece.seen c.args.group.now c.args.vol.now.name c.args.plex.now c.args.next c.in_err-settle.field-0.0 c.settle.new.group c.in_err-settle.ensures.ends) }

pub returns-then-needs_plex : goal.returns-then-needs_plex
returns-then-needs_plex g c =
    let see = g.P.Piece.seen in
    let old = c.args.group.now in
    let mid = c.settle.new.group in
    let vol = c.args.vol.now.name in
    let may = may_settle see old vol c.args.plex.now c.args.next c.requires.kept c.requires.runs in
    let there = settled_there c.requires.alike old mid vol (Ok tt) may c.in_ok-settle.ensures.ends in
    record {
      ends = rw c.refused.ensures
          (needed_ends see old vol c.args.plex.now c.args.next mid c.in_ok-settle.ensures.ends there c.map_or_zero-map.result c.map_or_zero-map.ensures c.needs_plex.result c.needs_plex.ensures c.if-needs_plex.true);
    }

pub returns-in_default : goal.returns-in_default
returns-in_default g c =
    let see = g.P.Piece.seen in
    let old = c.args.group.now in
    let mid = c.settle.new.group in
    let vol = c.args.vol.now.name in
    let may = may_settle see old vol c.args.plex.now c.args.next c.requires.kept c.requires.runs in
    let settles = c.in_ok-settle.ensures.ends in
    let there = settled_there c.requires.alike old mid vol (Ok tt) may settles in
    record { ends = wanted_ends see old vol c.args.plex.now c.args.next mid settles there c.map_or_zero-map.result c.map_or_zero-map.ensures c.needs_plex.result c.needs_plex.ensures c.if-needs_plex.false }

pub returns-in_default-with_capacity : goal.returns-in_default-with_capacity
returns-in_default-with_capacity g c =
    let see = g.P.Piece.seen in
    let old = c.args.group.now in
    let mid = c.settle.new.group in
    let vol = c.args.vol.now.name in
    let may = may_settle see old vol c.args.plex.now c.args.next c.requires.kept c.requires.runs in
    let settles = c.in_ok-settle.ensures.ends in
    let there = settled_there c.requires.alike old mid vol (Ok tt) may settles in
    record { ends = wanted_ends see old vol c.args.plex.now c.args.next mid settles there c.map_or_zero-map.result c.map_or_zero-map.ensures c.needs_plex.result c.needs_plex.ensures c.if-needs_plex.false }

pub returns-in_err-commit_next : goal.returns-in_err-commit_next
returns-in_err-commit_next g c =
    let see = g.P.Piece.seen in
    let old = c.args.group.now in
    let mid = c.settle.new.group in
    let vol = c.args.vol.now.name in
    let may = may_settle see old vol c.args.plex.now c.args.next c.requires.kept c.requires.runs in
    let settles = c.in_ok-settle.ensures.ends in
    let there = settled_there c.requires.alike old mid vol (Ok tt) may settles in
    let p = err_from_is_err_and c.from_residual-in_err-commit_next.result c.from_residual-in_err-commit_next.ensures.1 in
    record {
      ends = rw (p.1, p.2)
          (spared_ends see old vol c.args.plex.now c.args.next mid settles there c.map_or_zero-map.result c.map_or_zero-map.ensures c.needs_plex.result c.needs_plex.ensures c.if-needs_plex.false
          (Err c.in_err-commit_next.field-0.0) c.commit_next.new.group c.in_err-commit_next.ensures.ends);
    }

pub take_out-requires-clause-may : goal.take_out-requires-clause-may
take_out-requires-clause-may g c κs within =
    let see = g.P.Piece.seen in
    let old = c.args.group.now in
    let mid = c.settle.new.group in
    let vol = c.args.vol.now.name in
    let may = may_settle see old vol c.args.plex.now c.args.next c.requires.kept c.requires.runs in
    let settles = c.in_ok-settle.ensures.ends in
    let there = settled_there c.requires.alike old mid vol (Ok tt) may settles in
    may_take see old vol c.args.plex.now c.args.next mid settles there c.map_or_zero-map.result c.map_or_zero-map.ensures c.needs_plex.result c.needs_plex.ensures c.if-needs_plex.false
    (settle_keeps c.requires.alike old mid vol (Ok tt) may settles c.requires.kept) c.commit_next.new.group c.in_ok-commit_next.ensures.ends (vec_capacity c.in-Ok.room) c.in-Ok.ensures.room

pub returns : goal.returns
returns g c =
    let see = g.P.Piece.seen in
    let old = c.args.group.now in
    let mid = c.settle.new.group in
    let vol = c.args.vol.now.name in
    let may = may_settle see old vol c.args.plex.now c.args.next c.requires.kept c.requires.runs in
    let settles = c.in_ok-settle.ensures.ends in
    let there = settled_there c.requires.alike old mid vol (Ok tt) may settles in
    record {
      ends = left_ends see old vol c.args.plex.now c.args.next mid settles there c.map_or_zero-map.result c.map_or_zero-map.ensures c.needs_plex.result c.needs_plex.ensures c.if-needs_plex.false
          c.commit_next.new.group c.in_ok-commit_next.ensures.ends c.widen.new.left c.widen.ensures.items c.take_out.new.group c.take_out.ensures;
    }

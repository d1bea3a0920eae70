use Rattle.std.proofs.Common.{Ok, ap}
use Rattle.std.proofs.lemmas.Result.{err_from_is_err_and}
use Rattle.vx_stage_mirrors.proofs.Detaches.{may_go_off, may_settle, needed_ends, spared_ends, unplanned_ends, unsettled_ends}
use Rattle.vx_stage_mirrors.proofs.SettlingFacts.{settle_keeps, settled_there}
use Rattle.vx_stage_mirrors.proofs.detaching.detach_in.Goals as goal

pub returns-in_err-next : goal.returns-in_err-next
returns-in_err-next g c =
    let p = err_from_is_err_and c.from_residual-in_err-next.result c.from_residual-in_err-next.ensures.1 in
    record {
      ends = rw (p.1, p.2)
          (unplanned_ends g.P.Piece.seen c.args.group.now c.args.name.now c.in_ok-plex.vol c.in_ok-plex.plex c.in_ok-plex.ensures.found c.in_ok-plex.ensures.own c.in_ok-plex.ensures.passes c.requires.kept
          c.in_err-next.field-0.0 c.in_err-next.ensures.unplanned);
    }

pub settle-requires-clause-may : goal.settle-requires-clause-may
settle-requires-clause-may g c κs within =
    may_settle g.P.Piece.seen c.args.group.now c.args.name.now c.in_ok-plex.vol c.in_ok-plex.plex c.in_ok-plex.ensures.found c.in_ok-plex.ensures.own c.in_ok-plex.ensures.passes c.requires.kept

pub returns-in_err-settle : goal.returns-in_err-settle
returns-in_err-settle g c =
    let p = err_from_is_err_and c.from_residual-in_err-settle.result c.from_residual-in_err-settle.ensures.1 in
    record {
      ends = rw (p.1, p.2)
          (unsettled_ends g.P.Piece.seen c.args.group.now c.args.name.now c.in_ok-plex.vol c.in_ok-plex.plex c.in_ok-plex.ensures.found c.in_ok-plex.ensures.own c.in_ok-plex.ensures.passes
          c.in_ok-next.next c.in_ok-next.ensures.planned c.in_err-settle.field-0.0 c.settle.new.group c.in_err-settle.ensures.ends);
    }

pub returns-then-needs_plex : goal.returns-then-needs_plex
returns-then-needs_plex g c =
    let see = g.P.Piece.seen in
    let old = c.args.group.now in
    let mid = c.settle.new.group in
    let vol = c.in_ok-plex.vol in
    let may = may_settle see old c.args.name.now vol c.in_ok-plex.plex c.in_ok-plex.ensures.found c.in_ok-plex.ensures.own c.in_ok-plex.ensures.passes c.requires.kept in
    let there = settled_there c.requires.alike old mid vol (Ok tt) may c.in_ok-settle.ensures.ends in
    record {
      ends = rw c.refused.ensures
          (needed_ends see old c.args.name.now vol c.in_ok-plex.plex c.in_ok-plex.ensures.found c.in_ok-plex.ensures.own c.in_ok-plex.ensures.passes c.in_ok-next.next c.in_ok-next.ensures.planned
          mid c.in_ok-settle.ensures.ends there c.map_or_zero-map.result c.map_or_zero-map.ensures c.needs_plex.result c.needs_plex.ensures c.if-needs_plex.true);
    }

pub record_off-requires-clause-may : goal.record_off-requires-clause-may
record_off-requires-clause-may g c κs within =
    let see = g.P.Piece.seen in
    let old = c.args.group.now in
    let mid = c.settle.new.group in
    let vol = c.in_ok-plex.vol in
    let may = may_settle see old c.args.name.now vol c.in_ok-plex.plex c.in_ok-plex.ensures.found c.in_ok-plex.ensures.own c.in_ok-plex.ensures.passes c.requires.kept in
    let settles = c.in_ok-settle.ensures.ends in
    let there = settled_there c.requires.alike old mid vol (Ok tt) may settles in
    may_go_off see old c.args.name.now vol c.in_ok-plex.plex c.in_ok-plex.ensures.found c.in_ok-plex.ensures.own c.in_ok-plex.ensures.passes c.in_ok-next.next c.in_ok-next.ensures.planned
    mid settles there c.map_or_zero-map.result c.map_or_zero-map.ensures (settle_keeps c.requires.alike old mid vol (Ok tt) may settles c.requires.kept) (ap (λ x. x.config) settles.same)
    c.needs_plex.result c.needs_plex.ensures c.if-needs_plex.false

pub returns : goal.returns
returns g c =
    let see = g.P.Piece.seen in
    let old = c.args.group.now in
    let mid = c.settle.new.group in
    let vol = c.in_ok-plex.vol in
    let may = may_settle see old c.args.name.now vol c.in_ok-plex.plex c.in_ok-plex.ensures.found c.in_ok-plex.ensures.own c.in_ok-plex.ensures.passes c.requires.kept in
    let there = settled_there c.requires.alike old mid vol (Ok tt) may c.in_ok-settle.ensures.ends in
    record {
      ends = spared_ends see old c.args.name.now vol c.in_ok-plex.plex c.in_ok-plex.ensures.found c.in_ok-plex.ensures.own c.in_ok-plex.ensures.passes c.in_ok-next.next c.in_ok-next.ensures.planned
          mid c.in_ok-settle.ensures.ends there c.map_or_zero-map.result c.map_or_zero-map.ensures c.needs_plex.result c.needs_plex.ensures c.if-needs_plex.false
          c.record_off.result c.record_off.new.group c.record_off.ensures.ends;
    }

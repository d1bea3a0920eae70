use Rattle.std.proofs.Common.{rules, ◌≡◌, Some, None}
use Rattle.std.proofs.lemmas.Result.{err_from_is_err_and}
use Rattle.vx_stages.specs.Tests.{volume_in}
use Rattle.vx_stage_volumes.proofs.StartEnds.{absent_opened, ends_running, ends_unopened, ends_unrecorded, free_mid, no_object, of_mid, prepared_by, refused_start, runs_recorded, volumes_recorded}
use Rattle.vx_stage_volumes.proofs.Named.{found_of}
use Rattle.vx_stage_volumes.proofs.starting.start_in.Goals as goal

pub returns-in_default : goal.returns-in_default
returns-in_default g c =
    let none : volume_in c.args.name c.args.group.now.config.volumes ≡ None = search rules in
    record { ends = rw c.refused.ensures (no_object g.P.Piece.seen c.args.name c.args.group.now c.requires.kept c.requires.alike none) }

pub planned_start-requires : goal.planned_start-requires
planned_start-requires g c =
    let found : volume_in c.args.name c.args.group.now.config.volumes ≡ Some c.in-Some.vol = search rules in
    record { of = found_of c.args.group.now.config c.args.name c.in-Some.vol found }

pub returns-in_err-next : goal.returns-in_err-next
returns-in_err-next g c =
    let found : volume_in c.args.name c.args.group.now.config.volumes ≡ Some c.in-Some.vol = search rules in
    let p = err_from_is_err_and c.from_residual.result c.from_residual.ensures.1 in
    record {
      ends = rw (p.1, p.2) (refused_start g.P.Piece.seen c.args.name c.args.group.now c.requires.kept c.requires.alike c.in-Some.vol found
          c.good.result c.good.ensures.just c.in_err-next.field-0.0 c.in_err-next.ensures.refused);
    }

pub open_in-requires-clause-of : goal.open_in-requires-clause-of
open_in-requires-clause-of g c κs within =
    let found : volume_in c.args.name c.args.group.now.config.volumes ≡ Some c.in-Some.vol = search rules in
    let prepared =
    prepared_by g.P.Piece.seen c.args.name c.args.group.now c.requires.kept c.good.result c.good.ensures.just c.in_ok-next.ensures.planned found
    c.prepare.ensures.parts c.prepare.result c.prepare.ensures.ready c.is_err.result c.is_err.ensures.value c.if-is_err.false in
    of_mid g.P.Piece.seen c.args.name c.args.group.now c.requires.kept prepared

pub open_in-requires-clause-free : goal.open_in-requires-clause-free
open_in-requires-clause-free g c κs within =
    let found : volume_in c.args.name c.args.group.now.config.volumes ≡ Some c.in-Some.vol = search rules in
    let prepared =
    prepared_by g.P.Piece.seen c.args.name c.args.group.now c.requires.kept c.good.result c.good.ensures.just c.in_ok-next.ensures.planned found
    c.prepare.ensures.parts c.prepare.result c.prepare.ensures.ready c.is_err.result c.is_err.ensures.value c.if-is_err.false in
    free_mid g.P.Piece.seen c.args.name c.args.group.now c.requires.kept prepared c.each_idle_volume_is_free.ensures

pub returns-in_err-running : goal.returns-in_err-running
returns-in_err-running g c =
    let found : volume_in c.args.name c.args.group.now.config.volumes ≡ Some c.in-Some.vol = search rules in
    let prepared =
    prepared_by g.P.Piece.seen c.args.name c.args.group.now c.requires.kept c.good.result c.good.ensures.just c.in_ok-next.ensures.planned found
    c.prepare.ensures.parts c.prepare.result c.prepare.ensures.ready c.is_err.result c.is_err.ensures.value c.if-is_err.false in
    let p = err_from_is_err_and c.from_residual-in_err-running.result c.from_residual-in_err-running.ensures.1 in
    record {
      ends = rw (p.1, p.2) (ends_unopened g.P.Piece.seen c.args.name c.args.group.now c.requires.kept prepared
          c.in_err-running.ensures.unopened);
    }

pub record_start-requires-clause-absent : goal.record_start-requires-clause-absent
record_start-requires-clause-absent g c κs within =
    let found : volume_in c.args.name c.args.group.now.config.volumes ≡ Some c.in-Some.vol = search rules in
    let prepared =
    prepared_by g.P.Piece.seen c.args.name c.args.group.now c.requires.kept c.good.result c.good.ensures.just c.in_ok-next.ensures.planned found
    c.prepare.ensures.parts c.prepare.result c.prepare.ensures.ready c.is_err.result c.is_err.ensures.value c.if-is_err.false in
    absent_opened g.P.Piece.seen c.args.name c.args.group.now c.requires.kept prepared c.in_ok-running.ensures.opens

pub returns-in_err-record_start : goal.returns-in_err-record_start
returns-in_err-record_start g c =
    let found : volume_in c.args.name c.args.group.now.config.volumes ≡ Some c.in-Some.vol = search rules in
    let prepared =
    prepared_by g.P.Piece.seen c.args.name c.args.group.now c.requires.kept c.good.result c.good.ensures.just c.in_ok-next.ensures.planned found
    c.prepare.ensures.parts c.prepare.result c.prepare.ensures.ready c.is_err.result c.is_err.ensures.value c.if-is_err.false in
    let p = err_from_is_err_and c.from_residual-in_err-record_start.result c.from_residual-in_err-record_start.ensures.1 in
    record {
      ends = rw (p.1, p.2) (ends_unrecorded g.P.Piece.seen c.args.name c.args.group.now c.requires.kept prepared c.in_ok-running.ensures.opens
          c.in_err-record_start.ensures.ends);
    }

pub resync-requires-clause-there : goal.resync-requires-clause-there
resync-requires-clause-there g c κs within =
    let found : volume_in c.args.name c.args.group.now.config.volumes ≡ Some c.in-Some.vol = search rules in
    let prepared =
    prepared_by g.P.Piece.seen c.args.name c.args.group.now c.requires.kept c.good.result c.good.ensures.just c.in_ok-next.ensures.planned found
    c.prepare.ensures.parts c.prepare.result c.prepare.ensures.ready c.is_err.result c.is_err.ensures.value c.if-is_err.false in
    runs_recorded g.P.Piece.seen c.args.name c.args.group.now c.requires.kept prepared c.in_ok-running.ensures.opens c.in_ok-record_start.ensures.ends

pub resync-requires-clause-volumes : goal.resync-requires-clause-volumes
resync-requires-clause-volumes g c κs within =
    let found : volume_in c.args.name c.args.group.now.config.volumes ≡ Some c.in-Some.vol = search rules in
    let prepared =
    prepared_by g.P.Piece.seen c.args.name c.args.group.now c.requires.kept c.good.result c.good.ensures.just c.in_ok-next.ensures.planned found
    c.prepare.ensures.parts c.prepare.result c.prepare.ensures.ready c.is_err.result c.is_err.ensures.value c.if-is_err.false in
    volumes_recorded g.P.Piece.seen c.args.name c.args.group.now c.requires.kept prepared c.in_ok-running.ensures.opens
    c.in_ok-record_start.ensures.ends

pub returns : goal.returns
returns g c =
    let found : volume_in c.args.name c.args.group.now.config.volumes ≡ Some c.in-Some.vol = search rules in
    let prepared =
    prepared_by g.P.Piece.seen c.args.name c.args.group.now c.requires.kept c.good.result c.good.ensures.just c.in_ok-next.ensures.planned found
    c.prepare.ensures.parts c.prepare.result c.prepare.ensures.ready c.is_err.result c.is_err.ensures.value c.if-is_err.false in
    record {
      ends = ends_running g.P.Piece.seen c.args.name c.args.group.now c.requires.kept prepared c.in_ok-running.ensures.opens
          c.in_ok-record_start.ensures.ends c.is_fresh.ensures c.resync.ensures;
    }

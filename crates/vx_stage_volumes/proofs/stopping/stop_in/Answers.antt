use Rattle.std.proofs.lemmas.Result.{err_from_is_err_and}
use Rattle.vx_stage_volumes.proofs.Ends.{unready_ends}
use Rattle.vx_stage_volumes.proofs.Named.{found_of}
use Rattle.vx_stage_volumes.proofs.Steps.{fault_disk, may_rest, recorded_so, rested_kept, stopped_so, unrested_so, volumes_then}
use Rattle.vx_stage_volumes.proofs.stopping.stop_in.Goals as goal

pub returns-in_err-of : goal.returns-in_err-of
returns-in_err-of g c =
    let p = err_from_is_err_and c.from_residual.result c.from_residual.ensures.1 in
    record { ends = rw (p.1, p.2) (unready_ends g.P.Piece.seen c.args.vol.now c.args.group.now c.in_err-of.field-0.0 c.in_err-of.ensures.unready) }

pub rest-requires-clause-may : goal.rest-requires-clause-may
rest-requires-clause-may g c κs within =
    may_rest g.P.Piece.seen c.args.group.now.public c.args.vol.now c.requires.kept.whole.volumes c.in_ok-of.ensures.ready.runs

pub told-requires-after_bounds : goal.told-requires-after_bounds
told-requires-after_bounds g c κs within =
    fault_disk c.args.group.now c.requires.alike c.args.vol.now c.requires.kept c.reserve.new.self c.reserve.ensures.items
    c.rest.new.running c.in-Err.fault c.in-Err.ensures.rests c.disks.result.now c.disks.ensures

pub returns-in-Err : goal.returns-in-Err
returns-in-Err g c = record {
  ends = unrested_so c.args.group.now c.requires.alike c.args.vol.now c.requires.kept c.reserve.new.self c.reserve.ensures.items
      c.in_ok-of.of c.in_ok-of.ensures.ready c.rest.new.running c.in-Err.fault c.in-Err.ensures.rests
      c.disks.result.now c.disks.ensures c.told.result c.told.ensures;
}

pub record-requires-clause-kept : goal.record-requires-clause-kept
record-requires-clause-kept g c κs within =
    rested_kept c.args.group.now c.requires.alike c.args.vol.now c.requires.kept c.reserve.new.self c.reserve.ensures.items
    c.rest.new.running _ c.in-Ok.ensures.rests

pub record-requires-clause-recorded : goal.record-requires-clause-recorded
record-requires-clause-recorded g c κs within = found_of c.args.group.now.config c.args.vol.now c.in_ok-of.of c.in_ok-of.ensures.ready.found

pub returns-in_err-record : goal.returns-in_err-record
returns-in_err-record g c =
    let p = err_from_is_err_and c.from_residual-in_err-record.result c.from_residual-in_err-record.ensures.1 in
    record {
      ends = rw (p.1, p.2) (recorded_so c.args.group.now c.requires.alike c.args.vol.now c.requires.kept c.reserve.new.self c.reserve.ensures.items
          c.in_ok-of.of c.in_ok-of.ensures.ready c.rest.new.running c.in-Ok.marks c.in-Ok.ensures.rests
          c.record.new.group c.in_err-record.field-0.0 c.in_err-record.ensures.ends);
    }

pub lay-requires-clause-volumes : goal.lay-requires-clause-volumes
lay-requires-clause-volumes g c κs within =
    volumes_then c.args.group.now c.requires.alike c.args.vol.now c.requires.kept c.reserve.new.self c.reserve.ensures.items
    c.in_ok-of.of c.in_ok-of.ensures.ready c.rest.new.running c.in-Ok.marks c.in-Ok.ensures.rests
    c.record.new.group c.in_ok-record.ensures.ends

pub returns : goal.returns
returns g c = record {
  ends = stopped_so c.args.group.now c.requires.alike c.args.vol.now c.requires.kept c.reserve.new.self c.reserve.ensures.items
      c.in_ok-of.of c.in_ok-of.ensures.ready c.rest.new.running c.in-Ok.marks c.in-Ok.ensures.rests
      c.record.new.group c.in_ok-record.ensures.ends c.lay.new.public c.lay.ensures.laid;
}

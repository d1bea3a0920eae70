use Rattle.std.proofs.Common.{rules, ◌≡◌, inl, refl}
use Rattle.std.specs.Prelude.{is_some}
use Rattle.std.proofs.lemmas.Result.{err_from_is_err_and}
use Rattle.vx_lending.specs.Public.{running_at}
use Rattle.vx_stage_volumes.proofs.Named.{found_of}
use Rattle.vx_stage_mirrors.specs.Ending.{JoinStopsIn, MirrorEnds}
use Rattle.vx_stage_mirrors.proofs.Plans.{ends_by, on_err, refused_by, runs_ready}
use Rattle.vx_stage_mirrors.proofs.mirroring.mirror_in.Goals as goal

pub planned_mirror-requires : goal.planned_mirror-requires
planned_mirror-requires g c = record { recorded = found_of c.args.group.now.config c.args.new.now.vol c.in_ok-vol.vol c.in_ok-vol.ensures.found }

pub returns-in_err-planned : goal.returns-in_err-planned
returns-in_err-planned g c =
    let runs_is : c.contains_key-runs.result ≡ is_some (running_at c.args.group.now.public c.args.new.now.vol) = search rules in
    let p = err_from_is_err_and c.from_residual-in_err-planned.result c.from_residual-in_err-planned.ensures.1 in
    record {
      ends = rw (p.1, p.2) (inl (
        refl,
        refused_by g.P.Piece.seen c.args.group.now c.args.new.now.vol c.args.new.now.disks c.as_slice-disks.result.now c.as_slice-disks.ensures c.in_ok-vol.vol c.in_ok-vol.ensures.found c.contains_key-runs.result runs_is c.in_ok-vol.ensures.passes
            c.good.result c.good.ensures.just c.in_err-planned.field-0.0 c.in_err-planned.ensures.unplanned,
      ));
    }

pub join-requires-clause-there : goal.join-requires-clause-there
join-requires-clause-there g c κs within =
    let runs_is : c.contains_key-runs.result ≡ is_some (running_at c.args.group.now.public c.args.new.now.vol) = search rules in
    runs_ready g.P.Piece.seen c.args.group.now c.args.new.now.vol c.args.new.now.disks c.as_slice-disks.result.now c.as_slice-disks.ensures c.in_ok-vol.vol c.in_ok-vol.ensures.found c.contains_key-runs.result runs_is c.in_ok-vol.ensures.passes
    c.good.result c.good.ensures.just c.prepare.new.group c.prepare.ensures.parts

pub returns : goal.returns
returns g c =
    let runs_is : c.contains_key-runs.result ≡ is_some (running_at c.args.group.now.public c.args.new.now.vol) = search rules in
    record {
      ends = on_err c.join.result (λ stop. JoinStopsIn g.P.Piece.seen c.args.new.now.vol c.in_ok-planned.planned stop c.prepare.new.group c.join.new.group) (λ stop. MirrorEnds g.P.Piece.seen c.args.new.now.vol c.args.new.now.disks stop c.args.group.now c.join.new.group)
          (λ stop. ends_by g.P.Piece.seen c.args.group.now c.args.new.now.vol c.args.new.now.disks c.as_slice-disks.result.now c.as_slice-disks.ensures c.in_ok-vol.vol c.in_ok-vol.ensures.found c.contains_key-runs.result runs_is c.in_ok-vol.ensures.passes
          c.good.result c.good.ensures.just c.in_ok-planned.planned c.in_ok-planned.ensures.planned c.prepare.new.group c.join.new.group c.prepare.ensures.parts stop)
          c.join.ensures.ends;
    }

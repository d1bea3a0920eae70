use Rattle.std.proofs.Common.{Some, refl}
use Rattle.std.proofs.lemmas.Result.{err_from_is_err_and}
use Rattle.vx_stage_changes.proofs.CreateStage.{none_of, in_use, created, not_created}
use Rattle.vx_stage_changes.proofs.creating.create.Goals as goal

pub returns-in-Some : goal.returns-in-Some
returns-in-Some g c = record { goes = λ shelf held. rw c.refused.ensures (in_use g.P.Piece.seen c.args.dg.now c.args.disks.now shelf c.args.house.now c.requires.keeps held c.in-Some.group c.in-Some.is) }

pub returns-in_err-group : goal.returns-in_err-group
returns-in_err-group g c =
    let p = err_from_is_err_and c.from_residual.result c.from_residual.ensures.1 in
    let none = none_of c.args.house.now.group c.in_default.not-Some in
    record {
      goes = λ shelf held.
          rw (p.1, p.2)
          (not_created g.P.Piece.seen c.args.dg.now c.args.disks.now shelf c.args.house.now (record { volumes = c.args.house.now.volumes; group = c.args.house.now.group; hand = c.create_in.new.hand }) c.requires.keeps none c.requires.ready.wants.0 refl held none c.in_err-group.field-0.0 c.in_err-group.ensures.ends);
    }

pub returns : goal.returns
returns g c =
    let none = none_of c.args.house.now.group c.in_default.not-Some in
    record {
      goes = λ shelf held.
          created g.P.Piece.seen c.args.dg.now c.args.disks.now shelf c.args.house.now (record { volumes = c.args.house.now.volumes; group = Some c.in_ok-group.group; hand = c.create_in.new.hand }) c.requires.keeps none c.requires.ready.wants.0 refl held c.in_ok-group.group refl c.in_ok-group.ensures.ends.0 c.in_ok-group.ensures.ends.1;
    }

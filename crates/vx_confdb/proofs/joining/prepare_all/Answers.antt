use Rattle.std.proofs.Common.{refl, rules, arith, add-one}
use Rattle.vx_copies.specs.Disks.{disk_seen, IsCut}
use Rattle.vx_copies.proofs.StepLaws.{each_refl, each_map}
use Rattle.vx_copies.specs.Written.{WritesJust}
use Rattle.vx_copies.proofs.Passes.{pass_next, pass_stop, pass_all}
use Rattle.vx_copies.proofs.GoodCounts.{go_on, all_more, any_set}
use Rattle.vx_confdb.specs.Prepare.{IsPrepared, Fronts, Prepares, PrepareEnds}
use Rattle.vx_confdb.specs.declared.joining.Prepared.TheVariants.{Done, Cut}
use Rattle.vx_confdb.proofs.Preparation.{FrontsJust, front_of, front_none, just_of, prepares_refl, prepares_trans, fresh_at, fresh_rest}
use Rattle.vx_confdb.proofs.joining.prepare_all.Goals as goal

pub disks-init : goal.disks-init
disks-init g c = record { most = omega arith; size = c.requires.size; prepares = each_refl (Prepares c.args.group.now) (prepares_refl c.args.group.now) _; fresh = c.requires.fresh; passed = refl; prepared = tt }

pub prepare-requires-clause-fresh : goal.prepare-requires-clause-fresh
prepare-requires-clause-fresh g c κs within = fresh_at g.P.Piece.seen c.args.group.now c.disks.disks c.disks.i c.index-disks-i.result c.disks-test.true c.disks.invariant.fresh

pub returns-in-Cut-clause-prepares : goal.returns-in-Cut-clause-prepares
returns-in-Cut-clause-prepares g c = go_on g.P.Piece.seen (Prepares c.args.group.now) (prepares_trans c.args.group.now) _ c.disks.disks c.disks.i c.prepare.new.disk c.index-disks-i.result c.disks-test.true c.disks.invariant.prepares c.prepare.ensures.prepares

pub returns-in-Cut-clause-ends : goal.returns-in-Cut-clause-ends
returns-in-Cut-clause-ends g c =
    let ends : PrepareEnds Cut c.args.group.now (disk_seen g.P.Piece.seen c.prepare.new.disk) = rw c.in-Cut.is at c.prepare.ensures.ends in
    any_set g.P.Piece.seen IsCut c.disks.disks c.disks.i c.prepare.new.disk c.disks-test.true ends

pub disks-preserved : goal.disks-preserved
disks-preserved g c =
    let ends : PrepareEnds Done c.args.group.now (disk_seen g.P.Piece.seen c.prepare.new.disk) = rw c.in-Done.is at c.prepare.ensures.ends in
    record {
      most = search rules;
      size = search rules;
      prepares = go_on g.P.Piece.seen (Prepares c.args.group.now) (prepares_trans c.args.group.now) _ c.disks.disks c.disks.i c.prepare.new.disk c.index-disks-i.result c.disks-test.true c.disks.invariant.prepares c.prepare.ensures.prepares;
      fresh = rw add-one (fresh_rest g.P.Piece.seen c.args.group.now c.disks.disks c.disks.i c.prepare.new.disk c.disks.invariant.fresh);
      passed = rw add-one (pass_next g.P.Piece.seen FrontsJust _ c.disks.disks c.disks.i c.prepare.new.disk c.index-disks-i.result c.disks-test.true c.disks.invariant.passed (c.prepare.ensures.fronts, c.prepare.ensures.just c.in-Done.is));
      prepared = rw add-one (all_more g.P.Piece.seen (IsPrepared c.args.group.now) c.disks.disks c.disks.i c.prepare.new.disk c.disks.invariant.prepared ends);
    }

pub returns-in-Cut-clause-fronts : goal.returns-in-Cut-clause-fronts
returns-in-Cut-clause-fronts g c = pass_stop g.P.Piece.seen FrontsJust (Fronts 2) front_of (front_none 2) _ c.disks.disks c.disks.i c.prepare.new.disk c.index-disks-i.result c.disks-test.true c.disks.invariant.passed c.prepare.ensures.fronts

pub returns-clause-fronts : goal.returns-clause-fronts
returns-clause-fronts g c = each_map FrontsJust (Fronts 2) front_of _ _ (pass_all g.P.Piece.seen FrontsJust _ c.disks.disks c.disks.i c.disks-test.false c.disks.invariant.passed)

pub returns-clause-just : goal.returns-clause-just
returns-clause-just g c = λ done. each_map FrontsJust (WritesJust 2) just_of _ _ (pass_all g.P.Piece.seen FrontsJust _ c.disks.disks c.disks.i c.disks-test.false c.disks.invariant.passed)

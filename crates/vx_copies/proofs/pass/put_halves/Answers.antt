use Rattle.std.proofs.Common.{◌≡◌, refl, get_or, rules, arith, add-one}
use Rattle.vx_copies.specs.Disks.{disk_seen, Stays, IsReady, HasSpare}
use Rattle.vx_copies.specs.Pass.{HalfEnds}
use Rattle.vx_copies.specs.declared.disk.Pass.TheVariants.{Done}
use Rattle.vx_copies.proofs.StepLaws.{each_refl, each_map, stays_refl, stays_trans, same_refl, same_trans}
use Rattle.vx_copies.proofs.GoodCounts.{all_at, all_set, all_more, go_on}
use Rattle.vx_copies.specs.Steps.{HalfDone, HalfPut}
use Rattle.vx_copies.proofs.Passes.{pass_next, pass_all, pass_stop}
use Rattle.vx_copies.proofs.Touches.{half_put, half_none}
use Rattle.vx_copies.proofs.Stops.{halves_stop}
use Rattle.vx_copies.proofs.pass.put_halves.Goals as goal

pub halves-init : goal.halves-init
halves-init g c = record { most = omega arith; stays = each_refl Stays stays_refl _; ready = c.requires.ready; spare = tt; done = refl; good = each_refl _ same_refl _ }

pub put_half-requires-clause-ready : goal.put_half-requires-clause-ready
put_half-requires-clause-ready g c κs within = all_at g.P.Piece.seen IsReady c.halves.disks c.halves.i c.index-disks-i.result c.halves-test.true c.halves.invariant.ready

pub returns-in_default : goal.returns-in_default
returns-in_default g c = record {
  stays = go_on g.P.Piece.seen Stays stays_trans _ c.halves.disks c.halves.i c.put_half.new.disk c.index-disks-i.result c.halves-test.true c.halves.invariant.stays c.put_half.ensures.stays;
  ends = halves_stop g.P.Piece.seen c.args.text.now _ c.halves.disks c.halves.i c.put_half.new.disk c.index-disks-i.result c.halves-test.true c.halves.invariant.ready c.halves.invariant.good c.put_half.result c.in_default.not-Done c.put_half.ensures.ends;
  puts = pass_stop g.P.Piece.seen (HalfDone c.args.text.now) (HalfPut c.args.text.now) (half_put c.args.text.now) (half_none c.args.text.now) _ c.halves.disks c.halves.i c.put_half.new.disk c.index-disks-i.result c.halves-test.true c.halves.invariant.done c.put_half.ensures.put;
  done = λ is. absurd (c.in_default.not-Done is);
}

pub halves-preserved : goal.halves-preserved
halves-preserved g c =
    let ends : HalfEnds Done c.args.text.now (disk_seen g.P.Piece.seen (get_or c.halves.disks c.halves.i c.index-disks-i.result)) (disk_seen g.P.Piece.seen c.put_half.new.disk) = rw c.in-Done.is at c.put_half.ensures.ends in
    record {
      most = search rules;
      stays = go_on g.P.Piece.seen Stays stays_trans _ c.halves.disks c.halves.i c.put_half.new.disk c.index-disks-i.result c.halves-test.true c.halves.invariant.stays c.put_half.ensures.stays;
      ready = all_set g.P.Piece.seen IsReady c.halves.disks c.halves.i c.put_half.new.disk c.halves.invariant.ready ends.0;
      spare = rw add-one (all_more g.P.Piece.seen (HasSpare c.args.text.now) c.halves.disks c.halves.i c.put_half.new.disk c.halves.invariant.spare ends.1);
      done = rw add-one (pass_next g.P.Piece.seen (HalfDone c.args.text.now) _ c.halves.disks c.halves.i c.put_half.new.disk c.index-disks-i.result c.halves-test.true c.halves.invariant.done (c.put_half.ensures.done c.in-Done.is));
      good = go_on g.P.Piece.seen (λ a b. b.good ≡ a.good) same_trans _ c.halves.disks c.halves.i c.put_half.new.disk c.index-disks-i.result c.halves-test.true c.halves.invariant.good ends.2;
    }

pub returns-clause-puts : goal.returns-clause-puts
returns-clause-puts g c = each_map (HalfDone c.args.text.now) (HalfPut c.args.text.now) (half_put c.args.text.now) _ _ (pass_all g.P.Piece.seen (HalfDone c.args.text.now) _ c.halves.disks c.halves.i c.halves-test.false c.halves.invariant.done)

pub returns-clause-done : goal.returns-clause-done
returns-clause-done g c = λ is. pass_all g.P.Piece.seen (HalfDone c.args.text.now) _ c.halves.disks c.halves.i c.halves-test.false c.halves.invariant.done

use Rattle.std.proofs.Common.{◌≡◌, refl, get_or, rules, arith, add-one, ap, subst, map}
use Rattle.vx_copies.specs.Lists.{AllOf}
use Rattle.std.proofs.lemmas.List.{take_all}
use Rattle.vx_copies.specs.Disks.{disk_seen, Stamps, IsReady, HasSpare, IsOffer}
use Rattle.vx_copies.specs.Pass.{ToggleEnds}
use Rattle.vx_copies.specs.declared.disk.Pass.TheVariants.{Done}
use Rattle.vx_copies.proofs.StepLaws.{each_refl, each_map, stamps_refl, stamps_trans, same_refl, same_trans}
use Rattle.vx_copies.proofs.GoodCounts.{all_at, all_set, all_more, all_first, all_rest, go_on}
use Rattle.vx_copies.proofs.Turns.{all_kept, all_turned, stop_first, rest_more}
use Rattle.vx_copies.specs.Steps.{ToggleDone, TogglePut}
use Rattle.vx_copies.proofs.Passes.{pass_next, pass_all, pass_stop}
use Rattle.vx_copies.proofs.Touches.{toggle_put, toggle_none}
use Rattle.vx_copies.proofs.Stops.{toggles_stop}
use Rattle.vx_copies.proofs.pass.put_toggles.Goals as goal

pub toggles-init : goal.toggles-init
toggles-init g c = record { most = omega arith; size = c.requires.size; stamps = each_refl _ (stamps_refl c.args.sequence c.args.mask c.args.text.now) _; ready = c.requires.ready; spare = c.requires.spare; rest = all_kept _; offer = tt; done = refl; good = each_refl _ same_refl _ }

pub put_toggle-requires-clause-ready : goal.put_toggle-requires-clause-ready
put_toggle-requires-clause-ready g c κs within = all_at g.P.Piece.seen IsReady c.toggles.disks c.toggles.i c.index-disks-i.result c.toggles-test.true c.toggles.invariant.ready

pub put_toggle-requires-clause-spare : goal.put_toggle-requires-clause-spare
put_toggle-requires-clause-spare g c κs within = all_first g.P.Piece.seen (HasSpare c.args.text.now) c.toggles.disks c.toggles.i c.index-disks-i.result c.toggles-test.true c.toggles.invariant.spare

pub returns-in_default-clause-stamps : goal.returns-in_default-clause-stamps
returns-in_default-clause-stamps g c = go_on g.P.Piece.seen (Stamps c.args.sequence c.args.mask c.args.text.now) (stamps_trans c.args.sequence c.args.mask c.args.text.now) _ c.toggles.disks c.toggles.i c.put_toggle.new.disk c.index-disks-i.result c.toggles-test.true c.toggles.invariant.stamps c.put_toggle.ensures.stamps

pub returns-in_default-clause-ends : goal.returns-in_default-clause-ends
returns-in_default-clause-ends g c = toggles_stop g.P.Piece.seen c.args.text.now _ c.toggles.disks c.toggles.i c.put_toggle.new.disk c.index-disks-i.result c.toggles-test.true c.toggles.invariant.ready c.toggles.invariant.good c.put_toggle.result c.args.sequence c.args.mask c.in_default.not-Done c.put_toggle.ensures.ends

pub toggles-preserved : goal.toggles-preserved
toggles-preserved g c =
    let ends : ToggleEnds Done c.args.sequence c.args.mask c.args.text.now (disk_seen g.P.Piece.seen (get_or c.toggles.disks c.toggles.i c.index-disks-i.result)) (disk_seen g.P.Piece.seen c.put_toggle.new.disk) = rw c.in-Done.is at c.put_toggle.ensures.ends in
    record {
      most = search rules;
      size = search rules;
      stamps = go_on g.P.Piece.seen (Stamps c.args.sequence c.args.mask c.args.text.now) (stamps_trans c.args.sequence c.args.mask c.args.text.now) _ c.toggles.disks c.toggles.i c.put_toggle.new.disk c.index-disks-i.result c.toggles-test.true c.toggles.invariant.stamps c.put_toggle.ensures.stamps;
      ready = all_set g.P.Piece.seen IsReady c.toggles.disks c.toggles.i c.put_toggle.new.disk c.toggles.invariant.ready ends.0;
      spare = rw add-one (all_rest g.P.Piece.seen (HasSpare c.args.text.now) c.toggles.disks c.toggles.i c.put_toggle.new.disk c.toggles.invariant.spare);
      rest = rw add-one (rest_more c.args.sequence c.args.mask c.args.text.now g.P.Piece.seen _ c.toggles.disks c.toggles.i c.put_toggle.new.disk c.toggles-test.true c.toggles.invariant.rest);
      offer = rw add-one (all_more g.P.Piece.seen (IsOffer c.args.sequence c.args.mask c.args.text.now) c.toggles.disks c.toggles.i c.put_toggle.new.disk c.toggles.invariant.offer ends.1);
      done = rw add-one (pass_next g.P.Piece.seen (ToggleDone c.args.sequence c.args.mask c.args.text.now) _ c.toggles.disks c.toggles.i c.put_toggle.new.disk c.index-disks-i.result c.toggles-test.true c.toggles.invariant.done (c.put_toggle.ensures.done c.in-Done.is));
      good = go_on g.P.Piece.seen (λ a b. b.good ≡ a.good) same_trans _ c.toggles.disks c.toggles.i c.put_toggle.new.disk c.index-disks-i.result c.toggles-test.true c.toggles.invariant.good ends.2;
    }

pub returns-in_default-clause-first : goal.returns-in_default-clause-first
returns-in_default-clause-first g c = λ tells.
    stop_first c.args.sequence c.args.mask c.args.text.now g.P.Piece.seen _ c.toggles.disks c.toggles.i c.put_toggle.new.disk c.toggles-test.true
    (go_on g.P.Piece.seen (Stamps c.args.sequence c.args.mask c.args.text.now) (stamps_trans c.args.sequence c.args.mask c.args.text.now) _ c.toggles.disks c.toggles.i c.put_toggle.new.disk c.index-disks-i.result c.toggles-test.true c.toggles.invariant.stamps c.put_toggle.ensures.stamps)
    tells c.toggles.invariant.good c.toggles.invariant.offer c.toggles.invariant.rest

pub returns-clause-first : goal.returns-clause-first
returns-clause-first g c = λ tells. all_turned c.args.sequence c.args.mask c.args.text.now _ _ c.toggles.invariant.stamps c.toggles.invariant.good tells
    (subst (AllOf (IsOffer c.args.sequence c.args.mask c.args.text.now)) (ap (map (disk_seen g.P.Piece.seen)) (take_all c.toggles.i c.toggles.disks c.toggles-test.false)) c.toggles.invariant.offer)

pub returns-in_default-clause-puts : goal.returns-in_default-clause-puts
returns-in_default-clause-puts g c = pass_stop g.P.Piece.seen (ToggleDone c.args.sequence c.args.mask c.args.text.now) (TogglePut c.args.sequence c.args.mask c.args.text.now) (toggle_put c.args.sequence c.args.mask c.args.text.now) (toggle_none c.args.sequence c.args.mask c.args.text.now) _ c.toggles.disks c.toggles.i c.put_toggle.new.disk c.index-disks-i.result c.toggles-test.true c.toggles.invariant.done c.put_toggle.ensures.put

pub returns-in_default-clause-done : goal.returns-in_default-clause-done
returns-in_default-clause-done g c = λ is. absurd (c.in_default.not-Done is)

pub returns-clause-puts : goal.returns-clause-puts
returns-clause-puts g c = each_map (ToggleDone c.args.sequence c.args.mask c.args.text.now) (TogglePut c.args.sequence c.args.mask c.args.text.now) (toggle_put c.args.sequence c.args.mask c.args.text.now) _ _ (pass_all g.P.Piece.seen (ToggleDone c.args.sequence c.args.mask c.args.text.now) _ c.toggles.disks c.toggles.i c.toggles-test.false c.toggles.invariant.done)

pub returns-clause-done : goal.returns-clause-done
returns-clause-done g c = λ is. pass_all g.P.Piece.seen (ToggleDone c.args.sequence c.args.mask c.args.text.now) _ c.toggles.disks c.toggles.i c.toggles-test.false c.toggles.invariant.done

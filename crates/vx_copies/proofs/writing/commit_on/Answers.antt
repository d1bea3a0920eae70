use Rattle.std.proofs.Common.{◌≡◌, ◌+◌, ◌∙◌, map, take, refl, sym, ap, subst, arith, false}
use Rattle.std.proofs.lemmas.List.{take-map}
use Rattle.vx_copies.specs.Lists.{Each, AllOf}
use Rattle.vx_copies.specs.Disks.{DiskSeen, disk_seen, good_count}
use Rattle.vx_copies.specs.Commit.{AttemptEnds}
use Rattle.vx_copies.specs.declared.disk.Pass.TheVariants.{Done, Dropped}
use Rattle.vx_copies.proofs.StepLaws.{each_refl, each_map, all_refl, all_risen, each_first}
use Rattle.vx_copies.proofs.GoodCounts.{count_first, same_count}
use Rattle.vx_copies.specs.Written.{IsMaskOf, sectors_of, WritesJust}
use Rattle.vx_copies.proofs.Touches.{touches_none, all_on}
use Rattle.vx_copies.proofs.Records.{Fades, goes_fade, mask_then, mask_before, quiet_before, quiet_count}
use Rattle.vx_copies.proofs.ToggleOrder.{order_below, in_order}
use Rattle.vx_copies.proofs.Leaders.{led_below, members_go}
use Rattle.vx_copies.proofs.Choice.{below_all}
use Rattle.vx_copies.proofs.AfterDone.{older_all}
use Rattle.vx_copies.proofs.Trials.{one_more, count_few}
use Rattle.vx_copies.proofs.writing.commit_on.Goals as goal

pub again-init : goal.again-init
again-init g c =
    let few = count_few g.P.Piece.seen c.args.disks.now in
    record { size = c.requires.size; long = refl; later = omega arith; bound = omega (arith, few, c.requires.count); ready = c.requires.ready; goes = all_refl (c.args.sequence.now + 1) c.args.sequence.now c.args.text.now _; touches = each_refl _ (touches_none (c.args.sequence.now + 1) c.args.sequence.now c.args.text.now _) _; quiet = λ q. (refl, refl); sound = λ group missing others is. is; order = λ group before below. order_below group before c.args.sequence.now _ below; lead = λ group before le below members. led_below group before c.args.carriers _ below }

pub returns-in-Done-clause-goes : goal.returns-in-Done-clause-goes
returns-in-Done-clause-goes g c = one_more (c.args.sequence.now + 1) c.again.sequence c.args.text.now _ _ _ (omega (arith, c.again.invariant.later)) c.again.invariant.goes c.attempt.ensures.goes

pub returns-in-Done-clause-ends : goal.returns-in-Done-clause-ends
returns-in-Done-clause-ends g c =
    let ends : AttemptEnds Done (c.again.sequence + 1) c.args.text.now (map (disk_seen g.P.Piece.seen) c.again.disks) (map (disk_seen g.P.Piece.seen) c.attempt.new.disks) = rw c.in-Done.is at c.attempt.ensures.ends in
    let same : good_count (take c.args.carriers (map (disk_seen g.P.Piece.seen) c.attempt.new.disks)) ≡ good_count (take c.args.carriers (map (disk_seen g.P.Piece.seen) c.again.disks)) =
    same_count _ _ (each_first _ c.args.carriers _ _ ends.2) in
    let some = c.any_good.ensures.some c.again-test.true in
    let there : good_count (map (disk_seen g.P.Piece.seen) (take c.args.carriers c.again.disks)) ≡ good_count (take c.args.carriers (map (disk_seen g.P.Piece.seen) c.again.disks)) = ap good_count (sym (take-map (disk_seen g.P.Piece.seen) c.args.carriers c.again.disks)) in
    (ends.0, ends.1, omega (arith, same, some, there))

pub returns-in-Done-clause-older : goal.returns-in-Done-clause-older
returns-in-Done-clause-older g c = λ group below.
    let ends : AttemptEnds Done (c.again.sequence + 1) c.args.text.now (map (disk_seen g.P.Piece.seen) c.again.disks) (map (disk_seen g.P.Piece.seen) c.attempt.new.disks) = rw c.in-Done.is at c.attempt.ensures.ends in
    let mids = below_all group c.args.sequence.now c.again.sequence c.args.text.now (map (disk_seen g.P.Piece.seen) c.args.disks.now) (map (disk_seen g.P.Piece.seen) c.again.disks) c.again.invariant.later below c.again.invariant.goes in
    older_all group c.again.sequence (c.again.sequence + 1) c.args.text.now (map (disk_seen g.P.Piece.seen) c.again.disks) (map (disk_seen g.P.Piece.seen) c.attempt.new.disks) (omega arith) mids c.attempt.ensures.goes ends.2

pub returns-in-Done-clause-sound : goal.returns-in-Done-clause-sound
returns-in-Done-clause-sound g c = λ group missing others is.
    let some = c.any_good.ensures.some c.again-test.true in
    let there : good_count (map (disk_seen g.P.Piece.seen) (take c.args.carriers c.again.disks)) ≡ good_count (take c.args.carriers (map (disk_seen g.P.Piece.seen) c.again.disks)) = ap good_count (sym (take-map (disk_seen g.P.Piece.seen) c.args.carriers c.again.disks)) in
    c.attempt.ensures.sound group missing others c.again.sequence c.args.carriers (omega arith) (omega (arith, some, there)) (c.again.invariant.sound group missing others is)

pub returns-in-Done-clause-all : goal.returns-in-Done-clause-all
returns-in-Done-clause-all g c = λ group missing others is.
    let some = c.any_good.ensures.some c.again-test.true in
    let there : good_count (map (disk_seen g.P.Piece.seen) (take c.args.carriers c.again.disks)) ≡ good_count (take c.args.carriers (map (disk_seen g.P.Piece.seen) c.again.disks)) = ap good_count (sym (take-map (disk_seen g.P.Piece.seen) c.args.carriers c.again.disks)) in
    rw c.again.invariant.long at c.attempt.ensures.all group missing others c.again.sequence c.args.carriers (omega arith) (omega (arith, some, there)) (c.again.invariant.sound group missing others is) c.in-Done.is

pub returns-in-Done-clause-few : goal.returns-in-Done-clause-few
returns-in-Done-clause-few g c =
    let some = c.any_good.ensures.some c.again-test.true in
    let there : good_count (map (disk_seen g.P.Piece.seen) (take c.args.carriers c.again.disks)) ≡ good_count (take c.args.carriers (map (disk_seen g.P.Piece.seen) c.again.disks)) = ap good_count (sym (take-map (disk_seen g.P.Piece.seen) c.args.carriers c.again.disks)) in
    let few = count_first c.args.carriers (map (disk_seen g.P.Piece.seen) c.again.disks) in
    omega (arith, some, there, few, c.again.invariant.bound)

pub returns-in-Cut-clause-goes : goal.returns-in-Cut-clause-goes
returns-in-Cut-clause-goes g c = one_more (c.args.sequence.now + 1) c.again.sequence c.args.text.now _ _ _ (omega (arith, c.again.invariant.later)) c.again.invariant.goes c.attempt.ensures.goes

pub returns-in-Cut-clause-sound : goal.returns-in-Cut-clause-sound
returns-in-Cut-clause-sound g c = λ group missing others is.
    let some = c.any_good.ensures.some c.again-test.true in
    let there : good_count (map (disk_seen g.P.Piece.seen) (take c.args.carriers c.again.disks)) ≡ good_count (take c.args.carriers (map (disk_seen g.P.Piece.seen) c.again.disks)) = ap good_count (sym (take-map (disk_seen g.P.Piece.seen) c.args.carriers c.again.disks)) in
    c.attempt.ensures.sound group missing others c.again.sequence c.args.carriers (omega arith) (omega (arith, some, there)) (c.again.invariant.sound group missing others is)

pub returns-in-Cut-clause-few : goal.returns-in-Cut-clause-few
returns-in-Cut-clause-few g c =
    let some = c.any_good.ensures.some c.again-test.true in
    let there : good_count (map (disk_seen g.P.Piece.seen) (take c.args.carriers c.again.disks)) ≡ good_count (take c.args.carriers (map (disk_seen g.P.Piece.seen) c.again.disks)) = ap good_count (sym (take-map (disk_seen g.P.Piece.seen) c.args.carriers c.again.disks)) in
    let few = count_first c.args.carriers (map (disk_seen g.P.Piece.seen) c.again.disks) in
    omega (arith, some, there, few, c.again.invariant.bound)

pub again-preserved : goal.again-preserved
again-preserved g c =
    let first : Each Fades (map (disk_seen g.P.Piece.seen) c.args.disks.now) (map (disk_seen g.P.Piece.seen) c.again.disks) = each_map _ Fades (goes_fade (c.args.sequence.now + 1) c.again.sequence c.args.text.now) _ _ c.again.invariant.goes in
    let next : Each Fades (map (disk_seen g.P.Piece.seen) c.again.disks) (map (disk_seen g.P.Piece.seen) c.attempt.new.disks) = each_map _ Fades (goes_fade (c.again.sequence + 1) (c.again.sequence + 1) c.args.text.now) _ _ c.attempt.ensures.goes in
    let ends : AttemptEnds Dropped (c.again.sequence + 1) c.args.text.now (map (disk_seen g.P.Piece.seen) c.again.disks) (map (disk_seen g.P.Piece.seen) c.attempt.new.disks) = rw c.in-Dropped.is at c.attempt.ensures.ends in
    let less = ends.1 in
    let some = c.any_good.ensures.some c.again-test.true in
    let there : good_count (map (disk_seen g.P.Piece.seen) (take c.args.carriers c.again.disks)) ≡ good_count (take c.args.carriers (map (disk_seen g.P.Piece.seen) c.again.disks)) = ap good_count (sym (take-map (disk_seen g.P.Piece.seen) c.args.carriers c.again.disks)) in
    record {
      size = c.attempt.ensures.size;
      touches = all_on (c.args.sequence.now + 1) c.again.sequence c.args.text.now c.requires.padded.fits (IsMaskOf (map (disk_seen g.P.Piece.seen) c.args.disks.now) (map (disk_seen g.P.Piece.seen) c.again.disks)) (IsMaskOf (map (disk_seen g.P.Piece.seen) c.again.disks) (map (disk_seen g.P.Piece.seen) c.attempt.new.disks)) (IsMaskOf (map (disk_seen g.P.Piece.seen) c.args.disks.now) (map (disk_seen g.P.Piece.seen) c.attempt.new.disks)) (mask_then (map (disk_seen g.P.Piece.seen) c.args.disks.now) (map (disk_seen g.P.Piece.seen) c.again.disks) (map (disk_seen g.P.Piece.seen) c.attempt.new.disks) next) (mask_before (map (disk_seen g.P.Piece.seen) c.args.disks.now) (map (disk_seen g.P.Piece.seen) c.again.disks) (map (disk_seen g.P.Piece.seen) c.attempt.new.disks) first next) (omega (arith, c.again.invariant.later)) _ _ _ c.again.invariant.ready c.attempt.ensures.goes c.again.invariant.touches c.attempt.ensures.touches;
      quiet = λ quiet.
          let count = quiet_count (map (disk_seen g.P.Piece.seen) c.args.disks.now) (map (disk_seen g.P.Piece.seen) c.attempt.new.disks) (each_map _ Fades (goes_fade (c.args.sequence.now + 1) (c.again.sequence + 1) c.args.text.now) _ _ (one_more (c.args.sequence.now + 1) c.again.sequence c.args.text.now _ _ _ (omega (arith, c.again.invariant.later)) c.again.invariant.goes c.attempt.ensures.goes)) quiet in
          let before = ap good_count (c.again.invariant.quiet (quiet_before (map (disk_seen g.P.Piece.seen) c.args.disks.now) (map (disk_seen g.P.Piece.seen) c.again.disks) (map (disk_seen g.P.Piece.seen) c.attempt.new.disks) first next quiet)).0 in
          absurd (omega (arith, less, count, before));
      long = c.attempt.auto.disks ∙ c.again.invariant.long;
      later = omega (arith, c.again.invariant.later);
      bound = omega (arith, less, c.again.invariant.bound);
      ready = ends.0;
      goes = one_more (c.args.sequence.now + 1) c.again.sequence c.args.text.now _ _ _ (omega (arith, c.again.invariant.later)) c.again.invariant.goes c.attempt.ensures.goes;
      sound = λ group missing others is. c.attempt.ensures.sound group missing others c.again.sequence c.args.carriers (omega arith) (omega (arith, some, there)) (c.again.invariant.sound group missing others is);
      lead = λ group before le below members. c.attempt.ensures.lead group before c.args.carriers (omega (arith, le, c.again.invariant.later)) (omega (arith, some, there))
          (members_go group (c.args.sequence.now + 1) c.again.sequence c.args.text.now _ _ (each_first _ c.args.carriers _ _ c.again.invariant.goes) members) (c.again.invariant.lead group before le below members);
      order = λ group before below. c.attempt.ensures.order group before c.again.sequence (omega arith) (c.again.invariant.order group before below);
    }

pub returns-clause-ends : goal.returns-clause-ends
returns-clause-ends g c =
    all_risen (c.args.sequence.now + 1) c.again.sequence c.args.text.now _ _ (each_first _ c.args.carriers _ _ c.again.invariant.goes)
    (subst (AllOf (λ (h : DiskSeen). h.good ≡ false)) (sym (take-map (disk_seen g.P.Piece.seen) c.args.carriers c.again.disks)) (c.any_good.ensures.none c.again-test.false))

pub returns-in-Done-clause-recorded : goal.returns-in-Done-clause-recorded
returns-in-Done-clause-recorded g c =
    let first : Each Fades (map (disk_seen g.P.Piece.seen) c.args.disks.now) (map (disk_seen g.P.Piece.seen) c.again.disks) = each_map _ Fades (goes_fade (c.args.sequence.now + 1) c.again.sequence c.args.text.now) _ _ c.again.invariant.goes in
    let next : Each Fades (map (disk_seen g.P.Piece.seen) c.again.disks) (map (disk_seen g.P.Piece.seen) c.attempt.new.disks) = each_map _ Fades (goes_fade (c.again.sequence + 1) (c.again.sequence + 1) c.args.text.now) _ _ c.attempt.ensures.goes in
    record {
      touches = all_on (c.args.sequence.now + 1) c.again.sequence c.args.text.now c.requires.padded.fits (IsMaskOf (map (disk_seen g.P.Piece.seen) c.args.disks.now) (map (disk_seen g.P.Piece.seen) c.again.disks)) (IsMaskOf (map (disk_seen g.P.Piece.seen) c.again.disks) (map (disk_seen g.P.Piece.seen) c.attempt.new.disks)) (IsMaskOf (map (disk_seen g.P.Piece.seen) c.args.disks.now) (map (disk_seen g.P.Piece.seen) c.attempt.new.disks)) (mask_then (map (disk_seen g.P.Piece.seen) c.args.disks.now) (map (disk_seen g.P.Piece.seen) c.again.disks) (map (disk_seen g.P.Piece.seen) c.attempt.new.disks) next) (mask_before (map (disk_seen g.P.Piece.seen) c.args.disks.now) (map (disk_seen g.P.Piece.seen) c.again.disks) (map (disk_seen g.P.Piece.seen) c.attempt.new.disks) first next) (omega (arith, c.again.invariant.later)) _ _ _ c.again.invariant.ready c.attempt.ensures.goes c.again.invariant.touches c.attempt.ensures.touches;
      once = λ quiet. let same = (c.again.invariant.quiet (quiet_before (map (disk_seen g.P.Piece.seen) c.args.disks.now) (map (disk_seen g.P.Piece.seen) c.again.disks) (map (disk_seen g.P.Piece.seen) c.attempt.new.disks) first next quiet)).1 in omega (arith, same);
    }

pub returns-in-Cut-clause-recorded : goal.returns-in-Cut-clause-recorded
returns-in-Cut-clause-recorded g c =
    let first : Each Fades (map (disk_seen g.P.Piece.seen) c.args.disks.now) (map (disk_seen g.P.Piece.seen) c.again.disks) = each_map _ Fades (goes_fade (c.args.sequence.now + 1) c.again.sequence c.args.text.now) _ _ c.again.invariant.goes in
    let next : Each Fades (map (disk_seen g.P.Piece.seen) c.again.disks) (map (disk_seen g.P.Piece.seen) c.attempt.new.disks) = each_map _ Fades (goes_fade (c.again.sequence + 1) (c.again.sequence + 1) c.args.text.now) _ _ c.attempt.ensures.goes in
    record {
      touches = all_on (c.args.sequence.now + 1) c.again.sequence c.args.text.now c.requires.padded.fits (IsMaskOf (map (disk_seen g.P.Piece.seen) c.args.disks.now) (map (disk_seen g.P.Piece.seen) c.again.disks)) (IsMaskOf (map (disk_seen g.P.Piece.seen) c.again.disks) (map (disk_seen g.P.Piece.seen) c.attempt.new.disks)) (IsMaskOf (map (disk_seen g.P.Piece.seen) c.args.disks.now) (map (disk_seen g.P.Piece.seen) c.attempt.new.disks)) (mask_then (map (disk_seen g.P.Piece.seen) c.args.disks.now) (map (disk_seen g.P.Piece.seen) c.again.disks) (map (disk_seen g.P.Piece.seen) c.attempt.new.disks) next) (mask_before (map (disk_seen g.P.Piece.seen) c.args.disks.now) (map (disk_seen g.P.Piece.seen) c.again.disks) (map (disk_seen g.P.Piece.seen) c.attempt.new.disks) first next) (omega (arith, c.again.invariant.later)) _ _ _ c.again.invariant.ready c.attempt.ensures.goes c.again.invariant.touches c.attempt.ensures.touches;
      once = λ quiet. let same = (c.again.invariant.quiet (quiet_before (map (disk_seen g.P.Piece.seen) c.args.disks.now) (map (disk_seen g.P.Piece.seen) c.again.disks) (map (disk_seen g.P.Piece.seen) c.attempt.new.disks) first next quiet)).1 in omega (arith, same);
    }

pub returns-in-Done-clause-done : goal.returns-in-Done-clause-done
returns-in-Done-clause-done g c = record { some = (returns-in-Done-clause-ends g c).2; current = (c.attempt.ensures.done c.in-Done.is).1 }

pub returns-in-Done-clause-exact : goal.returns-in-Done-clause-exact
returns-in-Done-clause-exact g c =
    let first : Each Fades (map (disk_seen g.P.Piece.seen) c.args.disks.now) (map (disk_seen g.P.Piece.seen) c.again.disks) = each_map _ Fades (goes_fade (c.args.sequence.now + 1) c.again.sequence c.args.text.now) _ _ c.again.invariant.goes in
    let next : Each Fades (map (disk_seen g.P.Piece.seen) c.again.disks) (map (disk_seen g.P.Piece.seen) c.attempt.new.disks) = each_map _ Fades (goes_fade (c.again.sequence + 1) (c.again.sequence + 1) c.args.text.now) _ _ c.attempt.ensures.goes in
    let done = c.attempt.ensures.done c.in-Done.is in
    λ quiet. subst (λ hs. Each (WritesJust (sectors_of c.args.text.now)) hs (map (disk_seen g.P.Piece.seen) c.attempt.new.disks)) (c.again.invariant.quiet (quiet_before (map (disk_seen g.P.Piece.seen) c.args.disks.now) (map (disk_seen g.P.Piece.seen) c.again.disks) (map (disk_seen g.P.Piece.seen) c.attempt.new.disks) first next quiet)).0 done.0

pub returns-clause-recorded : goal.returns-clause-recorded
returns-clause-recorded g c = record { touches = c.again.invariant.touches; once = λ quiet. let same = (c.again.invariant.quiet quiet).1 in omega (arith, same) }

pub returns-in-Done-clause-order : goal.returns-in-Done-clause-order
returns-in-Done-clause-order g c = λ group before below. in_order group before (c.again.sequence + 1) _ (c.attempt.ensures.order group before c.again.sequence (omega arith) (c.again.invariant.order group before below))

pub returns-in-Cut-clause-order : goal.returns-in-Cut-clause-order
returns-in-Cut-clause-order g c = λ group before below. in_order group before (c.again.sequence + 1) _ (c.attempt.ensures.order group before c.again.sequence (omega arith) (c.again.invariant.order group before below))

pub returns-clause-order : goal.returns-clause-order
returns-clause-order g c = λ group before below. in_order group before c.again.sequence _ (c.again.invariant.order group before below)

pub returns-in-Done-clause-lead : goal.returns-in-Done-clause-lead
returns-in-Done-clause-lead g c = λ group before le below members.
    let some = c.any_good.ensures.some c.again-test.true in
    let there : good_count (map (disk_seen g.P.Piece.seen) (take c.args.carriers c.again.disks)) ≡ good_count (take c.args.carriers (map (disk_seen g.P.Piece.seen) c.again.disks)) = ap good_count (sym (take-map (disk_seen g.P.Piece.seen) c.args.carriers c.again.disks)) in
    c.attempt.ensures.lead group before c.args.carriers (omega (arith, le, c.again.invariant.later)) (omega (arith, some, there))
    (members_go group (c.args.sequence.now + 1) c.again.sequence c.args.text.now _ _ (each_first _ c.args.carriers _ _ c.again.invariant.goes) members) (c.again.invariant.lead group before le below members)

pub returns-in-Cut-clause-lead : goal.returns-in-Cut-clause-lead
returns-in-Cut-clause-lead g c = λ group before le below members.
    let some = c.any_good.ensures.some c.again-test.true in
    let there : good_count (map (disk_seen g.P.Piece.seen) (take c.args.carriers c.again.disks)) ≡ good_count (take c.args.carriers (map (disk_seen g.P.Piece.seen) c.again.disks)) = ap good_count (sym (take-map (disk_seen g.P.Piece.seen) c.args.carriers c.again.disks)) in
    c.attempt.ensures.lead group before c.args.carriers (omega (arith, le, c.again.invariant.later)) (omega (arith, some, there))
    (members_go group (c.args.sequence.now + 1) c.again.sequence c.args.text.now _ _ (each_first _ c.args.carriers _ _ c.again.invariant.goes) members) (c.again.invariant.lead group before le below members)

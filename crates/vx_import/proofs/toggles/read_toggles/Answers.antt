use Rattle.std.proofs.Common.{rules, arith, add-one, refl}
use Rattle.vx_copies.proofs.StepLaws.{each_refl}
use Rattle.vx_import.specs.Looks.{looked, IsPrivate, HasReading}
use Rattle.vx_import.specs.Toggles.{Passes, IsUnread, IsOff, PassedOne}
use Rattle.vx_import.specs.declared.toggles.Passed.TheVariants.{Done, Cut}
use Rattle.vx_import.proofs.Looks.{any_set}
use Rattle.vx_import.proofs.Passes.{passes_refl, first_same, pass_next, rest_next, all_more}
use Rattle.vx_import.proofs.toggles.read_toggles.Goals as goal

pub devices-init : goal.devices-init
devices-init g c = record { most = omega arith; size = c.requires.size; passes = each_refl Passes passes_refl _; rest = refl; done = tt }

pub add_toggle-requires-clause-private : goal.add_toggle-requires-clause-private
add_toggle-requires-clause-private g c κs within = first_same g.P.Piece.seen IsPrivate _ c.devices.found c.devices.i c.index-found-i.result c.devices-test.true c.devices.invariant.passes c.devices.invariant.rest c.requires.private

pub add_toggle-requires-clause-readable : goal.add_toggle-requires-clause-readable
add_toggle-requires-clause-readable g c κs within = first_same g.P.Piece.seen IsUnread _ c.devices.found c.devices.i c.index-found-i.result c.devices-test.true c.devices.invariant.passes c.devices.invariant.rest c.requires.unread

pub returns-in-Cut-clause-passes : goal.returns-in-Cut-clause-passes
returns-in-Cut-clause-passes g c = pass_next g.P.Piece.seen _ c.devices.found c.devices.i c.add_toggle.new.found c.index-found-i.result c.devices-test.true c.devices.invariant.passes c.devices.invariant.rest c.add_toggle.ensures.passes

pub returns-in-Cut-clause-ends : goal.returns-in-Cut-clause-ends
returns-in-Cut-clause-ends g c =
    let ends : PassedOne Cut (looked g.P.Piece.seen c.add_toggle.new.found) = rw c.in-Cut.is at c.add_toggle.ensures.ends in
    any_set g.P.Piece.seen IsOff c.devices.found c.devices.i c.add_toggle.new.found c.devices-test.true ends

pub devices-preserved : goal.devices-preserved
devices-preserved g c =
    let ends : PassedOne Done (looked g.P.Piece.seen c.add_toggle.new.found) = rw c.in-Done.is at c.add_toggle.ensures.ends in
    record {
      most = search rules;
      size = search rules;
      passes = pass_next g.P.Piece.seen _ c.devices.found c.devices.i c.add_toggle.new.found c.index-found-i.result c.devices-test.true c.devices.invariant.passes c.devices.invariant.rest c.add_toggle.ensures.passes;
      rest = rw add-one (rest_next g.P.Piece.seen _ c.devices.found c.devices.i c.add_toggle.new.found c.devices.invariant.passes c.devices.invariant.rest);
      done = rw add-one (all_more g.P.Piece.seen HasReading c.devices.found c.devices.i c.add_toggle.new.found c.devices.invariant.done ends);
    }

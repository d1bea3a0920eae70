use Rattle.std.proofs.Common.{◌≡◌, map, get_or, sym, subst, arith, add-one}
use Rattle.std.specs.Cmp.Lexicographic.{slice_cmp}
use Rattle.std.specs.Ordering.{nat_cmp}
use Rattle.std.specs.declared.cmp.Ordering.TheVariants.{Less}
use Rattle.vx_import.specs.Looks.{looked}
use Rattle.vx_house.specs.Scene.{shelved}
use Rattle.vx_stage_import.specs.Finds.{AllBefore}
use Rattle.vx_stage_import.proofs.Gathers.{pass_named, gather_next, gather_cut, gather_starved, gather_none, gather_all, before_first}
use Rattle.vx_stage_import.proofs.Names.{rising_at}
use Rattle.vx_stage_import.proofs.gathering.gather.Goals as goal

pub names-init : goal.names-init
names-init g c = record {
  most = omega arith;
  finds = c.requires.finds;
  before = λ j d le lt. before_first g.S.P.Piece.seen c.args.finds.now.items (get_or c.args.names.now j d) c.requires.none;
  goes = λ others are. gather_none g.S.P.Piece.seen c.args.dg.now c.args.names.now (shelved g.S.Shelf.free g.S.Shelf.held g.S.Shelf.counted g.S.Shelf.faults c.args.shelf.now) others c.args.finds.now.items c.requires.none are;
}

pub names-preserved : goal.names-preserved
names-preserved g c = record {
  most = omega (arith, c.names-test.true);
  finds = c.pass.ensures.finds;
  before = λ j d le lt. c.pass.ensures.before (get_or c.args.names.now j d) (c.names.invariant.before j d (omega (arith, le)) lt)
      (subst (λ n. slice_cmp nat_cmp n (get_or c.args.names.now j d) ≡ Less) (sym c.index-names-i.is) (rising_at c.args.names.now c.names.i j c.index-names-i.result d c.requires.rising (omega (arith, le)) lt));
  goes = λ others are. rw add-one
      (gather_next c.args.dg.now (shelved g.S.Shelf.free g.S.Shelf.held g.S.Shelf.counted g.S.Shelf.faults c.args.shelf.now) others
      (shelved g.S.Shelf.free g.S.Shelf.held g.S.Shelf.counted g.S.Shelf.faults c.names.shelf) (shelved g.S.Shelf.free g.S.Shelf.held g.S.Shelf.counted g.S.Shelf.faults c.pass.new.shelf)
      (map (looked g.S.P.Piece.seen) c.names.finds.items) (map (looked g.S.P.Piece.seen) c.pass.new.finds.items)
      c.args.names.now c.names.i c.index-names-i.result c.requires.rising c.names-test.true (c.names.invariant.before c.names.i c.index-names-i.result (omega arith) c.names-test.true) c.pass.ensures.more
      (c.names.invariant.goes others are)
      (pass_named _ _ _ _ _ _ _ _ c.in-Done.is c.index-names-i.is (c.pass.ensures.goes others (c.names.invariant.goes others are).held)));
}

pub returns-in-Cut-clause-goes : goal.returns-in-Cut-clause-goes
returns-in-Cut-clause-goes g c = λ others are.
    gather_cut c.args.dg.now (shelved g.S.Shelf.free g.S.Shelf.held g.S.Shelf.counted g.S.Shelf.faults c.args.shelf.now) others
    (shelved g.S.Shelf.free g.S.Shelf.held g.S.Shelf.counted g.S.Shelf.faults c.names.shelf) (shelved g.S.Shelf.free g.S.Shelf.held g.S.Shelf.counted g.S.Shelf.faults c.pass.new.shelf)
    (map (looked g.S.P.Piece.seen) c.names.finds.items) (map (looked g.S.P.Piece.seen) c.pass.new.finds.items) c.args.names.now c.names.i c.index-names-i.result c.requires.rising c.names-test.true
    (c.names.invariant.goes others are) (pass_named _ _ _ _ _ _ _ _ c.in-Cut.is c.index-names-i.is (c.pass.ensures.goes others (c.names.invariant.goes others are).held))

pub returns-in-OutOfMemory-clause-goes : goal.returns-in-OutOfMemory-clause-goes
returns-in-OutOfMemory-clause-goes g c = λ others are.
    gather_starved c.args.dg.now (shelved g.S.Shelf.free g.S.Shelf.held g.S.Shelf.counted g.S.Shelf.faults c.args.shelf.now) others
    (shelved g.S.Shelf.free g.S.Shelf.held g.S.Shelf.counted g.S.Shelf.faults c.names.shelf) (shelved g.S.Shelf.free g.S.Shelf.held g.S.Shelf.counted g.S.Shelf.faults c.pass.new.shelf)
    (map (looked g.S.P.Piece.seen) c.names.finds.items) (map (looked g.S.P.Piece.seen) c.pass.new.finds.items) c.args.names.now c.names.i c.index-names-i.result c.requires.rising c.names-test.true
    (c.names.invariant.goes others are) (pass_named _ _ _ _ _ _ _ _ c.in-OutOfMemory.is c.index-names-i.is (c.pass.ensures.goes others (c.names.invariant.goes others are).held))

pub returns-clause-goes : goal.returns-clause-goes
returns-clause-goes g c = λ others are. gather_all c.args.dg.now c.args.names.now c.names.i _ _ _ (omega (arith, c.names-test.false)) (c.names.invariant.goes others are)

pub pass-requires-clause-before : goal.pass-requires-clause-before
pass-requires-clause-before g c κs within = subst (AllBefore (map (looked g.S.P.Piece.seen) c.names.finds.items)) (sym c.index-names-i.is) (c.names.invariant.before c.names.i c.index-names-i.result (omega arith) c.names-test.true)

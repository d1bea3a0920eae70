use Rattle.std.proofs.Common.{◌≡◌, ◌∙◌, ◌++◌, ◌+◌, ◌≤◌, [], ◌∷◌, length, refl, ap, arith, rules}
use Rattle.std.proofs.lemmas.List.{length-append}
use Rattle.vx_mask.specs.Mask.{has}
use Rattle.vx_stage_import.specs.Giving.{disk_holders}
use Rattle.vx_stage_import.proofs.Returns.{last_taken, disks_then, at_most_one, sorted_goes, sort_begins, sort_ends, disks_end, disks_begin}
use Rattle.vx_stage_import.proofs.sorting.sort_out.Goals as goal

pub sort_one-requires-clause-whole : goal.sort_one-requires-clause-whole
sort_one-requires-clause-whole g c κs within =
    (last_taken g.S.P.Piece.seen c.loop-one.finds.items c.pop.new.self.items c.in-Some.one (rw c.in-Some.is at c.pop.ensures.items) c.requires.held.0 (disk_holders g.S.P.Piece.seen c.loop-one.disks.items) (g.S.Shelf.held c.loop-one.shelf) (c.loop-one.invariant.goes c.requires.held.0 c.requires.held.1).held).0

pub sort_one-requires-clause-out : goal.sort_one-requires-clause-out
sort_one-requires-clause-out g c κs within =
    (last_taken g.S.P.Piece.seen c.loop-one.finds.items c.pop.new.self.items c.in-Some.one (rw c.in-Some.is at c.pop.ensures.items) c.requires.held.0 (disk_holders g.S.P.Piece.seen c.loop-one.disks.items) (g.S.Shelf.held c.loop-one.shelf) (c.loop-one.invariant.goes c.requires.held.0 c.requires.held.1).held).1

pub loop-one-init : goal.loop-one-init
loop-one-init g c = record {
  few = let e = ap length c.requires.none in omega (arith, e, c.requires.few);
  room = c.requires.room;
  disks = disks_begin g.S.P.Piece.seen _ c.args.disks.now.items c.requires.none;
  goes = λ others are. sort_begins g.S.P.Piece.seen others _ c.args.disks.now.items _ c.requires.none are;
}

pub loop-one-preserved : goal.loop-one-preserved
loop-one-preserved g c =
    let was : c.loop-one.finds.items ≡ c.pop.new.self.items ++ c.in-Some.one ∷ [] = rw c.in-Some.is at c.pop.ensures.items in
    let one : length c.loop-one.finds.items ≡ length c.pop.new.self.items + 1 = ap length was ∙ length-append c.pop.new.self.items (c.in-Some.one ∷ []) in
    let count : length c.sort_one.new.disks.items ≤ 1 + length c.loop-one.disks.items = at_most_one g.S.P.Piece.seen c.args.good c.loop-one.finds.items c.pop.new.self.items c.in-Some.one was c.loop-one.disks.items c.sort_one.new.disks.items _ _ (has c.args.good c.in-Some.one.header.slot) c.sort_one.ensures.sorted in
    record {
      few = omega (arith, one, count, c.loop-one.invariant.few);
      room = omega (arith, c.loop-one.invariant.room, c.sort_one.ensures.room);
      disks = disks_then g.S.P.Piece.seen c.args.good c.loop-one.finds.items c.pop.new.self.items c.in-Some.one was c.loop-one.disks.items c.sort_one.new.disks.items _ _ (has c.args.good c.in-Some.one.header.slot) c.sort_one.ensures.sorted _ refl c.loop-one.invariant.disks;
      goes = λ others are. sorted_goes g.S.P.Piece.seen c.args.good c.loop-one.finds.items c.pop.new.self.items c.in-Some.one was c.loop-one.disks.items c.sort_one.new.disks.items _ _ (has c.args.good c.in-Some.one.header.slot) c.sort_one.ensures.sorted others _ (c.loop-one.invariant.goes others are);
    }

pub returns-clause-disks : goal.returns-clause-disks
returns-clause-disks g c = disks_end g.S.P.Piece.seen c.args.good c.loop-one.finds.items _ c.loop-one.disks.items (search rules) c.loop-one.invariant.disks

pub returns-clause-goes : goal.returns-clause-goes
returns-clause-goes g c = λ others are. sort_ends g.S.P.Piece.seen others c.loop-one.finds.items _ _ _ (search rules) (c.loop-one.invariant.goes others are)

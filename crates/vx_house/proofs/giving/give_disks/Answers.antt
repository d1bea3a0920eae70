use Rattle.std.proofs.Common.{◌≡◌, [], ◌∷◌, ◌++◌}
use Rattle.vx_house.specs.Holders.{disk_holder}
use Rattle.vx_house.proofs.Returns.{taken_last, apart_rest, each_rest, gives_last}
use Rattle.vx_house.proofs.giving.give_disks.Goals as goal

pub give_disk-requires-clause-whole : goal.give_disk-requires-clause-whole
give_disk-requires-clause-whole g c κs within =
    (taken_last (disk_holder g.S.P.Piece.seen) c.loop-disk.disks.items c.pop.new.self.items c.in-Some.disk (rw c.in-Some.is at c.pop.ensures.items) (g.S.Shelf.held c.loop-disk.shelf) c.loop-disk.invariant.each).0

pub give_disk-requires-clause-out : goal.give_disk-requires-clause-out
give_disk-requires-clause-out g c κs within =
    (taken_last (disk_holder g.S.P.Piece.seen) c.loop-disk.disks.items c.pop.new.self.items c.in-Some.disk (rw c.in-Some.is at c.pop.ensures.items) (g.S.Shelf.held c.loop-disk.shelf) c.loop-disk.invariant.each).1

pub loop-disk-preserved : goal.loop-disk-preserved
loop-disk-preserved g c =
    let was : c.loop-disk.disks.items ≡ c.pop.new.self.items ++ c.in-Some.disk ∷ [] = rw c.in-Some.is at c.pop.ensures.items in
    record {
      each = each_rest (disk_holder g.S.P.Piece.seen) c.loop-disk.disks.items c.pop.new.self.items c.in-Some.disk was (g.S.Shelf.held c.loop-disk.shelf) (g.S.Shelf.held c.give_disk.new.shelf) c.give_disk.ensures.given c.loop-disk.invariant.apart c.loop-disk.invariant.each;
      apart = apart_rest (disk_holder g.S.P.Piece.seen) c.loop-disk.disks.items c.pop.new.self.items c.in-Some.disk was c.loop-disk.invariant.apart;
      back = λ k rest. c.loop-disk.invariant.back k (gives_last (disk_holder g.S.P.Piece.seen) c.loop-disk.disks.items c.pop.new.self.items c.in-Some.disk was _ _ k c.give_disk.ensures.back rest);
    }

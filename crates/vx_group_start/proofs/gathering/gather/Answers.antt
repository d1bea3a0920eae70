-- What is left of one volume is put in, or stays.
use Rattle.std.proofs.Common.{rules, ◌≡◌, ◌++◌, [], ◌∷◌, map}
use Rattle.vx_carve.proofs.Same.{same_trans}
use Rattle.vx_lending.specs.Public.{remaining_pieces}
use Rattle.vx_group_start.proofs.Stills.{still_again, still_less}
use Rattle.vx_group_start.proofs.gathering.gather.Goals as goal

pub left-preserved : goal.left-preserved
left-preserved g c =
    let items : c.left.public.left.items ≡ c.pop.new.self.items ++ c.in-Some.remains ∷ [] = search rules in
    record {
      same = same_trans _ _ _ c.left.invariant.same
          (still_less (remaining_pieces g.P.Piece.seen) c.left.public.left.items c.pop.new.self.items c.in-Some.remains (map g.P.Piece.seen c.left.public.pool.items.items) (map g.P.Piece.seen c.put_again.new.pool.items.items) items c.in_default-put_again.ensures.put);
      running = c.left.invariant.running;
      stuck = c.left.invariant.stuck;
    }

pub returns-in-Err-clause-still : goal.returns-in-Err-clause-still
returns-in-Err-clause-still g c =
    let items : c.left.public.left.items ≡ c.pop.new.self.items ++ c.in-Some.remains ∷ [] = search rules in
    same_trans _ _ _ c.left.invariant.same
    (still_again (remaining_pieces g.P.Piece.seen) c.left.public.left.items c.pop.new.self.items c.push_reserved.new.self.items c.in-Some.remains c.in-Err.remains (map g.P.Piece.seen c.left.public.pool.items.items) (map g.P.Piece.seen c.put_again.new.pool.items.items)
    items c.push_reserved.ensures.items c.in-Err.ensures.left)

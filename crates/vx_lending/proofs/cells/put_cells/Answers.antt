-- The cells are put back one after the other.
use Rattle.std.proofs.Common.{rules, arith, ◌≡◌, ◌++◌, [], ◌∷◌, List, map, reverse, ap, ◌∙◌, subst, sym, refl}
use Rattle.std.proofs.lemmas.List.{reverse-reverse}
use Rattle.vx_carve.specs.Together.{SameSectors}
use Rattle.vx_carve.proofs.Same.{same_refl}
use Rattle.vx_cell.specs.Changes.{CellSeen, cell_seen}
use Rattle.vx_cell.specs.Plexes.{PlexSeen}
use Rattle.vx_volume.specs.Volume.{cells_seen}
use Rattle.vx_lending.specs.RegionPieces.{all_pieces, cell_plexes, pieces_of}
use Rattle.vx_lending.proofs.RegionLists.{same_turned, same_less, same_done, long_last, long_turned, map_last, map_turned, left_start, left_less, left_done}
use Rattle.vx_lending.proofs.cells.put_cells.Goals as goal

pub left-init : goal.left-init
left-init g c =
    let rows : List (List PlexSeen) = cell_plexes g.P.Piece.seen c.args.cells.items in
    let turned : List (List PlexSeen) = cell_plexes g.P.Piece.seen c.reverse.new.self.items in
    let is = map_turned (λ x. (cell_seen g.P.Piece.seen x).plexes) c.args.cells.items c.reverse.new.self.items c.reverse.ensures.items in
    record {
      same = same_turned pieces_of _ (map g.P.Piece.seen c.args.pool.now.items.items) rows turned (same_refl _) is;
      capacity = refl;
      room = (let long = long_turned pieces_of rows turned is in omega (arith, long));
      all = ([], left_start (cells_seen g.P.Piece.seen c.args.cells.items) (cells_seen g.P.Piece.seen c.reverse.new.self.items) (map_turned (cell_seen g.P.Piece.seen) c.args.cells.items c.reverse.new.self.items c.reverse.ensures.items));
    }

pub left-preserved : goal.left-preserved
left-preserved g c =
    let items : c.left.left.items ≡ c.pop.new.self.items ++ c.in-Some.cell ∷ [] = search rules in
    let rows : List (List PlexSeen) = cell_plexes g.P.Piece.seen c.left.left.items in
    let rest : List (List PlexSeen) = cell_plexes g.P.Piece.seen c.pop.new.self.items in
    let own : List PlexSeen = (cell_seen g.P.Piece.seen c.in-Some.cell).plexes in
    let last : rows ≡ rest ++ own ∷ [] = map_last (λ x. (cell_seen g.P.Piece.seen x).plexes) c.left.left.items c.pop.new.self.items c.in-Some.cell items in
    record {
      same = same_done pieces_of _ (map g.P.Piece.seen c.left.pool.items.items) _ rows rest own c.left.invariant.same last c.in-Ok.ensures.put;
      capacity = c.put_cell.ensures.capacity ∙ c.left.invariant.capacity;
      room = (
          let r = c.left.invariant.room in
          let l = c.in-Ok.ensures.longer in
          let n = long_last pieces_of rows rest own last in
          omega (arith, r, l, n)
          );
      all = (
        c.left.invariant.all.0 ++ cell_seen g.P.Piece.seen c.in-Some.cell ∷ [],
        left_done (cells_seen g.P.Piece.seen c.args.cells.items) c.left.invariant.all.0 (reverse (cells_seen g.P.Piece.seen c.pop.new.self.items)) (cell_seen g.P.Piece.seen c.in-Some.cell)
            (left_less (cells_seen g.P.Piece.seen c.args.cells.items) c.left.invariant.all.0 (cells_seen g.P.Piece.seen c.left.left.items) (cells_seen g.P.Piece.seen c.pop.new.self.items) (cell_seen g.P.Piece.seen c.in-Some.cell) c.left.invariant.all.1
            (map_last (cell_seen g.P.Piece.seen) c.left.left.items c.pop.new.self.items c.in-Some.cell items)),
      );
    }

pub returns-in-Err-clause-left : goal.returns-in-Err-clause-left
returns-in-Err-clause-left g c =
    let items : c.left.left.items ≡ c.pop.new.self.items ++ c.in-Some.cell ∷ [] = search rules in
    let rows : List (List PlexSeen) = cell_plexes g.P.Piece.seen c.left.left.items in
    let rest : List (List PlexSeen) = cell_plexes g.P.Piece.seen c.pop.new.self.items in
    let own : List PlexSeen = (cell_seen g.P.Piece.seen c.in-Some.cell).plexes in
    let last : rows ≡ rest ++ own ∷ [] = map_last (λ x. (cell_seen g.P.Piece.seen x).plexes) c.left.left.items c.pop.new.self.items c.in-Some.cell items in
    let back : List PlexSeen = (cell_seen g.P.Piece.seen c.in-Err.cell).plexes in
    let now : cell_plexes g.P.Piece.seen c.push_reserved.new.self.items ≡ rest ++ back ∷ [] = map_last (λ x. (cell_seen g.P.Piece.seen x).plexes) c.push_reserved.new.self.items c.pop.new.self.items c.in-Err.cell c.push_reserved.ensures.items in
    let olds = all_pieces (cell_plexes g.P.Piece.seen c.args.cells.items) ++ map g.P.Piece.seen c.args.pool.now.items.items in
    subst (λ rs. SameSectors olds (all_pieces rs ++ map g.P.Piece.seen c.put_cell.new.pool.items.items)) (sym now)
    (same_less pieces_of _ (map g.P.Piece.seen c.left.pool.items.items) _ rows rest own back c.left.invariant.same last c.in-Err.ensures.left)

pub returns-in-Err-clause-room : goal.returns-in-Err-clause-room
returns-in-Err-clause-room g c room =
    let items : c.left.left.items ≡ c.pop.new.self.items ++ c.in-Some.cell ∷ [] = search rules in
    let rows : List (List PlexSeen) = cell_plexes g.P.Piece.seen c.left.left.items in
    let rest : List (List PlexSeen) = cell_plexes g.P.Piece.seen c.pop.new.self.items in
    let own : List PlexSeen = (cell_seen g.P.Piece.seen c.in-Some.cell).plexes in
    let last : rows ≡ rest ++ own ∷ [] = map_last (λ x. (cell_seen g.P.Piece.seen x).plexes) c.left.left.items c.pop.new.self.items c.in-Some.cell items in
    let r = c.left.invariant.room in
    let e = c.left.invariant.capacity in
    let n = long_last pieces_of rows rest own last in
    c.in-Err.ensures.room (omega (arith, room, r, e, n))

pub returns-in-Err-clause-cells : goal.returns-in-Err-clause-cells
returns-in-Err-clause-cells g c =
    let items : c.left.left.items ≡ c.pop.new.self.items ++ c.in-Some.cell ∷ [] = search rules in
    let rest : List CellSeen = cells_seen g.P.Piece.seen c.pop.new.self.items in
    let first : CellSeen = cell_seen g.P.Piece.seen c.in-Some.cell in
    let back : CellSeen = cell_seen g.P.Piece.seen c.in-Err.cell in
    record {
      done = c.left.invariant.all.0;
      first = first;
      rest = reverse rest;
      old_is = left_less (cells_seen g.P.Piece.seen c.args.cells.items) c.left.invariant.all.0 (cells_seen g.P.Piece.seen c.left.left.items) rest first c.left.invariant.all.1 (map_last (cell_seen g.P.Piece.seen) c.left.left.items c.pop.new.self.items c.in-Some.cell items);
      back = back;
      new_is = map_last (cell_seen g.P.Piece.seen) c.push_reserved.new.self.items c.pop.new.self.items c.in-Err.cell c.push_reserved.ensures.items ∙ ap (λ (xs : List CellSeen). xs ++ back ∷ []) (sym (reverse-reverse rest));
      same = c.in-Err.ensures.same;
    }

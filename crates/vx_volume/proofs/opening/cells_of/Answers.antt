-- The cells of the regions are made one after the other.
use Rattle.std.proofs.Common.{◌≡◌, ◌+◌, ◌∷◌, ◌++◌, [], rules, arith, sym, ap, subst, ◌∙◌, List, map, reverse}
use Rattle.std.proofs.lemmas.List.{append-nil, length-map}
use Rattle.vx_cell.specs.Changes.{CellSeen, cell_seen}
use Rattle.vx_cell.specs.Plexes.{PlexSeen, plexes_seen}
use Rattle.vx_volume.specs.Log.{log_seen}
use Rattle.vx_volume.specs.Opening.{regions_seen}
use Rattle.vx_volume.specs.Volume.{cells_seen}
use Rattle.vx_volume.proofs.Openings.{FirstOpened, all_opened, no_items, opened_push, plexes_in, plexes_opened, plexes_pushed, pushed, taken, turned_back}
use Rattle.vx_volume.proofs.opening.cells_of.Goals as goal

pub opening-init : goal.opening-init
opening-init g c =
    record {
      same = ap (λ xs. map plexes_in (cells_seen g.P.Piece.seen xs) ++ reverse (regions_seen g.P.Piece.seen c.reverse.new.self.items)) c.requires.empty ∙ turned_back _ c.args.regions.items c.reverse.new.self.items c.reverse.ensures.items;
      count = search rules;
      each = λ r lt. absurd (omega arith);
      total = search rules;
      room = search rules;
    }

pub opening-preserved : goal.opening-preserved
opening-preserved g c =
    let more : cells_seen g.P.Piece.seen c.push_reserved.new.self.items ≡ cells_seen g.P.Piece.seen c.opening.cells.items ++ cell_seen g.P.Piece.seen c.cell_of.result ∷ [] =
    pushed (cell_seen g.P.Piece.seen) c.opening.cells.items c.push_reserved.new.self.items c.cell_of.result c.push_reserved.ensures.items in
    let parts : map plexes_in (cells_seen g.P.Piece.seen c.push_reserved.new.self.items) ≡ map plexes_in (cells_seen g.P.Piece.seen c.opening.cells.items) ++ plexes_seen g.P.Piece.seen c.in-Some.plexes.items ∷ [] =
    plexes_pushed (cells_seen g.P.Piece.seen c.opening.cells.items) (cells_seen g.P.Piece.seen c.push_reserved.new.self.items) (cell_seen g.P.Piece.seen c.cell_of.result) (plexes_seen g.P.Piece.seen c.in-Some.plexes.items) more (plexes_opened c.args.shape.now (log_seen g.P.Piece.seen c.args.log.now) c.opening.region (plexes_seen g.P.Piece.seen c.in-Some.plexes.items) (cell_seen g.P.Piece.seen c.cell_of.result) c.cell_of.ensures) in
    record {
      same = ap (λ (xs : List (List PlexSeen)). xs ++ reverse (regions_seen g.P.Piece.seen c.pop.new.self.items)) parts
          ∙ taken _ (map plexes_in (cells_seen g.P.Piece.seen c.opening.cells.items)) (regions_seen g.P.Piece.seen c.args.regions.items) c.opening.left.items c.pop.new.self.items c.in-Some.plexes c.in-Some.ensures.items c.opening.invariant.same;
      count = search rules;
      each = subst (λ (xs : List CellSeen). FirstOpened c.args.shape.now (log_seen g.P.Piece.seen c.args.log.now) (c.opening.region + 1) xs) (sym more)
          (opened_push c.args.shape.now (log_seen g.P.Piece.seen c.args.log.now) c.opening.region (cells_seen g.P.Piece.seen c.opening.cells.items) (plexes_seen g.P.Piece.seen c.in-Some.plexes.items) (cell_seen g.P.Piece.seen c.cell_of.result)
          (length-map c.opening.cells.items (cell_seen g.P.Piece.seen) ∙ c.opening.invariant.count) c.opening.invariant.each c.cell_of.ensures);
      total = search rules;
      room = search rules;
    }

pub returns : goal.returns
returns g c =
    let empty : c.opening.left.items ≡ [] = no_items c.opening.left.items (sym c.opening.left.ok.0 ∙ c.in_default.ensures.cases.0) in
    let same : map plexes_in (cells_seen g.P.Piece.seen c.opening.cells.items) ≡ regions_seen g.P.Piece.seen c.args.regions.items =
    sym (append-nil (map plexes_in (cells_seen g.P.Piece.seen c.opening.cells.items))) ∙ ap (λ xs. map plexes_in (cells_seen g.P.Piece.seen c.opening.cells.items) ++ reverse (regions_seen g.P.Piece.seen xs)) (sym empty) ∙ c.opening.invariant.same in
    all_opened c.args.shape.now (log_seen g.P.Piece.seen c.args.log.now) c.opening.region (cells_seen g.P.Piece.seen c.opening.cells.items) (regions_seen g.P.Piece.seen c.args.regions.items)
    (length-map c.opening.cells.items (cell_seen g.P.Piece.seen) ∙ c.opening.invariant.count) same c.opening.invariant.each

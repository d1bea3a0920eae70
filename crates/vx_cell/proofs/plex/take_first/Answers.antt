-- The first plex with the map is found and removed.
use Rattle.std.proofs.Common.{◌∙◌, sym, ap, List, map}
use Rattle.vx_cell.specs.declared.plex.Plex.{Plex}
use Rattle.vx_cell.specs.Plexes.{plexes_seen}
use Rattle.vx_cell.proofs.Partings.{first_leaves, first_pieces, no_pieces, none_leaves}
use Rattle.vx_cell.proofs.plex.take_first.Goals as goal

pub returns-in-None-clause-left : goal.returns-in-None-clause-left
returns-in-None-clause-left g c = sym (none_leaves c.args.map (plexes_seen g.P.Piece.seen c.args.plexes.now.items) (rw c.as_slice.ensures.value at c.in-None.ensures))

pub returns-in-None-clause-pieces : goal.returns-in-None-clause-pieces
returns-in-None-clause-pieces g c =
    ap (λ (xs : List _). map g.P.Piece.seen xs) c.new.ensures.items ∙ sym (no_pieces c.args.map (plexes_seen g.P.Piece.seen c.args.plexes.now.items) (rw c.as_slice.ensures.value at c.in-None.ensures))

pub returns-in-Some-clause-left : goal.returns-in-Some-clause-left
returns-in-Some-clause-left g c =
    let found = rw c.as_slice.ensures.value at c.in-Some.ensures in
    ap (λ (xs : List (Plex _)). plexes_seen g.P.Piece.seen xs) c.remove-pieces.ensures.items ∙ first_leaves g.P.Piece.seen c.args.map c.args.plexes.now.items c.in-Some.index found.1 found.0

pub returns-in-Some-clause-pieces : goal.returns-in-Some-clause-pieces
returns-in-Some-clause-pieces g c =
    let found = rw c.as_slice.ensures.value at c.in-Some.ensures in
    ap (λ (p : Plex _). map g.P.Piece.seen p.pieces.items) c.remove-pieces.ensures.value ∙ first_pieces g.P.Piece.seen c.args.map c.args.plexes.now.items c.in-Some.index c.remove-pieces.result found.1 found.0

use Rattle.std.proofs.Common.{rules, arith, ◌≡◌, ◌∙◌, ◌++◌, [], ◌∷◌, length, map, ap, sym, append-nil}
use Rattle.std.proofs.lemmas.List.{length_push, nil_from_length}
use Rattle.vx_cell.specs.Plexes.{plexes_seen}
use Rattle.vx_lending.specs.RegionPieces.{pieces_of}
use Rattle.vx_lending.proofs.Regions.{seen_long}
use Rattle.vx_plex_pieces.proofs.runs.run_of.Goals as goal

pub returns : goal.returns
returns g c =
    let p = c.unwrap-pieces.result in
    let items : c.args.plexes.items ≡ c.pop.new.self.items ++ p ∷ [] = search rules in
    let seen = seen_long g.P.Piece.seen c.args.plexes.items in
    let one = c.requires.one in
    let more = ap length items ∙ length_push c.pop.new.self.items p in
    let none : c.pop.new.self.items ≡ [] = nil_from_length c.pop.new.self.items (omega (arith, seen, one, more)) in
    let alone : c.args.plexes.items ≡ p ∷ [] = items ∙ ap (λ xs. xs ++ p ∷ []) none in
    sym (ap (λ xs. pieces_of (plexes_seen g.P.Piece.seen xs)) alone ∙ append-nil (map g.P.Piece.seen p.pieces.items))

-- What is left over last is the plex.
use Rattle.std.proofs.Common.{rules, ◌≡◌, ◌∙◌, ◌++◌, [], ◌∷◌, refl, sym, subst}
use Rattle.std.proofs.lemmas.List.{same_from_push}
use Rattle.vx_plex_pieces.specs.Parked.{IsWithoutLog}
use Rattle.vx_plex_pieces.proofs.Stills.{unparked_still}
use Rattle.vx_plex_pieces.proofs.parking.unpark_plex.Goals as goal

pub returns-clause-still : goal.returns-clause-still
returns-clause-still g c =
    let r = c.unwrap-regions.result in
    let items : c.args.public.now.left.items ≡ c.pop.new.self.items ++ r ∷ [] = search rules in
    let same = same_from_push c.requires.before c.pop.new.self.items c.requires.last r (sym c.requires.left_is ∙ items) in
    unparked_still g.P.Piece.seen c.args.public.now (record c.args.public.now { left = c.pop.new.self }) r refl items (subst (IsWithoutLog g.P.Piece.seen) same.1 c.requires.without)

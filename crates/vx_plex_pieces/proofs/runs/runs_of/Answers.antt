-- The pieces of the last region come first, and the list is turned round at the end.
use Rattle.std.proofs.Common.{rules, arith, ◌≡◌, ◌∙◌, ◌++◌, [], ◌∷◌, List, length, map, reverse, ap, sym, subst, append-nil}
use Rattle.std.specs.List.{All}
use Rattle.std.proofs.lemmas.List.Elements.{All-head}
use Rattle.vx_cut.proofs.Parts.{all_parts}
use Rattle.vx_cell.specs.Plexes.{PlexSeen, plexes_seen}
use Rattle.vx_volume.specs.Changing.{runs_seen}
use Rattle.vx_volume.specs.Opening.{regions_seen}
use Rattle.vx_lending.specs.RegionPieces.{pieces_of}
use Rattle.vx_lending.proofs.RegionLists.{map_last, map_turned}
use Rattle.vx_plex_pieces.specs.Runs.{HasOnePlex}
use Rattle.vx_plex_pieces.proofs.OnePlex.{turned_more}
use Rattle.vx_plex_pieces.proofs.runs.runs_of.Goals as goal

pub regions-init : goal.regions-init
regions-init g c =
    record {
      all = sym (ap (λ rs. map pieces_of (regions_seen g.P.Piece.seen c.args.regions.items) ++ reverse (runs_seen g.P.Piece.seen rs)) c.requires.none ∙ append-nil (map pieces_of (regions_seen g.P.Piece.seen c.args.regions.items)));
      one = c.requires.one;
      room = (let r = c.requires.room in let n = ap length c.requires.none in omega (arith, r, n));
    }

pub run_of-requires-clause-one : goal.run_of-requires-clause-one
run_of-requires-clause-one g c κs within =
    let items : c.regions.left.items ≡ c.pop.new.self.items ++ c.in-Some.plexes ∷ [] = search rules in
    let rest : List (List PlexSeen) = regions_seen g.P.Piece.seen c.pop.new.self.items in
    let own : List PlexSeen = plexes_seen g.P.Piece.seen c.in-Some.plexes.items in
    let last : regions_seen g.P.Piece.seen c.regions.left.items ≡ rest ++ own ∷ [] = map_last (λ x. plexes_seen g.P.Piece.seen x.items) c.regions.left.items c.pop.new.self.items c.in-Some.plexes items in
    All-head HasOnePlex own [] (all_parts HasOnePlex rest (own ∷ []) (subst (All HasOnePlex) last c.regions.invariant.one)).1

pub regions-preserved : goal.regions-preserved
regions-preserved g c =
    let items : c.regions.left.items ≡ c.pop.new.self.items ++ c.in-Some.plexes ∷ [] = search rules in
    let rest : List (List PlexSeen) = regions_seen g.P.Piece.seen c.pop.new.self.items in
    let own : List PlexSeen = plexes_seen g.P.Piece.seen c.in-Some.plexes.items in
    let last : regions_seen g.P.Piece.seen c.regions.left.items ≡ rest ++ own ∷ [] = map_last (λ x. plexes_seen g.P.Piece.seen x.items) c.regions.left.items c.pop.new.self.items c.in-Some.plexes items in
    let now : runs_seen g.P.Piece.seen c.push_reserved.new.self.items ≡ runs_seen g.P.Piece.seen c.regions.runs.items ++ map g.P.Piece.seen c.run_of.result.items ∷ [] =
    map_last (λ x. map g.P.Piece.seen x.items) c.push_reserved.new.self.items c.regions.runs.items c.run_of.result c.push_reserved.ensures.items in
    let more : runs_seen g.P.Piece.seen c.push_reserved.new.self.items ≡ runs_seen g.P.Piece.seen c.regions.runs.items ++ pieces_of own ∷ [] = now ∙ ap (λ x. runs_seen g.P.Piece.seen c.regions.runs.items ++ x ∷ []) c.run_of.ensures in
    record {
      all = turned_more _ (map pieces_of (regions_seen g.P.Piece.seen c.regions.left.items)) (map pieces_of rest) (runs_seen g.P.Piece.seen c.regions.runs.items) _ (pieces_of own) c.regions.invariant.all (map_last pieces_of _ rest own last) more;
      one = (all_parts HasOnePlex rest (own ∷ []) (subst (All HasOnePlex) last c.regions.invariant.one)).0;
      room = (let r = c.regions.invariant.room in let l = c.in-Some.ensures.len in omega (arith, r, l));
    }

pub returns : goal.returns
returns g c =
    let none : c.regions.left.items ≡ [] = search rules in
    map_turned (λ x. map g.P.Piece.seen x.items) c.regions.runs.items c.reverse.new.self.items c.reverse.ensures.items
    ∙ sym (c.regions.invariant.all ∙ ap (λ rs. map pieces_of (regions_seen g.P.Piece.seen rs) ++ reverse (runs_seen g.P.Piece.seen c.regions.runs.items)) none)

-- What a running volume that a plex has left holds, and the pieces of the plex, are together what it held.
use Rattle.std.proofs.Common.{◌≡◌, ◌∙◌, ℕ, suc, ◌<◌, Bool, true, false, cond, List, [], ◌∷◌, ◌++◌, length, map, sym, ap, subst, arith, append_assoc}
use Rattle.std.specs.Prelude.{◌==◌}
use Rattle.std.specs.List.{flat_map}
use Rattle.std.proofs.lemmas.Grind.{flat_map-append}
use Rattle.std.proofs.lemmas.List.{append-nil}
use Rattle.vx_piece.specs.Seen.{Seen}
use Rattle.vx_pages.specs.Items.{item_at}
use Rattle.vx_carve.specs.Together.{SameSectors}
use Rattle.vx_carve.proofs.Same.{same_beside, same_refl, same_trans}
use Rattle.vx_cell.specs.Changes.{CellSeen}
use Rattle.vx_cell.specs.Parting.{LosesPlex, pieces_of, without_plex}
use Rattle.vx_cell.specs.Plexes.{PlexSeen}
use Rattle.vx_fronts.proofs.Behind.{turned, turned_back}
use Rattle.vx_lending.specs.Left.{region_plexes}
use Rattle.vx_lending.specs.Pieces.{copy_pieces}
use Rattle.vx_lending.specs.RegionPieces.{all_pieces, pieces_of as region_pieces}
use Rattle.vx_volume.specs.Volume.{no_cell}

-- ---- lists of pieces in another order

joined_left : (a b c : List Seen) → (a ++ b) ++ c ≡ a ++ (b ++ c)
joined_left a b c = simp append_assoc

swapped : (a b : List Seen) → SameSectors (a ++ b) (b ++ a)
swapped a b = subst (λ xs. SameSectors xs (b ++ a)) (append-nil (a ++ b)) (subst (λ xs. SameSectors ((a ++ b) ++ []) (b ++ xs)) (append-nil a) (turned a b []))

pub ahead : (rs ps qs : List Seen) → SameSectors ps qs → SameSectors (rs ++ ps) (rs ++ qs)
ahead rs ps qs same = same_trans (rs ++ ps) (ps ++ rs) (rs ++ qs) (swapped rs ps) (same_trans (ps ++ rs) (qs ++ rs) (rs ++ qs) (same_beside rs ps qs same) (swapped qs rs))

turn : (a b c : List Seen) → SameSectors (a ++ (b ++ c)) (b ++ (a ++ c))
turn a b c = subst (λ xs. SameSectors xs (b ++ (a ++ c))) (joined_left a b c) (turned a b c)

crossed : (a b c d : List Seen) → SameSectors ((a ++ b) ++ (c ++ d)) ((a ++ c) ++ (b ++ d))
crossed a b c d =
    subst (λ xs. SameSectors xs ((a ++ c) ++ (b ++ d))) (sym (joined_left a b (c ++ d)))
    (subst (SameSectors (a ++ (b ++ (c ++ d)))) (sym (joined_left a c (b ++ d))) (ahead a (b ++ (c ++ d)) (c ++ (b ++ d)) (turn b c d)))

-- what is put behind what is left over
pub left_behind : {X : Type 0} (f : X → List Seen) (left left' : List X) (x : X) (C ps : List Seen) → left' ≡ left ++ x ∷ [] → f x ≡ C → SameSectors (C ++ (ps ++ flat_map f left)) (ps ++ flat_map f left')
left_behind f left left' x C ps e is =
    let all : flat_map f left' ≡ flat_map f left ++ C = ap (flat_map f) e ∙ flat_map-append f left (x ∷ []) ∙ ap (λ zs. flat_map f left ++ zs) (append-nil (f x) ∙ is) in
    subst (λ zs. SameSectors (C ++ (ps ++ flat_map f left)) (ps ++ zs)) (sym all)
    (subst (SameSectors (C ++ (ps ++ flat_map f left))) (joined_left ps (flat_map f left) C) (swapped C (ps ++ flat_map f left)))

-- ---- a region

module _ (m : ℕ) where
  region_parts : (ps : List PlexSeen) → SameSectors (region_pieces ps) (pieces_of m ps ++ region_pieces (without_plex m ps))
  region_parts [] = same_refl []
  region_parts (p ∷ ps) = by (p.map == m) (region_parts ps)
    where
      by : (b : Bool) → SameSectors (region_pieces ps) (pieces_of m ps ++ region_pieces (without_plex m ps)) →
          SameSectors (p.pieces ++ region_pieces ps) (cond b p.pieces (pieces_of m ps) ++ region_pieces (cond b ps (p ∷ without_plex m ps)))
      by true rest = same_refl (p.pieces ++ region_pieces ps)
      by false rest =
          same_trans (p.pieces ++ region_pieces ps) (p.pieces ++ (pieces_of m ps ++ region_pieces (without_plex m ps))) (pieces_of m ps ++ (p.pieces ++ region_pieces (without_plex m ps)))
          (ahead p.pieces (region_pieces ps) (pieces_of m ps ++ region_pieces (without_plex m ps)) rest)
          (turn p.pieces (pieces_of m ps) (region_pieces (without_plex m ps)))

  -- ---- all of them

  pub regions_part : (xs ys : List CellSeen) → length ys ≡ length xs → ((r : ℕ) → r < length xs → LosesPlex m (item_at no_cell xs r) (item_at no_cell ys r)) →
      SameSectors (all_pieces (region_plexes xs)) (copy_pieces (map (λ (c : CellSeen). pieces_of m c.plexes) xs) ++ all_pieces (region_plexes ys))
  regions_part [] [] size each = same_refl []
  regions_part [] (y ∷ ys) size each = absurd (omega (arith, size))
  regions_part (x ∷ xs) [] size each = absurd (omega (arith, size))
  regions_part (x ∷ xs) (y ∷ ys) size each =
      let T = pieces_of m x.plexes in
      let W = region_pieces y.plexes in
      let R = all_pieces (region_plexes xs) in
      let U = copy_pieces (map (λ (c : CellSeen). pieces_of m c.plexes) xs) in
      let V = all_pieces (region_plexes ys) in
      let left : y.plexes ≡ without_plex m x.plexes = ap (λ (c : CellSeen). c.plexes) (each 0 (omega arith)) in
      let first : SameSectors (region_pieces x.plexes) (T ++ W) = subst (λ (ps : List PlexSeen). SameSectors (region_pieces x.plexes) (T ++ region_pieces ps)) (sym left) (region_parts x.plexes) in
      let rest : SameSectors R (U ++ V) = regions_part xs ys (omega (arith, size)) (λ r lt. each (suc r) (omega (arith, lt))) in
      same_trans (region_pieces x.plexes ++ R) ((T ++ W) ++ R) ((T ++ U) ++ (W ++ V)) (same_beside R (region_pieces x.plexes) (T ++ W) first)
      (same_trans ((T ++ W) ++ R) ((T ++ W) ++ (U ++ V)) ((T ++ U) ++ (W ++ V)) (ahead (T ++ W) R (U ++ V) rest) (crossed T W U V))

-- ---- beside all others

-- what lies behind other pieces, and is taken out of them, is put before all
pub put_aside : (C O F H T : List Seen) → SameSectors (O ++ (F ++ ((C ++ H) ++ T))) ((C ++ O) ++ (F ++ (H ++ T)))
put_aside C O F H T =
    subst (λ xs. SameSectors xs ((C ++ O) ++ (F ++ (H ++ T)))) (was C O F H T)
    (subst (SameSectors ((O ++ F) ++ (C ++ (H ++ T)))) (is C O F H T) (turned_back C (O ++ F) (H ++ T)))
  where
    was : (c o f h t : List Seen) → (o ++ f) ++ (c ++ (h ++ t)) ≡ o ++ (f ++ ((c ++ h) ++ t))
    was c o f h t = simp append_assoc

    is : (c o f h t : List Seen) → (c ++ (o ++ f)) ++ (h ++ t) ≡ (c ++ o) ++ (f ++ (h ++ t))
    is c o f h t = simp append_assoc

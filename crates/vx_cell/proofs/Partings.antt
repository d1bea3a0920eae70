-- A plex that leaves a list of plexes.
use Rattle.std.proofs.Common.{◌≡◌, ℕ, zero, suc, ◌<◌, false, refl, ap, arith, List, [], ◌∷◌, length, map, get_or}
use Rattle.std.specs.Prelude.{◌==◌}
use Rattle.std.specs.List.{remove}
use Rattle.vx_mask.proofs.Tests.{or_neither}
use Rattle.vx_piece.specs.Seen.{Seen}
use Rattle.vx_cell.specs.declared.plex.Plex.{Plex}
use Rattle.vx_cell.specs.Plexes.{PlexSeen, plex_seen, plexes_seen, IsFirst, holds}
use Rattle.vx_cell.specs.Parting.{pieces_of, without_plex}

-- ---- where no plex has the map

pub none_leaves : (map : ℕ) (ps : List PlexSeen) → holds ps map ≡ false → without_plex map ps ≡ ps
none_leaves map [] none = refl
none_leaves map (p ∷ ps) none = let parts = or_neither (p.map == map) (holds ps map) none in rw parts.0 (ap (λ (qs : List PlexSeen). p ∷ qs) (none_leaves map ps parts.1))

pub no_pieces : (map : ℕ) (ps : List PlexSeen) → holds ps map ≡ false → pieces_of map ps ≡ []
no_pieces map [] none = refl
no_pieces map (p ∷ ps) none = let parts = or_neither (p.map == map) (holds ps map) none in rw parts.0 (no_pieces map ps parts.1)

-- ---- where the one at an index is the first

module _ {P : Type 0} (seen : P → Seen) (k : ℕ) where
  pub first_leaves : (ps : List (Plex P)) (i : ℕ) → IsFirst k ps i → i < length ps → plexes_seen seen (remove ps i) ≡ without_plex k (plexes_seen seen ps)
  first_leaves [] i first lt = absurd first
  first_leaves (p ∷ ps) zero first lt = rw first refl
  first_leaves (p ∷ ps) (suc i) first lt = rw first.0 (ap (λ (qs : List PlexSeen). plex_seen seen p ∷ qs) (first_leaves ps i first.1 (omega arith)))

  pub first_pieces : (ps : List (Plex P)) (i : ℕ) (d : Plex P) → IsFirst k ps i → i < length ps → map seen (get_or ps i d).pieces.items ≡ pieces_of k (plexes_seen seen ps)
  first_pieces [] i d first lt = absurd first
  first_pieces (p ∷ ps) zero d first lt = rw first refl
  first_pieces (p ∷ ps) (suc i) d first lt = rw first.0 (first_pieces ps i d first.1 (omega arith))

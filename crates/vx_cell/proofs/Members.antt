-- Plexes that come and go.
use Rattle.std.proofs.Common.{◌≡◌, ℕ, zero, suc, ◌<◌, refl, ap, inl, inr, arith, List, [], ◌∷◌, ◌++◌, length, map, get_or}
use Rattle.std.specs.List.{remove}
use Rattle.vx_core.specs.declared.stage.Stage.{Stage}
use Rattle.vx_piece.specs.Seen.{Seen}
use Rattle.vx_cell.specs.declared.plex.Plex.{Plex}
use Rattle.vx_cell.specs.Plexes.{PlexSeen, plex_seen, plexes_seen, IsFirst}
use Rattle.vx_cell.specs.Changes.{CellSeen, IsTaken}

pub seen_more : {P : Type 0} (seen : P → Seen) (ps qs : List (Plex P)) → plexes_seen seen (ps ++ qs) ≡ plexes_seen seen ps ++ plexes_seen seen qs
seen_more seen [] qs = refl
seen_more seen (p ∷ ps) qs = ap (λ (xs : List PlexSeen). plex_seen seen p ∷ xs) (seen_more seen ps qs)

pub taken_at : {P : Type 0} (seen : P → Seen) (k : ℕ) (ps : List (Plex P)) (i : ℕ) (d : Plex P) → IsFirst k ps i → i < length ps →
    IsTaken k (plexes_seen seen ps) (plexes_seen seen (remove ps i)) (map seen (get_or ps i d).pieces.items)
taken_at seen k [] i d first lt = absurd first
taken_at seen k (p ∷ ps) zero d first lt = inl (first, refl, refl)
taken_at seen k (p ∷ ps) (suc i) d first lt = inr (first.0, plexes_seen seen (remove ps i), refl, taken_at seen k ps i d first.1 (omega arith))

-- a stage by its parts
abbrev stage_of : ℕ → ℕ → Stage → Stage
stage_of on off s = record s { on = on; off = off }

pub seen_as : (s : Stage) (region start size number epoch on off on' off' : ℕ) (ps qs : List PlexSeen) → on ≡ on' → off ≡ off' → ps ≡ qs →
    (let left : CellSeen = record { stage = stage_of on off s; region = region; start = start; size = size; number = number; epoch = epoch; plexes = ps } in left)
    ≡ record { stage = stage_of on' off' s; region = region; start = start; size = size; number = number; epoch = epoch; plexes = qs }
seen_as s region start size number epoch on off on' off' ps qs e f h = rw (e, f, h) refl

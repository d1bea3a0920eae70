-- The pieces of plexes are armed one plex after the other.
use Rattle.std.proofs.Common.{◌≡◌, ℕ, zero, suc, ◌+◌, ◌<◌, ◌≤◌, subst, arith, List, [], ◌∷◌, length, get_or, set, Option}
use Rattle.vx_piece.specs.Seen.{Seen}
use Rattle.vx_runs.specs.Run.{EachPiece, IsArmed}
use Rattle.vx_cell.specs.declared.plex.Plex.{Plex}
use Rattle.vx_cell.specs.Plexes.{PlexSeen, plex_seen, plexes_seen}
use Rattle.vx_cell.specs.Changes.{AreArmed}

-- the first plexes are armed, and the others are as they were
abbrev pub FirstArmed : ℕ → Option ℕ → List PlexSeen → List PlexSeen → Type 0
FirstArmed zero stop ps qs = qs ≡ ps
FirstArmed (suc i) stop [] qs = qs ≡ []
FirstArmed (suc i) stop (p ∷ ps) [] = ⊥
FirstArmed (suc i) stop (p ∷ ps) (q ∷ qs) = (q.map ≡ p.map) × EachPiece (IsArmed stop) p.pieces q.pieces × FirstArmed i stop ps qs

head_of : {A : Type 0} {x y : A} {xs ys : List A} → x ∷ xs ≡ y ∷ ys → x ≡ y
head_of e = cc

tail_of : {A : Type 0} {x y : A} {xs ys : List A} → x ∷ xs ≡ y ∷ ys → xs ≡ ys
tail_of e = cc

arm_at : {P : Type 0} (seen : P → Seen) (stop : Option ℕ) (i : ℕ) (olds : List PlexSeen) (now : List (Plex P)) (q d : Plex P) → i < length now → FirstArmed i stop olds (plexes_seen seen now) →
    (plex_seen seen q).map ≡ (plex_seen seen (get_or now i d)).map → EachPiece (IsArmed stop) (plex_seen seen (get_or now i d)).pieces (plex_seen seen q).pieces → FirstArmed (suc i) stop olds (plexes_seen seen (set now i q))
arm_at seen stop i olds [] q d lt first e armed = absurd (omega arith)
arm_at seen stop zero [] (x ∷ xs) q d lt first e armed = cc
arm_at seen stop zero (p ∷ ps) (x ∷ xs) q d lt first e armed =
    (subst (λ (s : PlexSeen). q.map ≡ s.map) (head_of first) e, subst (λ (s : PlexSeen). EachPiece (IsArmed stop) s.pieces (plex_seen seen q).pieces) (head_of first) armed, tail_of first)
arm_at seen stop (suc i) [] (x ∷ xs) q d lt first e armed = cc
arm_at seen stop (suc i) (p ∷ ps) (x ∷ xs) q d lt first e armed = (first.0, first.1, arm_at seen stop i ps xs q d (omega arith) first.2 e armed)

pub arm_next : {P : Type 0} (seen : P → Seen) (stop : Option ℕ) (i : ℕ) (olds : List PlexSeen) (now : List (Plex P)) (q d : Plex P) → i < length now → FirstArmed i stop olds (plexes_seen seen now) → d ≡ get_or now i d →
    q.map ≡ d.map → EachPiece (IsArmed stop) (plex_seen seen d).pieces (plex_seen seen q).pieces → FirstArmed (i + 1) stop olds (plexes_seen seen (set now i q))
arm_next seen stop i olds now q d lt first value e armed =
    subst (λ (n : ℕ). FirstArmed n stop olds (plexes_seen seen (set now i q))) (next i)
    (arm_at seen stop i olds now q d lt first (subst (λ (x : Plex _). q.map ≡ x.map) value e) (subst (λ (x : Plex _). EachPiece (IsArmed stop) (plex_seen seen x).pieces (plex_seen seen q).pieces) value armed))
  where
    next : (n : ℕ) → suc n ≡ n + 1
    next n = omega arith

pub arm_all : {P : Type 0} (seen : P → Seen) (stop : Option ℕ) (i : ℕ) (old : List (Plex P)) (news : List PlexSeen) → length old ≤ i → FirstArmed i stop (plexes_seen seen old) news → AreArmed stop (plexes_seen seen old) news
arm_all seen stop zero [] [] le first = tt
arm_all seen stop zero [] (q ∷ qs) le first = cc
arm_all seen stop zero (p ∷ ps) news le first = absurd (omega arith)
arm_all seen stop (suc i) [] [] le first = tt
arm_all seen stop (suc i) [] (q ∷ qs) le first = cc
arm_all seen stop (suc i) (p ∷ ps) [] le first = absurd first
arm_all seen stop (suc i) (p ∷ ps) (q ∷ qs) le first = (first.0, first.1, arm_all seen stop i ps qs (omega arith) first.2)

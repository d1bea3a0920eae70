-- The pieces of a plex that joins a running volume: they lay still, and now the volume has them.
use Rattle.std.proofs.Common.{◌≡◌, ◌∙◌, ℕ, zero, suc, ◌<◌, List, [], ◌∷◌, ◌++◌, length, map, refl, sym, ap, subst, arith, append_assoc}
use Rattle.std.specs.List.{flat_map}
use Rattle.std.proofs.lemmas.Grind.{flat_map-append}
use Rattle.std.proofs.lemmas.List.{append-nil}
use Rattle.vx_piece.specs.Seen.{Seen}
use Rattle.vx_pages.specs.declared.local_piece.LocalPiece.{Ghosts}
use Rattle.vx_pages.specs.Items.{item_at}
use Rattle.vx_carve.specs.Together.{SameSectors}
use Rattle.vx_carve.proofs.Runs.{same_after}
use Rattle.vx_carve.proofs.Same.{same_beside, same_refl, same_trans}
use Rattle.vx_fronts.proofs.Behind.{turned}
use Rattle.vx_cell.specs.Changes.{CellSeen}
use Rattle.vx_cell.specs.Plexes.{PlexSeen}
use Rattle.vx_volume.specs.Changing.{PutsPlex}
use Rattle.vx_volume.specs.Volume.{VolumeSeen, log_of, no_cell, volume_seen}
use Rattle.vx_volume.specs.declared.log.VolumeLog.{VolumeLog}
use Rattle.vx_lending.specs.RegionPieces.{all_pieces, own_pieces, pieces_of}
use Rattle.vx_lending.specs.Left.{held_pieces, region_plexes}
use Rattle.vx_lending.specs.Logs.{log_pieces}
use Rattle.vx_lending.specs.Public.{lent_pieces, running_pieces, still_pieces, stuck_pieces}
use Rattle.vx_lending.specs.declared.public.Public.{Public}
use Rattle.vx_lending.specs.declared.public.Running.{Running}
use Rattle.vx_house_calls.proofs.Entries.{IsSetAt, flat_around}

-- ---- regions with one plex more

regrouped : (q a x b : List Seen) → (q ++ a) ++ (x ++ b) ≡ ((q ++ a) ++ x) ++ b
regrouped q a x b = simp append_assoc

behind_it : (q a x b : List Seen) → x ++ ((q ++ a) ++ b) ≡ (x ++ q) ++ (a ++ b)
behind_it q a x b = simp append_assoc

one_more : (x : List PlexSeen) (m : ℕ) (q : List Seen) → pieces_of (x ++ record { map = m; pieces = q } ∷ []) ≡ pieces_of x ++ q
one_more x m q = flat_map-append own_pieces x (record { map = m; pieces = q } ∷ []) ∙ ap (λ ps. pieces_of x ++ ps) (append-nil q)

-- the pieces of the plex in each region, and those that were there, are those that are there now
interleaved : (m : ℕ) (rs xs ys : List (List PlexSeen)) → length rs ≡ length xs → length ys ≡ length xs →
    ((r : ℕ) → r < length xs → item_at [] ys r ≡ item_at [] xs r ++ record { map = m; pieces = item_at [] (map pieces_of rs) r } ∷ []) → SameSectors (all_pieces rs ++ all_pieces xs) (all_pieces ys)
interleaved m [] [] [] long wide each = same_refl []
interleaved m [] [] (y ∷ ys) long wide each = absurd (omega (arith, wide))
interleaved m [] (x ∷ xs) ys long wide each = absurd (omega (arith, long))
interleaved m (q ∷ rs) [] ys long wide each = absurd (omega (arith, long))
interleaved m (q ∷ rs) (x ∷ xs) [] long wide each = absurd (omega (arith, wide))
interleaved m (q ∷ rs) (x ∷ xs) (y ∷ ys) long wide each =
    let rest = interleaved m rs xs ys (omega (arith, long)) (omega (arith, wide)) (λ r lt. each (suc r) (omega (arith, lt))) in
    let now : pieces_of y ≡ pieces_of x ++ pieces_of q = ap pieces_of (each 0 (omega arith)) ∙ one_more x m (pieces_of q) in
    let Q = pieces_of q in
    let A = all_pieces rs in
    let X = pieces_of x in
    let B = all_pieces xs in
    subst (λ ps. SameSectors ((Q ++ A) ++ (X ++ B)) (ps ++ all_pieces ys)) (sym now)
    (same_trans ((Q ++ A) ++ (X ++ B)) ((X ++ Q) ++ (A ++ B)) ((X ++ Q) ++ all_pieces ys)
    (subst (λ ps. SameSectors ps ((X ++ Q) ++ (A ++ B))) (sym (regrouped Q A X B)) (subst (SameSectors (((Q ++ A) ++ X) ++ B)) (behind_it Q A X B) (turned (Q ++ A) X B)))
    (same_after (X ++ Q) (A ++ B) (all_pieces ys) rest))

-- ---- a volume

at_plexes : (cells : List CellSeen) (r : ℕ) → r < length cells → item_at [] (region_plexes cells) r ≡ (item_at no_cell cells r).plexes
at_plexes [] r lt = absurd (omega (arith, lt))
at_plexes (x ∷ cells) zero lt = refl
at_plexes (x ∷ cells) (suc r) lt = at_plexes cells r (omega (arith, lt))

long_plexes : (cells : List CellSeen) → length (region_plexes cells) ≡ length cells
long_plexes [] = refl
long_plexes (x ∷ cells) = ap suc (long_plexes cells)

long_pieces : (rs : List (List PlexSeen)) → length (map pieces_of rs) ≡ length rs
long_pieces [] = refl
long_pieces (x ∷ rs) = ap suc (long_pieces rs)

cells_more : (m : ℕ) (rs : List (List PlexSeen)) (old new : VolumeSeen) → PutsPlex m (map pieces_of rs) old new → length (map pieces_of rs) ≡ length old.cells → SameSectors (all_pieces rs ++ all_pieces (region_plexes old.cells)) (all_pieces (region_plexes new.cells))
cells_more m rs old new puts count =
    let size = puts.cells.size in
    let was = long_plexes old.cells in
    let is = long_plexes new.cells in
    let many = long_pieces rs in
    interleaved m rs (region_plexes old.cells) (region_plexes new.cells) (omega (arith, count, was, many)) (omega (arith, size, was, is))
    (λ r lt.
    let inside : r < length old.cells = omega (arith, lt, was) in
    at_plexes new.cells r (omega (arith, inside, size)) ∙ ap (λ (x : CellSeen). x.plexes) (puts.cells.each r inside)
    ∙ ap (λ ps. ps ++ record { map = m; pieces = item_at [] (map pieces_of rs) r } ∷ []) (sym (at_plexes old.cells r inside)))

-- what lay still goes into one of the running volumes
moved : (E N F H T : List Seen) → SameSectors ((E ++ N) ++ (F ++ (H ++ T))) (N ++ (F ++ ((E ++ H) ++ T)))
moved E N F H T =
    subst (λ ps. SameSectors ps (N ++ (F ++ ((E ++ H) ++ T)))) (front E N F H T)
    (subst (SameSectors ((E ++ (N ++ F)) ++ (H ++ T))) (behind E N F H T) (turned E (N ++ F) (H ++ T)))
  where
    front : (e n f h t : List Seen) → (e ++ (n ++ f)) ++ (h ++ t) ≡ (e ++ n) ++ (f ++ (h ++ t))
    front e n f h t = simp append_assoc

    behind : (e n f h t : List Seen) → (n ++ f) ++ (e ++ (h ++ t)) ≡ n ++ (f ++ ((e ++ h) ++ t))
    behind e n f h t = simp append_assoc

module _ {P : Type 0} {ghosts : Ghosts P} (see : P → Seen) where
  -- the pieces of the volume are those that it had and those of the plex
  pub held_more : (m : ℕ) (rs : List (List PlexSeen)) (before after : Running P ghosts) → PutsPlex m (map pieces_of rs) (volume_seen see before.volume) (volume_seen see after.volume) → length (map pieces_of rs) ≡ length (volume_seen see before.volume).cells →
      log_of after.volume ≡ log_of before.volume → SameSectors (all_pieces rs ++ held_pieces see before.volume) (held_pieces see after.volume)
  held_more m rs before after puts count log =
      let E = all_pieces rs in
      let X = all_pieces (region_plexes (volume_seen see before.volume).cells) in
      let Y = all_pieces (region_plexes (volume_seen see after.volume).cells) in
      let L = log_pieces see (log_of before.volume) in
      subst (λ (g : VolumeLog P ghosts). SameSectors (E ++ (X ++ L)) (Y ++ log_pieces see g)) (sym log)
      (subst (λ ps. SameSectors ps (Y ++ L)) (append_assoc E X L) (same_beside L (E ++ X) Y (cells_more m rs (volume_seen see before.volume) (volume_seen see after.volume) puts count)))

  -- ---- a group

  -- all pieces behind the fronts are together what they were
  pub together : (old new : Public P ghosts) (before after : Running P ghosts) → IsSetAt old.running.entries new.running.entries before after → new.stuck ≡ old.stuck →
      (E : List Seen) → SameSectors (still_pieces see old) (E ++ still_pieces see new) → SameSectors (E ++ held_pieces see before.volume) (held_pieces see after.volume) →
      SameSectors (still_pieces see old ++ lent_pieces see old) (still_pieces see new ++ lent_pieces see new)
  together old new before after at stuck E still held =
      let N = still_pieces see new in
      let F = flat_map (running_pieces see) at.before in
      let B = flat_map (running_pieces see) at.behind in
      let S = flat_map (stuck_pieces see) old.stuck.items in
      let H = held_pieces see before.volume in
      let K = held_pieces see after.volume in
      let was : lent_pieces see old ≡ F ++ (H ++ (B ++ S)) = ap (λ es. flat_map (running_pieces see) es ++ S) at.was ∙ flat_around (running_pieces see) at.before (at.key, before) at.behind S in
      let is : lent_pieces see new ≡ F ++ (K ++ (B ++ S)) =
      ap (λ s. flat_map (running_pieces see) new.running.entries ++ flat_map (stuck_pieces see) s.items) stuck
      ∙ ap (λ es. flat_map (running_pieces see) es ++ S) at.is ∙ flat_around (running_pieces see) at.before (at.key, after) at.behind S in
      subst (λ ps. SameSectors (still_pieces see old ++ ps) (N ++ lent_pieces see new)) (sym was)
      (subst (λ ps. SameSectors (still_pieces see old ++ (F ++ (H ++ (B ++ S)))) (N ++ ps)) (sym is)
      (same_trans (still_pieces see old ++ (F ++ (H ++ (B ++ S)))) ((E ++ N) ++ (F ++ (H ++ (B ++ S)))) (N ++ (F ++ (K ++ (B ++ S))))
      (same_beside (F ++ (H ++ (B ++ S))) (still_pieces see old) (E ++ N) still)
      (same_trans ((E ++ N) ++ (F ++ (H ++ (B ++ S)))) (N ++ (F ++ ((E ++ H) ++ (B ++ S)))) (N ++ (F ++ (K ++ (B ++ S))))
      (moved E N F H (B ++ S))
      (same_after N (F ++ ((E ++ H) ++ (B ++ S))) (F ++ (K ++ (B ++ S))) (same_after F ((E ++ H) ++ (B ++ S)) (K ++ (B ++ S)) (same_beside (B ++ S) (E ++ H) K held))))))

-- The plexes of a region that are taken out.
use Rattle.std.proofs.Common.{◌≡◌, ℕ, suc, ◌+◌, ◌<◌, ◌==◌, List, [], ◌∷◌, ◌++◌, length, map, reverse, get_or, refl, sym, ap, ◌∙◌, subst, arith}
use Rattle.std.specs.Prelude.{◌||◌}
use Rattle.std.proofs.lemmas.List.{reverse-append}
use Rattle.vx_piece.specs.Seen.{Seen}
use Rattle.vx_runs.specs.Run.{run_sectors}
use Rattle.vx_layout.specs.declared.run.Run.{Run}
use Rattle.vx_layout.specs.declared.strip.Strip.{Strip}
use Rattle.vx_layout.specs.declared.layout.Layout.{Layout}
use Rattle.vx_layout.specs.Runs.{AreRuns}
use Rattle.vx_carve.specs.Carved.{ArePieces, AreCut}
use Rattle.vx_cell.specs.declared.plex.Plex.{Plex}
use Rattle.vx_cell.specs.Plexes.{PlexSeen, AllCover, MapsDiffer, holds, plex_seen, plexes_seen}
use Rattle.vx_cell.proofs.Members.{seen_more}
use Rattle.vx_lending.specs.RegionPieces.{own_pieces}
use Rattle.vx_lending.specs.RegionsTaken.{AreDifferent, IsTakenRegion, is_among, own_map}

-- the pieces of runs have together the blocks of the runs
runs_cover : (numbers : List ℕ) (unit : ℕ) (columns : List (List Strip)) (start end : ℕ) (runs : List Run) (ps : List Seen) → AreRuns unit columns start end runs → ArePieces numbers runs ps → start + run_sectors ps ≡ end
runs_cover numbers unit columns start end [] [] are of = omega (arith, are)
runs_cover numbers unit columns start end [] (p ∷ ps) are of = absurd of
runs_cover numbers unit columns start end (run ∷ runs) [] are of = absurd of
runs_cover numbers unit columns start end (run ∷ runs) (p ∷ ps) are of =
    let rest = runs_cover numbers unit columns (start + run.count) end runs ps are.3 of.1 in
    let here = of.0.count_is in
    omega (arith, rest, here)

cut_covers : (numbers : List ℕ) (unit : ℕ) (columns : List (List Strip)) (start count : ℕ) (ps : List Seen) → AreCut numbers unit columns start (start + count) ps → run_sectors ps ≡ count
cut_covers numbers unit columns start count ps cut = let all = runs_cover numbers unit columns start (start + count) cut.runs ps cut.are_runs cut.pieces in omega (arith, all)

all_cover : (count : ℕ) (plexes : List PlexSeen) → ((k : ℕ) → k < length plexes → run_sectors (get_or (map own_pieces plexes) k []) ≡ count) → AllCover count plexes
all_cover count [] each = tt
all_cover count (p ∷ ps) each = (each 0 (omega arith), all_cover count ps (λ k lt. each (suc k) (omega (arith, lt))))

held_own : (plexes : List PlexSeen) (k : ℕ) → holds plexes k ≡ is_among k (map own_map plexes)
held_own [] k = refl
held_own (p ∷ ps) k = ap (λ b. (p.map == k) || b) (held_own ps k)

differ_own : (plexes : List PlexSeen) → AreDifferent (map own_map plexes) → MapsDiffer plexes
differ_own [] differ = tt
differ_own (p ∷ ps) differ = (held_own ps p.map ∙ differ.0, differ_own ps differ.1)

long_own : (plexes : List PlexSeen) → length (map own_map plexes) ≡ length plexes
long_own [] = refl
long_own (p ∷ ps) = ap suc (long_own ps)

-- where there is a plex for each layout, each has the blocks
own_cover : (numbers : List ℕ) (layouts : List Layout) (start count : ℕ) (plexes : List PlexSeen) → length plexes ≡ length layouts →
    ((k : ℕ) (d : Layout) → k < length layouts → AreCut numbers (get_or layouts k d).unit (get_or layouts k d).columns start (start + count) (get_or (map own_pieces plexes) k [])) → AllCover count plexes
own_cover numbers [] start count plexes long cut = all_cover count plexes (λ k lt. absurd (omega (arith, lt, long)))
own_cover numbers (l ∷ ls) start count plexes long cut = all_cover count plexes (λ k lt. cut_covers numbers (get_or (l ∷ ls) k l).unit (get_or (l ∷ ls) k l).columns start count _ (cut k l (omega (arith, lt, long))))

-- a region is taken
pub region_taken : (numbers maps : List ℕ) (layouts : List Layout) (start count : ℕ) (plexes : List PlexSeen) → length maps ≡ length layouts → AreDifferent maps → map own_map plexes ≡ maps →
    ((k : ℕ) (d : Layout) → k < length layouts → AreCut numbers (get_or layouts k d).unit (get_or layouts k d).columns start (start + count) (get_or (map own_pieces plexes) k [])) →
    IsTakenRegion numbers maps layouts start count plexes
region_taken numbers maps layouts start count plexes long differ maps_are cut = record {
  maps_are = maps_are;
  cut = cut;
  cover = own_cover numbers layouts start count plexes (sym (long_own plexes) ∙ ap length maps_are ∙ long) cut;
  held = λ k. held_own plexes k ∙ ap (is_among k) maps_are;
  differ = differ_own plexes (subst AreDifferent (sym maps_are) differ);
}

-- what is seen of a list of plexes, with one more behind, and turned round
pub seen_last : {P : Type 0} (seen : P → Seen) (xs rest : List (Plex P)) (x : Plex P) → xs ≡ rest ++ x ∷ [] → plexes_seen seen xs ≡ plexes_seen seen rest ++ plex_seen seen x ∷ []
seen_last seen xs rest x e = ap (plexes_seen seen) e ∙ seen_more seen rest (x ∷ [])

pub seen_turned : {P : Type 0} (seen : P → Seen) (xs ys : List (Plex P)) → ys ≡ reverse xs → plexes_seen seen ys ≡ reverse (plexes_seen seen xs)
seen_turned seen xs ys e = ap (plexes_seen seen) e ∙ by xs
  where
    by : (xs : List _) → plexes_seen seen (reverse xs) ≡ reverse (plexes_seen seen xs)
    by [] = refl
    by (x ∷ xs) = ap (plexes_seen seen) (reverse-append (x ∷ []) xs) ∙ seen_more seen (reverse xs) (x ∷ []) ∙ ap (λ ys. ys ++ plex_seen seen x ∷ []) (by xs) ∙ sym (reverse-append (plex_seen seen x ∷ []) (plexes_seen seen xs))

pub seen_long : {P : Type 0} (seen : P → Seen) (xs : List (Plex P)) → length (plexes_seen seen xs) ≡ length xs
seen_long seen [] = refl
seen_long seen (x ∷ xs) = ap suc (seen_long seen xs)

-- Pieces that were parked as one plex, region by region.
use Rattle.std.proofs.Common.{◌≡◌, ◌∙◌, ℕ, zero, suc, ◌<◌, List, [], ◌∷◌, ◌++◌, length, map, Option, Some, None, true, refl, sym, ap, subst, arith}
use Rattle.std.specs.Prelude.{is_some, slice_index_or}
use Rattle.std.specs.List.{flat_map}
use Rattle.std.proofs.lemmas.Grind.{flat_map-append}
use Rattle.std.proofs.lemmas.List.{append-nil}
use Rattle.std.proofs.lemmas.List.Elements.{All-head, All-tail}
use Rattle.vx_base.specs.Blocks.{Contents}
use Rattle.vx_piece.specs.Seen.{Seen}
use Rattle.vx_runs.specs.Part.{Tells}
use Rattle.vx_runs.specs.Run.{RunTells}
use Rattle.vx_pages.specs.declared.local_piece.LocalPiece.{Ghosts}
use Rattle.vx_pages.specs.Items.{item_at}
use Rattle.vx_cell.specs.Plexes.{PlexSeen}
use Rattle.vx_fronts.specs.Rests.{AllTell, IsTelling}
use Rattle.vx_fronts.proofs.Parted.{all_parts}
use Rattle.vx_volume.specs.Opening.{regions_seen}
use Rattle.vx_lending.specs.RegionPieces.{all_pieces, pieces_of}
use Rattle.vx_lending.specs.RegionsTaken.{own_map}
use Rattle.vx_lending.specs.Pieces.{copy_pieces}
use Rattle.vx_lending.specs.Left.{left_copies}
use Rattle.vx_lending.specs.Public.{remaining_pieces, still_pieces}
use Rattle.vx_lending.specs.declared.public.Public.{Public}
use Rattle.vx_lending.specs.declared.public.Remains.{Remains}
use Rattle.vx_joined_volumes.specs.Joined.{plex_of_run}

-- a region of one plex with the map is that of its pieces
one_plex : (m : ℕ) (ps : List PlexSeen) → map own_map ps ≡ m ∷ [] → plex_of_run m (pieces_of ps) ≡ ps
one_plex m [] maps = absurd (let none : [] ≡ m ∷ [] = maps in cc)
one_plex m (p ∷ []) maps =
    let same : p.map ≡ m = cc in
    ap (λ k. (let x : PlexSeen = record { map = k; pieces = p.pieces ++ [] } in x) ∷ []) (sym same) ∙ ap (λ ps. (let x : PlexSeen = record { map = p.map; pieces = ps } in x) ∷ []) (append-nil p.pieces)
one_plex m (p ∷ q ∷ ps) maps = absurd (let long : p.map ∷ q.map ∷ map own_map ps ≡ m ∷ [] = maps in cc)

-- so are all regions
pub same_regions : (m : ℕ) (rs : List (List PlexSeen)) → ((r : ℕ) → r < length rs → map own_map (slice_index_or rs r []) ≡ m ∷ []) → map (plex_of_run m) (map pieces_of rs) ≡ rs
same_regions m [] each = refl
same_regions m (ps ∷ rs) each = let first = one_plex m ps (each 0 (omega arith)) in let rest = same_regions m rs (λ r lt. each (suc r) (omega (arith, lt))) in λ i. first i ∷ rest i

-- ---- what they tell

run_told : (ps : List Seen) → AllTell ps → RunTells ps
run_told [] tell = tt
run_told (p ∷ ps) tell = (by p.told (All-head IsTelling p ps tell), run_told ps (All-tail IsTelling p ps tell))
  where
    by : (o : Option Contents) → is_some o ≡ true → Tells o
    by None is = cc
    by (Some c) is = tt

-- each run tells what it holds, where all pieces do
pub runs_told : (rs : List (List PlexSeen)) → AllTell (all_pieces rs) → (r : ℕ) → RunTells (item_at [] (map pieces_of rs) r)
runs_told [] tell r = tt
runs_told (ps ∷ rs) tell zero = run_told (pieces_of ps) (all_parts IsTelling (pieces_of ps) (all_pieces rs) tell).0
runs_told (ps ∷ rs) tell (suc r) = runs_told rs (all_parts IsTelling (pieces_of ps) (all_pieces rs) tell).1 r

-- what is left over last tells, where all that lies still does
pub last_told : {P : Type 0} {ghosts : Ghosts P} (see : P → Seen) (p : Public P ghosts) (before : List (Remains P ghosts)) (last : Remains P ghosts) → p.left.items ≡ before ++ last ∷ [] → AllTell (still_pieces see p) → AllTell (all_pieces (regions_seen see last.regions.items))
last_told see p before last left tell =
    let over = (all_parts IsTelling (map see p.pool.items.items) (flat_map (remaining_pieces see) p.left.items) tell).1 in
    let split = subst AllTell (ap (flat_map (remaining_pieces see)) left ∙ flat_map-append (remaining_pieces see) before (last ∷ [])) over in
    let end = subst AllTell (append-nil (remaining_pieces see last)) (all_parts IsTelling (flat_map (remaining_pieces see) before) (flat_map (remaining_pieces see) (last ∷ [])) split).1 in
    (all_parts IsTelling (all_pieces (regions_seen see last.regions.items)) (copy_pieces (left_copies see last.log)) end).0

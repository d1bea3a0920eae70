-- A store that was created and then marked.
use Rattle.std.proofs.Common.{◌≡◌, ◌∙◌, ℕ, zero, suc, ◌/◌, ◌%◌, ◌<◌, ◌≤◌, Bool, true, false, List, [], ◌∷◌, Option, Some, None, refl, sym, ap, subst, arith, replicate}
use Rattle.std.specs.Option.{option_map}
use Rattle.std.proofs.lemmas.List.{get_or-replicate}
use Rattle.vx_base.specs.Counts.{Rose}
use Rattle.vx_mask.specs.Mask.{has}
use Rattle.vx_mask.specs.Marks.{Marks}
use Rattle.vx_piece.specs.Seen.{Seen}
use Rattle.vx_runs.specs.Run.{EachPiece}
use Rattle.vx_pages.specs.declared.local_piece.LocalPiece.{Ghosts}
use Rattle.vx_pages.specs.Pages.{grid_seen}
use Rattle.vx_pages.specs.Sector.{KeepsPiece, SectorSeen}
use Rattle.vx_pages.specs.Stays.{piece_then}
use Rattle.vx_maps.specs.declared.fault.StoreFault.{StoreFault}
use Rattle.vx_maps.specs.declared.fault.StoreFault.TheVariants.{OutOfMemory, NoCopy, Failed, PowerLost}
use Rattle.vx_maps.specs.declared.store.MapStore.{MapStore}
use Rattle.vx_maps.specs.Copies.{copies_list}
use Rattle.vx_maps.specs.Creating.{AllBeginWith, AreBlank}
use Rattle.vx_maps.specs.Going.{CopiesGo}
use Rattle.vx_maps.specs.Heads.{HasFirst, HasFirstSecond, HaveFirst}
use Rattle.vx_maps.specs.Sheets.{sheets_seen}
use Rattle.vx_maps.specs.Slots.{filled}
use Rattle.vx_maps.specs.Wholes.{copy_faults, store_copies, whole_copies}
use Rattle.vx_maps.proofs.HeadPlaces.{have_first, some_size}
use Rattle.vx_volume.specs.Bytes.{map_bit}
use Rattle.vx_lending.specs.Left.{IsNotFresh}
use Rattle.vx_lending.specs.Logs.{AreShown}
use Rattle.vx_lending.specs.Marking.{IsMarkRefused}

-- ---- pieces that go on and on

each_then : (xs ys zs : List Seen) → EachPiece KeepsPiece xs ys → EachPiece KeepsPiece ys zs → EachPiece KeepsPiece xs zs
each_then [] [] [] a b = tt
each_then [] [] (z ∷ zs) a b = absurd b
each_then [] (y ∷ ys) zs a b = absurd a
each_then (x ∷ xs) [] zs a b = absurd a
each_then (x ∷ xs) (y ∷ ys) [] a b = absurd b
each_then (x ∷ xs) (y ∷ ys) (z ∷ zs) a b = (piece_then x y z a.0 b.0, each_then xs ys zs a.1 b.1)

pub copies_then : (xs ys zs : List (List Seen)) → CopiesGo KeepsPiece xs ys → CopiesGo KeepsPiece ys zs → CopiesGo KeepsPiece xs zs
copies_then [] [] [] a b = tt
copies_then [] [] (z ∷ zs) a b = absurd b
copies_then [] (y ∷ ys) zs a b = absurd a
copies_then (x ∷ xs) [] zs a b = absurd a
copies_then (x ∷ xs) (y ∷ ys) [] a b = absurd b
copies_then (x ∷ xs) (y ∷ ys) (z ∷ zs) a b = (each_then x y z a.0 b.0, copies_then xs ys zs a.1 b.1)

-- ---- the first sectors, which no page has

heads_stay : (bytes : List ℕ) (size : ℕ) (g g' : List (List SectorSeen)) (first : List (Option Seen)) (second : Option (List (Option Seen))) → HasFirst first → HasFirstSecond second →
    AllBeginWith bytes (copies_list (filled size 0 g 0 first) (option_map (filled size 1 g 0) second)) → AllBeginWith bytes (copies_list (filled size 0 g' 0 first) (option_map (filled size 1 g' 0) second))
heads_stay bytes size g g' [] second f s h = let n = f.inside in absurd (omega (arith, n))
heads_stay bytes size g g' (None ∷ xs) second f s h = absurd f.single
heads_stay bytes size g g' (Some p ∷ xs) None f s h = h
heads_stay bytes size g g' (Some p ∷ xs) (Some []) f s h = let n = s.inside in absurd (omega (arith, n))
heads_stay bytes size g g' (Some p ∷ xs) (Some (None ∷ ys)) f s h = absurd s.single
heads_stay bytes size g g' (Some p ∷ xs) (Some (Some q ∷ ys)) f s h = h

pub heads_still : {P : Type 0} {ghosts : Ghosts P} (bytes : List ℕ) (store new : MapStore P ghosts) → new.base ≡ store.base → AllBeginWith bytes (store_copies ghosts.seen store) → AllBeginWith bytes (store_copies ghosts.seen new)
heads_still {ghosts = ghosts} bytes store new e h =
    let first : HaveFirst (sheets_seen ghosts.seen store.base.sheets) = have_first _ _ _ (some_size store.base.shape.regions store.base.shape.map_bytes store.base.shape.map_sized) store.base.laid in
    subst (λ base. AllBeginWith bytes (whole_copies (base.shape.map_bytes / 512) (grid_seen ghosts.seen new.pages.items) (sheets_seen ghosts.seen base.sheets))) (sym e)
    (heads_stay bytes (store.base.shape.map_bytes / 512) (grid_seen ghosts.seen store.pages.items) (grid_seen ghosts.seen new.pages.items) (sheets_seen ghosts.seen store.base.sheets).first (sheets_seen ghosts.seen store.base.sheets).second first.first first.second h)

-- ---- marks

pub blank_shown : (known : ℕ → Bool) (told : Option (ℕ → Marks)) → AreBlank told → AreShown (λ k. false) known told
blank_shown known None blank = absurd blank
blank_shown known (Some marks) blank = λ region here. ((λ n k. (blank region n k).0), (λ k. (blank region 0 k).1))

less_rose : (a b c : ℕ) → a ≤ b → Rose b c → Rose a c
less_rose a b c le rose = omega (arith, le, rose)

pub not_fresh : (f : StoreFault) (old new : List (List Seen)) (mid counts : ℕ → ℕ → ℕ) (cut : Bool) → ((copy device : ℕ) → copy_faults old copy device ≤ mid copy device) → IsMarkRefused f mid counts cut → IsNotFresh f old new counts cut
not_fresh OutOfMemory old new mid counts cut less h = absurd h
not_fresh NoCopy old new mid counts cut less h = absurd h
not_fresh (Failed copy device) old new mid counts cut less h = less_rose _ _ _ (less copy device) h
not_fresh PowerLost old new mid counts cut less h = h

-- ---- all bits of a map

full_byte : (k : ℕ) → k < 8 → has 255 k ≡ true
unfolding has
full_byte zero lt = refl
full_byte (suc zero) lt = refl
full_byte (suc (suc zero)) lt = refl
full_byte (suc (suc (suc zero))) lt = refl
full_byte (suc (suc (suc (suc zero)))) lt = refl
full_byte (suc (suc (suc (suc (suc zero))))) lt = refl
full_byte (suc (suc (suc (suc (suc (suc zero)))))) lt = refl
full_byte (suc (suc (suc (suc (suc (suc (suc zero))))))) lt = refl
full_byte (suc (suc (suc (suc (suc (suc (suc (suc k)))))))) lt = absurd (omega (arith, lt))

pub all_bits : (n region : ℕ) (bytes : List ℕ) → bytes ≡ replicate n 255 → region / 8 < n → map_bit bytes region ≡ true
all_bits n region bytes e lt = ap (λ (xs : List ℕ). map_bit xs region) e ∙ ap (λ (b : ℕ). has b (region % 8)) (get_or-replicate n (region / 8) 255 0 lt) ∙ full_byte (region % 8) (omega arith)

-- Pieces that are taken out of the pool and left over lie still.
use Rattle.std.proofs.Common.{◌≡◌, ◌∙◌, List, [], ◌∷◌, ◌++◌, sym, ap, subst, map, append_assoc, append-nil}
use Rattle.std.specs.Global.{Vec}
use Rattle.std.specs.List.{flat_map}
use Rattle.std.proofs.lemmas.List.Concat.{flat_map-append}
use Rattle.std.proofs.lemmas.List.Sorted.{IsPermutation-append_comm}
use Rattle.vx_piece.specs.Seen.{Seen}
use Rattle.vx_carve.specs.Together.{SameSectors}
use Rattle.vx_carve.proofs.Same.{same_beside, same_moved, same_trans}
use Rattle.vx_pages.specs.declared.local_piece.LocalPiece.{Ghosts}
use Rattle.vx_cell.specs.declared.plex.Plex.{Plex}
use Rattle.vx_volume.specs.Opening.{regions_seen}
use Rattle.vx_lending.specs.RegionPieces.{all_pieces}
use Rattle.vx_lending.specs.Pieces.{copy_pieces}
use Rattle.vx_lending.specs.Public.{remaining_pieces, still_pieces}
use Rattle.vx_lending.specs.declared.public.Public.{Public}
use Rattle.vx_lending.specs.declared.public.Remains.{Remains}
use Rattle.vx_plex_pieces.specs.Parked.{HasParked, IsWithoutLog}

one_more : {X : Type 0} (f : X → List Seen) (left left' : List X) (x : X) → left' ≡ left ++ x ∷ [] → flat_map f left' ≡ flat_map f left ++ f x
one_more f left left' x e = ap (flat_map f) e ∙ flat_map-append f left (x ∷ []) ∙ ap (λ (zs : List Seen). flat_map f left ++ zs) (append-nil (f x))

-- what is taken comes behind what was left over
pub still_left : {X : Type 0} (f : X → List Seen) (left left' : List X) (x : X) (ps xs qs : List Seen) → left' ≡ left ++ x ∷ [] → f x ≡ xs → SameSectors ps (xs ++ qs) → SameSectors (ps ++ flat_map f left) (qs ++ flat_map f left')
still_left f left left' x ps xs qs e own taken =
    let ls : List Seen = flat_map f left in
    let now : flat_map f left' ≡ ls ++ xs = one_more f left left' x e ∙ ap (λ (zs : List Seen). ls ++ zs) own in
    let moved : SameSectors (xs ++ (qs ++ ls)) ((qs ++ ls) ++ xs) = same_moved _ _ (IsPermutation-append_comm xs (qs ++ ls)) in
    subst (λ (zs : List Seen). SameSectors (ps ++ ls) (qs ++ zs)) (sym now)
    (subst (SameSectors (ps ++ ls)) (append_assoc qs ls xs) (same_trans _ _ _ (subst (SameSectors (ps ++ ls)) (append_assoc xs qs ls) (same_beside ls ps (xs ++ qs) taken)) moved))

-- what was left over last comes first
pub first_out : {X : Type 0} (f : X → List Seen) (left left' : List X) (x : X) (ps xs : List Seen) → left ≡ left' ++ x ∷ [] → f x ≡ xs → SameSectors (ps ++ flat_map f left) (xs ++ (ps ++ flat_map f left'))
first_out f left left' x ps xs e own =
    let ls : List Seen = flat_map f left' in
    let was : flat_map f left ≡ ls ++ xs = one_more f left' left x e ∙ ap (λ (zs : List Seen). ls ++ zs) own in
    subst (λ (zs : List Seen). SameSectors (ps ++ zs) (xs ++ (ps ++ ls))) (sym was)
    (subst (λ (zs : List Seen). SameSectors zs (xs ++ (ps ++ ls))) (append_assoc ps ls xs) (same_moved _ _ (IsPermutation-append_comm (ps ++ ls) xs)))

-- ---- a plex that is parked

-- pieces without those of a log
alone : {P : Type 0} {ghosts : Ghosts P} (see : P → Seen) (r : Remains P ghosts) → IsWithoutLog see r → remaining_pieces see r ≡ all_pieces (regions_seen see r.regions.items)
alone see r none = ap (λ (cs : List (List Seen)). all_pieces (regions_seen see r.regions.items) ++ copy_pieces cs) none ∙ append-nil (all_pieces (regions_seen see r.regions.items))

-- it is left over
pub parked_still : {P : Type 0} {ghosts : Ghosts P} (see : P → Seen) (regions : List (Vec (Plex P))) (old mid new : Public P ghosts) → mid.left.items ≡ old.left.items → HasParked see regions mid new → new.pool ≡ mid.pool →
    SameSectors (map see old.pool.items.items) (all_pieces (regions_seen see regions) ++ map see mid.pool.items.items) → SameSectors (still_pieces see old) (still_pieces see new)
parked_still see regions old mid new same has pool taken =
    let left : new.left.items ≡ old.left.items ++ has.last ∷ [] = has.left ∙ ap (λ rs. rs ++ has.last ∷ []) same in
    let own : remaining_pieces see has.last ≡ all_pieces (regions_seen see regions) = alone see has.last has.without ∙ ap (λ rs. all_pieces (regions_seen see rs)) has.regions_are in
    subst (λ p. SameSectors (still_pieces see old) (map see p.items.items ++ flat_map (remaining_pieces see) new.left.items)) (sym pool)
    (still_left (remaining_pieces see) old.left.items new.left.items has.last (map see old.pool.items.items) (all_pieces (regions_seen see regions)) (map see mid.pool.items.items) left own taken)

-- nothing is, where all was put back
pub put_still : {P : Type 0} {ghosts : Ghosts P} (see : P → Seen) (regions : List (Vec (Plex P))) (old new : Public P ghosts) → new.left.items ≡ old.left.items → regions ≡ [] →
    SameSectors (map see old.pool.items.items) (all_pieces (regions_seen see regions) ++ map see new.pool.items.items) → SameSectors (still_pieces see old) (still_pieces see new)
put_still see regions old new same none kept =
    subst (λ rs. SameSectors (still_pieces see old) (map see new.pool.items.items ++ flat_map (remaining_pieces see) rs)) (sym same)
    (same_beside (flat_map (remaining_pieces see) old.left.items) (map see old.pool.items.items) (map see new.pool.items.items)
    (subst (λ rs. SameSectors (map see old.pool.items.items) (all_pieces (regions_seen see rs) ++ map see new.pool.items.items)) none kept))

-- it is taken again
pub unparked_still : {P : Type 0} {ghosts : Ghosts P} (see : P → Seen) (old new : Public P ghosts) (last : Remains P ghosts) → new.pool ≡ old.pool → old.left.items ≡ new.left.items ++ last ∷ [] → IsWithoutLog see last →
    SameSectors (still_pieces see old) (all_pieces (regions_seen see last.regions.items) ++ still_pieces see new)
unparked_still see old new last pool left none =
    subst (λ p. SameSectors (still_pieces see old) (all_pieces (regions_seen see last.regions.items) ++ (map see p.items.items ++ flat_map (remaining_pieces see) new.left.items))) (sym pool)
    (first_out (remaining_pieces see) old.left.items new.left.items last (map see old.pool.items.items) (all_pieces (regions_seen see last.regions.items)) left (alone see last none))

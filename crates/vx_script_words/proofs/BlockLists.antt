-- Blocks that are kept as one byte or whole, and their bytes.
use Rattle.std.proofs.Common.{◌≡◌, ◌∙◌, ap, ap₂, refl, ℕ, zero, suc, ◌+◌, ◌*◌, ◌<◌, true, List, [], ◌∷◌, ◌++◌, length, take, drop, get_or, replicate, arith, eqb-true}
use Rattle.std.specs.Prelude.{◌==◌}
use Rattle.std.specs.List.{list_all, flat_map}
use Rattle.std.proofs.lemmas.Bool.{and_parts}
use Rattle.std.proofs.lemmas.List.{length-append}
use Rattle.vx_script_words.specs.Blocks.{block_bytes, is_whole, block_at}
use Rattle.vx_script_words.specs.declared.block.BlockOf.{BlockOf}

-- so many bytes as the blocks have
pub whole_length : (bs : List BlockOf) → list_all is_whole bs ≡ true → length (flat_map block_bytes bs) ≡ 512 * length bs
whole_length [] h = refl
whole_length (b ∷ bs) h =
    let parts = and_parts (is_whole b) (list_all is_whole bs) h in
    let one : length (block_bytes b) ≡ 512 = eqb-true _ 512 parts.0 in
    omega (arith, one, whole_length bs parts.1, length-append (block_bytes b) (flat_map block_bytes bs))

take_first : (n : ℕ) (xs ys : List ℕ) → length xs ≡ n → take n (xs ++ ys) ≡ xs
take_first zero [] ys e = refl
take_first zero (x ∷ xs) ys e = absurd (omega (arith, e))
take_first (suc n) [] ys e = absurd (omega (arith, e))
take_first (suc n) (x ∷ xs) ys e = ap (λ (t : List ℕ). x ∷ t) (take_first n xs ys (omega (arith, e)))

drop_first : (n m : ℕ) (xs ys : List ℕ) → length xs ≡ n → drop (n + m) (xs ++ ys) ≡ drop m ys
drop_first zero m [] ys e = (let none : 0 + m ≡ m = omega arith in ap (λ k. drop k ys) none)
drop_first zero m (x ∷ xs) ys e = absurd (omega (arith, e))
drop_first (suc n) m [] ys e = absurd (omega (arith, e))
drop_first (suc n) m (x ∷ xs) ys e =
    let more : suc n + m ≡ suc (n + m) = omega arith in
    ap (λ k. drop k (x ∷ (xs ++ ys))) more ∙ drop_first n m xs ys (omega (arith, e))

-- the block at an index is the one that is kept there
pub block_there : (bs : List BlockOf) (i : ℕ) (d : BlockOf) → list_all is_whole bs ≡ true → i < length bs → block_at i (flat_map block_bytes bs) ≡ block_bytes (get_or bs i d)
block_there [] i d h k = absurd (omega (arith, k))
block_there (b ∷ bs) zero d h k = take_first 512 (block_bytes b) (flat_map block_bytes bs) (eqb-true _ 512 (and_parts (is_whole b) (list_all is_whole bs) h).0)
block_there (b ∷ bs) (suc i) d h k =
    let parts = and_parts (is_whole b) (list_all is_whole bs) h in
    let more : 512 * suc i ≡ 512 + 512 * i = omega arith in
    ap (λ n. take 512 (drop n (block_bytes b ++ flat_map block_bytes bs))) more ∙ ap (take 512) (drop_first 512 (512 * i) (block_bytes b) (flat_map block_bytes bs) (eqb-true _ 512 parts.0)) ∙ block_there bs i d parts.1 (omega (arith, k))

-- bytes that are all equal
pub all_same : (bs : List ℕ) (b : ℕ) → list_all (λ x. x == b) bs ≡ true → bs ≡ replicate (length bs) b
all_same [] b h = refl
all_same (x ∷ xs) b h =
    let parts = and_parts (x == b) (list_all (λ y. y == b) xs) h in
    ap₂ (λ (y : ℕ) (ys : List ℕ). y ∷ ys) (eqb-true x b parts.0) (all_same xs b parts.1)

pub whole_there : (bs : List BlockOf) (i : ℕ) (d : BlockOf) → list_all is_whole bs ≡ true → i < length bs → is_whole (get_or bs i d) ≡ true
whole_there [] i d h k = absurd (omega (arith, k))
whole_there (b ∷ bs) zero d h k = (and_parts (is_whole b) (list_all is_whole bs) h).0
whole_there (b ∷ bs) (suc i) d h k = whole_there bs i d (and_parts (is_whole b) (list_all is_whole bs) h).1 (omega (arith, k))

-- the index of a block that begins among all bytes
pub inside : (bs : List BlockOf) (all : List ℕ) (i : ℕ) → list_all is_whole bs ≡ true → flat_map block_bytes bs ≡ all → 512 * i < length all → i < length bs
inside bs all i h e some = omega (arith, some, ap length e, whole_length bs h)

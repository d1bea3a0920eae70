-- Sectors of bytes that are written in part, cut in two, or joined.
use Rattle.std.proofs.Common.{◌≡◌, ◌⊎◌, ℕ, ◌+◌, ◌-◌, ◌*◌, ◌%◌, ◌<◌, ◌≤◌, List, ◌++◌, length, take, drop, arith, sym, ◌∙◌, ap, subst, refl, inl, inr}
use Rattle.std.proofs.lemmas.List.{length-append, length-drop, length-take-le, take-append-le, drop-append-le, drop-drop, drop_at, drop_all, take_all}
use Rattle.std.proofs.lemmas.Bool.{lt-ltb, le-ltb, cases_lt, cond-true, cond-false}
use Rattle.vx_base.specs.Blocks.{block_at, blocks_in, written, IsTorn}
use Rattle.vx_base.proofs.BlockLemmas.{part_of_part, block_at-put, IsTorn-put}
use Rattle.vx_piece.specs.Told.{front_of, back_of, joined_of}
use Rattle.vx_piece.proofs.Contents.{same_contents}

-- the bytes with the first sectors of others put in
abbrev pub put_good : List ℕ → List ℕ → ℕ → ℕ → List ℕ
put_good bs from at good = take (512 * at) bs ++ take (512 * good) from ++ drop (512 * at + 512 * good) bs

module _ (bs from : List ℕ) (at good : ℕ) (fits : 512 * at + length from ≤ length bs) (few : 512 * good ≤ length from) where
  len : length (take (512 * good) from) ≡ 512 * good
  len = length-take-le (512 * good) from few

  spelled : put_good bs from at good ≡ take (512 * at) bs ++ take (512 * good) from ++ drop (512 * at + length (take (512 * good) from)) bs
  spelled = ap (λ n. take (512 * at) bs ++ take (512 * good) from ++ drop (512 * at + n) bs) (sym len)

  -- the first sectors are new, and all others are old
  pub block_at-put_good : (k : ℕ) → block_at (put_good bs from at good) k ≡ written at (take (512 * good) from) (block_at bs) k
  block_at-put_good k = ap (λ xs. block_at xs k) spelled ∙ block_at-put bs (take (512 * good) from) at (omega (arith, len)) (omega (arith, len)) k

  -- each sector is old, or as the whole write makes it
  pub put_good-is_torn : IsTorn at from (block_at bs) (block_at (put_good bs from at good))
  put_good-is_torn k = subst (λ xs. (block_at xs k ≡ block_at bs k) ⊎ (block_at xs k ≡ written at from (block_at bs) k)) (sym spelled) (IsTorn-put bs from at good fits few k)

  -- once all are good, the write is whole
  pub put_good-all : length from ≡ 512 * good → (k : ℕ) → block_at (put_good bs from at good) k ≡ written at from (block_at bs) k
  put_good-all whole k = block_at-put_good k ∙ ap (λ xs. written at xs (block_at bs) k) (take_all (512 * good) from (omega (arith, whole)))

part_of_front : (xs ys : List ℕ) (m o : ℕ) → o + m ≤ length xs → take m (drop o (xs ++ ys)) ≡ take m (drop o xs)
part_of_front xs ys m o fits = ap (take m) (drop-append-le o xs ys (omega arith)) ∙ take-append-le m (drop o xs) ys (omega (arith, length-drop o xs))

part_of_back : (xs ys : List ℕ) (m o p : ℕ) → length xs ≡ p → take m (drop (p + o) (xs ++ ys)) ≡ take m (drop o ys)
part_of_back xs ys m o p len = ap (take m) (sym (drop-drop o p (xs ++ ys)) ∙ ap (drop o) (drop_at xs ys p len))

block_at-front : (xs ys : List ℕ) (k : ℕ) → k < blocks_in xs → block_at (xs ++ ys) k ≡ block_at xs k
block_at-front xs ys k lt = part_of_front xs ys 512 (512 * k) (omega arith)

block_at-back : (xs ys : List ℕ) (k : ℕ) → length xs % 512 ≡ 0 → blocks_in xs ≤ k → block_at (xs ++ ys) k ≡ block_at ys (k - blocks_in xs)
block_at-back xs ys k whole le =
    let place : 512 * k ≡ length xs + 512 * (k - blocks_in xs) = omega (arith, le, whole) in
    ap (λ i. take 512 (drop i (xs ++ ys))) place ∙ part_of_back xs ys 512 (512 * (k - blocks_in xs)) (length xs) refl

-- joined bytes: first the sectors of the one, and then those of the other
pub joined_bytes : (xs ys : List ℕ) → length xs % 512 ≡ 0 → block_at (xs ++ ys) ≡ joined_of (blocks_in xs) (block_at xs) (block_at ys)
joined_bytes xs ys whole = same_contents _ _ (λ k. elim (cases_lt k (blocks_in xs)) [
  | inl lt ↦ block_at-front xs ys k lt ∙ sym (cond-true _ _ _ (lt-ltb k (blocks_in xs) lt))
  | inr le ↦ block_at-back xs ys k whole le ∙ sym (cond-false _ _ _ (le-ltb k (blocks_in xs) le))
])

pub blocks_in-append : (xs ys : List ℕ) → length xs % 512 ≡ 0 → blocks_in (xs ++ ys) ≡ blocks_in xs + blocks_in ys
blocks_in-append xs ys whole = omega (arith, length-append xs ys)

block_at-take : (bs : List ℕ) (at k : ℕ) → k < at → block_at (take (512 * at) bs) k ≡ block_at bs k
block_at-take bs at k lt =
    let place : 0 + 512 * k ≡ 512 * k = omega arith in
    part_of_part bs 512 (512 * k) (512 * at) 0 (omega arith) ∙ ap (λ i. take 512 (drop i bs)) place

-- bytes cut in two
pub front_bytes : (bs : List ℕ) (at : ℕ) → 512 * at ≤ length bs → block_at (take (512 * at) bs) ≡ front_of at (block_at bs)
front_bytes bs at fits = same_contents _ _ (λ k. elim (cases_lt k at) [
  | inl lt ↦ block_at-take bs at k lt ∙ sym (cond-true _ _ _ (lt-ltb k at lt))
  | inr le ↦
      let short : length (take (512 * at) bs) ≤ 512 * k = omega (arith, le, length-take-le (512 * at) bs fits) in
      ap (take 512) (drop_all (512 * k) (take (512 * at) bs) short) ∙ sym (cond-false _ _ _ (le-ltb k at le))
])

pub back_bytes : (bs : List ℕ) (at : ℕ) → block_at (drop (512 * at) bs) ≡ back_of at (block_at bs)
back_bytes bs at = same_contents _ _ (λ k.
    let place : 512 * at + 512 * k ≡ 512 * (at + k) = omega arith in
    ap (take 512) (drop-drop (512 * k) (512 * at) bs ∙ ap (λ i. drop i bs) place))

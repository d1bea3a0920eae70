-- What reading and writing whole blocks does to the block at each index.
use Rattle.std.proofs.Common.{zero-add, ◌≡◌, ◌⊎◌, ℕ, ◌+◌, ◌-◌, ◌*◌, ◌/◌, ◌%◌, ◌<◌, ◌≤◌, true, false, List, ◌++◌, length, take, drop, arith, sym, ◌∙◌, ap, inl, inr}
use Rattle.std.proofs.lemmas.List.{length-drop, length-append, length-take-le, drop-take, take-take, drop-drop, drop_at, drop-append-le, take-append-le, append_assoc}
use Rattle.std.proofs.lemmas.Bool.{and_from, and_left, and_right, le-leb, lt-ltb, lt-leb, le-ltb, cases_lt, cond-true, cond-false}
use Rattle.vx_base.specs.Blocks.{block_at, blocks_in, written, is_in}

-- a part of a part
pub part_of_part : (bs : List ℕ) (m o n p : ℕ) → o + m ≤ n → take m (drop o (take n (drop p bs))) ≡ take m (drop (p + o) bs)
part_of_part bs m o n p fits =
    let split : n ≡ o + (n - o) = omega arith in
    let first : drop o (take n (drop p bs)) ≡ take (n - o) (drop o (drop p bs)) = ap (λ i. drop o (take i (drop p bs))) split ∙ drop-take o (n - o) (drop p bs) in
    ap (take m) first ∙ take-take m (n - o) (drop o (drop p bs)) (omega arith) ∙ ap (take m) (drop-drop o p bs)

part_of_front : (xs ys : List ℕ) (m o : ℕ) → o + m ≤ length xs → take m (drop o (xs ++ ys)) ≡ take m (drop o xs)
part_of_front xs ys m o fits =
    ap (take m) (drop-append-le o xs ys (omega arith)) ∙ take-append-le m (drop o xs) ys (omega (arith, length-drop o xs))

part_of_back : (xs ys : List ℕ) (m o p : ℕ) → length xs ≡ p → p ≤ o → take m (drop o (xs ++ ys)) ≡ take m (drop (o - p) ys)
part_of_back xs ys m o p len le =
    let split : o ≡ p + (o - p) = omega arith in
    ap (take m) (ap (λ i. drop i (xs ++ ys)) split ∙ sym (drop-drop (o - p) p (xs ++ ys)) ∙ ap (drop (o - p)) (drop_at xs ys p len))

module _ (bs from : List ℕ) (p : ℕ) (fits : p + length from ≤ length bs) where
  put_at : List ℕ
  put_at = take p bs ++ from ++ drop (p + length from) bs

  front_len : length (take p bs) ≡ p
  front_len = length-take-le p bs (omega arith)

  below : (m o : ℕ) → o + m ≤ p → take m (drop o put_at) ≡ take m (drop o bs)
  unfolding put_at
  below m o le =
      ap (λ xs. take m (drop o xs)) (append_assoc (take p bs) from (drop (p + length from) bs))
      ∙ part_of_front (take p bs) (from ++ drop (p + length from) bs) m o (omega (arith, front_len))
      ∙ part_of_part bs m o p 0 le ∙ ap (λ i. take m (drop i bs)) (zero-add o)

  within : (m o : ℕ) → p ≤ o → o + m ≤ p + length from → take m (drop o put_at) ≡ take m (drop (o - p) from)
  unfolding put_at
  within m o le lt =
      ap (λ xs. take m (drop o xs)) (append_assoc (take p bs) from (drop (p + length from) bs))
      ∙ part_of_back (take p bs) (from ++ drop (p + length from) bs) m o p front_len le
      ∙ part_of_front from (drop (p + length from) bs) m (o - p) (omega arith)

  above : (m o : ℕ) → p + length from ≤ o → take m (drop o put_at) ≡ take m (drop o bs)
  unfolding put_at
  above m o le =
      let back : o ≡ (p + length from) + (o - (p + length from)) = omega arith in
      part_of_back (take p bs ++ from) (drop (p + length from) bs) m o (p + length from) (omega (arith, front_len, length-append (take p bs) from)) le
      ∙ ap (take m) (drop-drop (o - (p + length from)) (p + length from) bs ∙ ap (λ i. drop i bs) (sym back))

-- a block of a part of the bytes
pub block_at-part : (bs : List ℕ) (at n k : ℕ) → k < n / 512 → block_at (take n (drop (512 * at) bs)) k ≡ block_at bs (at + k)
block_at-part bs at n k lt =
    let place : 512 * at + 512 * k ≡ 512 * (at + k) = omega arith in
    part_of_part bs 512 (512 * k) n (512 * at) (omega arith) ∙ ap (λ i. take 512 (drop i bs)) place

pub is_in-true : (at n k : ℕ) → at ≤ k → k < at + n → is_in at n k ≡ true
is_in-true at n k le lt = and_from _ _ (le-leb at k le) (lt-ltb k (at + n) lt)

pub is_in-before : (at n k : ℕ) → k < at → is_in at n k ≡ false
is_in-before at n k lt = and_left _ _ (lt-leb at k lt)

pub is_in-after : (at n k : ℕ) → at + n ≤ k → is_in at n k ≡ false
is_in-after at n k le = and_right _ _ (le-ltb k (at + n) le)

-- an index lies in the range, or before it or behind it
pub is_in_cases : (at n k : ℕ) → ((at ≤ k) × (k < at + n)) ⊎ ((k < at) ⊎ (at + n ≤ k))
is_in_cases at n k = elim (cases_lt k at) [ inl lt ↦ inr (inl lt) | inr le ↦ elim (cases_lt k (at + n)) [ inl lt ↦ inl (le, lt) | inr after ↦ inr (inr after) ] ]

pub written_in : (at : ℕ) (from : List ℕ) (old : ℕ → List ℕ) (k : ℕ) → at ≤ k → k < at + blocks_in from → written at from old k ≡ block_at from (k - at)
written_in at from old k le lt = cond-true _ _ _ (is_in-true at (blocks_in from) k le lt)

pub written_out : (at : ℕ) (from : List ℕ) (old : ℕ → List ℕ) (k : ℕ) → is_in at (blocks_in from) k ≡ false → written at from old k ≡ old k
written_out at from old k out = cond-false _ _ _ out

-- the blocks after a write of whole blocks
pub block_at-put : (bs from : List ℕ) (at : ℕ) → 512 * at + length from ≤ length bs → length from % 512 ≡ 0 → (k : ℕ) → block_at (take (512 * at) bs ++ from ++ drop (512 * at + length from) bs) k ≡ written at from (block_at bs) k
unfolding put_at
block_at-put bs from at fits whole k =
    elim (is_in_cases at (blocks_in from) k) [
      | inl h ↦
          let place : 512 * k - 512 * at ≡ 512 * (k - at) = omega (arith, h.0) in
          within bs from (512 * at) fits 512 (512 * k) (omega (arith, h.0)) (omega (arith, h.1, whole)) ∙ ap (λ i. take 512 (drop i from)) place ∙ sym (written_in at from (block_at bs) k h.0 h.1)
      | inr out ↦ elim out [
        | inl lt ↦ below bs from (512 * at) fits 512 (512 * k) (omega arith) ∙ sym (written_out at from (block_at bs) k (is_in-before at (blocks_in from) k lt))
        | inr le ↦ above bs from (512 * at) fits 512 (512 * k) (omega (arith, whole)) ∙ sym (written_out at from (block_at bs) k (is_in-after at (blocks_in from) k le))
      ]
    ]

-- the blocks after a write of the first of these blocks alone
pub IsTorn-put : (bs from : List ℕ) (at good : ℕ) → 512 * at + length from ≤ length bs → 512 * good ≤ length from → (k : ℕ) → let part : List ℕ = take (512 * good) from in
    (block_at (take (512 * at) bs ++ part ++ drop (512 * at + length part) bs) k ≡ block_at bs k) ⊎ (block_at (take (512 * at) bs ++ part ++ drop (512 * at + length part) bs) k ≡ written at from (block_at bs) k)
IsTorn-put bs from at good fits few k =
    let len : length (take (512 * good) from) ≡ 512 * good = length-take-le (512 * good) from few in
    let n : blocks_in (take (512 * good) from) ≡ good = omega (arith, len) in
    let put = block_at-put bs (take (512 * good) from) at (omega (arith, len)) (omega (arith, len)) k in
    elim (is_in_cases at good k) [
      | inl h ↦ inr (put ∙ written_in at (take (512 * good) from) (block_at bs) k h.0 (omega (arith, n, h.1)) ∙ part_of_part from 512 (512 * (k - at)) (512 * good) 0 (omega (arith, h.0, h.1)) ∙ ap (λ i. take 512 (drop i from)) (zero-add (512 * (k - at))) ∙ sym (written_in at from (block_at bs) k h.0 (omega (arith, h.1))))
      | inr out ↦ inl (put ∙ written_out at (take (512 * good) from) (block_at bs) k (elim out [ inl lt ↦ is_in-before at _ k lt | inr le ↦ is_in-after at _ k (omega (arith, n, le)) ]))
    ]

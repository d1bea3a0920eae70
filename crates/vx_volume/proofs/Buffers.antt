-- The bytes of a part among those of its range.
use Rattle.std.proofs.Common.{◌≡◌, ℕ, ◌+◌, ◌-◌, ◌≤◌, List, ◌++◌, length, take, drop, sym, ap, ◌∙◌, arith, length-drop}
use Rattle.std.proofs.lemmas.List.{append-nil, drop-take, length-take-le, take_all}
use Rattle.std.proofs.lemmas.Slice.{between-put_mid, take-put_mid_below}
use Rattle.std.proofs.Math.ListN.{drop_of_length-le}
use borrow.Rule.Slice.PartMut.{mid_of, put_mid, same_len_mid}
use lib.Seq.{take-take}

-- a stretch is the same where all the bytes before its end are
pub stretch_same : (xs ys : List ℕ) (o n m : ℕ) → o + n ≤ m → take m xs ≡ take m ys → take n (drop o xs) ≡ take n (drop o ys)
stretch_same xs ys o n m fits same =
    sym (drop-take o n xs)
    ∙ ap (drop o) (sym (take-take (o + n) m xs fits) ∙ ap (take (o + n)) same ∙ take-take (o + n) m ys fits)
    ∙ drop-take o n ys

module _ (xs : List ℕ) (o n from to : ℕ) (from_is : from ≡ o) (to_is : to ≡ o + n) where
  -- a stretch that ends inside has its length
  pub stretch_long : o + n ≤ length xs → length (take (to - from) (drop from xs)) ≡ n
  stretch_long fits = length-take-le (to - from) (drop from xs) (omega (arith, length-drop from xs, fits)) ∙ omega (arith, from_is, to_is)

  pub stretch_is : take (to - from) (drop from xs) ≡ take n (drop o xs)
  stretch_is =
      let long : to - from ≡ n = omega (arith, from_is, to_is) in
      ap (λ k. take k (drop from xs)) long ∙ ap (λ k. take n (drop k xs)) from_is

-- ---- a buffer into a stretch of which something was written

module _ (o n from to len : ℕ) (xs ys whole : List ℕ) (from_is : from ≡ o) (to_is : to ≡ o + n) (same : xs ≡ whole) (room : o + n ≤ length whole) (fits : length ys ≡ n) (all : len ≡ length whole) where
  between_long : length (mid_of from (to - from) xs) ≡ to - from
  between_long = length-take-le (to - from) (drop from xs) (omega (arith, length-drop from xs, ap length same, room, from_is, to_is))

  put_long : length (put_mid from (to - from) xs ys) ≡ length whole
  put_long = same_len_mid from (to - from) xs ys (omega (arith, fits, between_long, from_is, to_is)) ∙ ap length same

  -- what the loan of the buffer leaves
  loan_is : take len (put_mid from (to - from) xs ys ++ drop (length (put_mid from (to - from) xs ys)) whole) ≡ put_mid from (to - from) xs ys
  loan_is =
      ap (λ d. take len (put_mid from (to - from) xs ys ++ d)) (drop_of_length-le whole (omega (arith, put_long)))
      ∙ ap (take len) (append-nil (put_mid from (to - from) xs ys))
      ∙ take_all len (put_mid from (to - from) xs ys) (omega (arith, put_long, all))

  pub put_there : take n (drop o (take len (put_mid from (to - from) xs ys ++ drop (length (put_mid from (to - from) xs ys)) whole))) ≡ ys
  put_there =
      ap (λ l. take n (drop o l)) loan_is
      ∙ sym (stretch_is (put_mid from (to - from) xs ys) o n from to from_is to_is)
      ∙ between-put_mid from (to - from) xs ys to (omega (arith, ap length same, room, from_is)) (omega (arith, fits, from_is, to_is))

  pub put_before : take o (take len (put_mid from (to - from) xs ys ++ drop (length (put_mid from (to - from) xs ys)) whole)) ≡ take o whole
  put_before =
      ap (take o) loan_is
      ∙ take-put_mid_below from (to - from) xs ys o (omega (arith, from_is)) (omega (arith, ap length same, room, from_is))
      ∙ ap (take o) same

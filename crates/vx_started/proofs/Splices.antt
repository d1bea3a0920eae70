-- A buffer into a part of which something was read.
use Rattle.std.proofs.Common.{◌≡◌, ℕ, ◌-◌, ◌≤◌, List, ◌++◌, length, take, drop, sym, ap, ◌∙◌, arith, length-append, length-drop}
use Rattle.std.proofs.Math.ListN.{drop_of_length-le}
use Rattle.std.proofs.lemmas.List.{length-take-le, take-append-drop, append-nil, take_all}
use Rattle.std.proofs.lemmas.Slice.{take-put_mid, drop-put_mid}
use borrow.Rule.Slice.PartMut.{put_mid}

module _ (xs ys whole : List ℕ) (from to len : ℕ) (same : xs ≡ whole) (order : from ≤ to) (room : to ≤ length whole) (fits : length ys ≡ to - from) (all : len ≡ length whole) where
  there : to ≤ length xs
  there = omega (arith, ap length same, room)

  put : put_mid from (to - from) xs ys ≡ take from whole ++ ys ++ drop to whole
  put =
      sym (take-append-drop to (put_mid from (to - from) xs ys))
      ∙ ap (λ front. front ++ drop to (put_mid from (to - from) xs ys)) (take-put_mid from (to - from) xs ys to (omega (arith, fits, order)) (omega (arith, there, order)))
      ∙ ap (λ back. (take from xs ++ ys) ++ back) (drop-put_mid from (to - from) xs ys to (omega (arith, order)) (omega (arith, there, order)) fits)
      ∙ ap (λ l. (take from l ++ ys) ++ drop to l) same

  put_length : length (take from whole ++ ys ++ drop to whole) ≡ length whole
  put_length = omega (arith, length-append (take from whole ++ ys) (drop to whole), length-append (take from whole) ys, length-take-le from whole (omega (arith, order, room)), length-drop to whole, fits, order, room)

  pub spliced : take len (put_mid from (to - from) xs ys ++ drop (length (put_mid from (to - from) xs ys)) whole) ≡ take from whole ++ ys ++ drop to whole
  spliced =
      ap (λ p. take len (p ++ drop (length p) whole)) put
      ∙ ap (λ d. take len ((take from whole ++ ys ++ drop to whole) ++ d)) (drop_of_length-le whole (omega (arith, put_length)))
      ∙ ap (take len) (append-nil (take from whole ++ ys ++ drop to whole))
      ∙ take_all len (take from whole ++ ys ++ drop to whole) (omega (arith, put_length, all))

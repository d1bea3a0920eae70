-- Contents that agree at each index are the same, so what is told of a part or of a joined run is known wholly.
use Rattle.std.proofs.Common.{◌≡◌, ◌∙◌, ℕ, ◌+◌, ◌-◌, ◌<◌, ◌≤◌, [], Option, Some, None, IfSome, sym, ap, refl, arith, inl, inr, zero-add}
use Rattle.std.proofs.lemmas.Bool.{lt-ltb, le-ltb, cases_lt, cond-true, cond-false}
use Rattle.vx_base.specs.Blocks.{Contents}
use Rattle.vx_piece.specs.Seen.{Seen, EndsThere, IsPartTold, JoinTold}
use Rattle.vx_piece.specs.Told.{front_of, joined_of, front_told, back_told, joined_told}

pub same_contents : (a b : Contents) → ((k : ℕ) → a k ≡ b k) → a ≡ b
same_contents a b same = λ i k. same k i

-- two runs of one size that tell the same sectors tell the same
pub same_told : (a b : Seen) → EndsThere a → EndsThere b → b.sectors ≡ a.sectors → IsPartTold 0 a.sectors a.told b.told → b.told ≡ a.told
same_told a b ends ends' size same = by a.told b.told ends ends' same
  where
    by : (told told' : Option Contents) → IfSome told (λ c. (k : ℕ) → a.sectors ≤ k → c k ≡ []) → IfSome told' (λ c. (k : ℕ) → b.sectors ≤ k → c k ≡ []) → IsPartTold 0 a.sectors told told' → told' ≡ told
    by None None e e' s = refl
    by None (Some d) e e' s = absurd s
    by (Some c) None e e' s = absurd s
    by (Some c) (Some d) e e' s = ap Some (same_contents d c (λ k. elim (cases_lt k a.sectors) [ inl lt ↦ s k lt ∙ ap c (zero-add k) | inr le ↦ e' k (omega (arith, le, size)) ∙ sym (e k le) ]))

pub front_in : (n : ℕ) (c : Contents) (k : ℕ) → k < n → front_of n c k ≡ c k
front_in n c k lt = cond-true _ _ _ (lt-ltb k n lt)

pub joined_first : (n : ℕ) (a b : Contents) (k : ℕ) → k < n → joined_of n a b k ≡ a k
joined_first n a b k lt = cond-true _ _ _ (lt-ltb k n lt)

pub joined_second : (n : ℕ) (a b : Contents) (k : ℕ) → joined_of n a b (n + k) ≡ b k
joined_second n a b k = let back : n + k - n ≡ k = omega arith in cond-false _ _ _ (le-ltb (n + k) n (omega arith)) ∙ ap b back

-- sector by sector: the front, the back, and what is joined
pub front_part : (n : ℕ) (whole front : Option Contents) → front ≡ front_told n whole → IsPartTold 0 n whole front
front_part n None None is = tt
front_part n None (Some c) is = cc
front_part n (Some c) None is = cc
front_part n (Some c) (Some d) is = λ k lt. let same : d ≡ front_of n c = cc in ap (λ f. f k) same ∙ front_in n c k lt ∙ ap c (sym (zero-add k))

pub back_part : (at n : ℕ) (whole back : Option Contents) → back ≡ back_told at whole → IsPartTold at n whole back
back_part at n None None is = tt
back_part at n None (Some c) is = cc
back_part at n (Some c) None is = cc
back_part at n (Some c) (Some d) is = λ k lt. let same : d ≡ (λ j. c (at + j)) = cc in ap (λ f. f k) same

pub joined_parts : (n m : ℕ) (first second joined : Option Contents) → joined ≡ joined_told n first second → JoinTold n m first second joined
joined_parts n m None second joined is = is
joined_parts n m (Some a) None joined is = is
joined_parts n m (Some a) (Some b) None is = cc
joined_parts n m (Some a) (Some b) (Some c) is =
    let same : c ≡ joined_of n a b = cc in
    (λ k lt. ap (λ f. f k) same ∙ joined_first n a b k lt, λ k lt. ap (λ f. f (n + k)) same ∙ joined_second n a b k)

-- How many members of a mask are below a map.
use Rattle.std.proofs.Common.{◌≡◌, ◌≢◌, inl, inr, ℕ, zero, suc, ◌+◌, ◌%◌, ◌<◌, ◌^◌, Bool, true, false, refl, sym, ◌∙◌, subst, arith}
use Rattle.vx_mask.specs.Mask.{has, lowest}
use Rattle.vx_mask.proofs.MaskLemmas.{lowest_there}
use Rattle.vx_mask.proofs.Tests.{not_both, true_or_false}
use Rattle.vx_picker.specs.Picks.{members_below}

pub none_below : (mask : ℕ) → members_below mask 0 ≡ 0
unfolding members_below
none_below mask = refl

next : (k : ℕ) → suc k ≡ k + 1
next k = omega arith

one_more_at : (mask k : ℕ) → has mask k ≡ true → members_below mask (suc k) ≡ members_below mask k + 1
unfolding members_below
one_more_at mask k there = rw there refl

no_more_at : (mask k : ℕ) → has mask k ≡ false → members_below mask (suc k) ≡ members_below mask k
unfolding members_below
no_more_at mask k out = rw out refl

pub one_more : (mask k : ℕ) → has mask k ≡ true → members_below mask (k + 1) ≡ members_below mask k + 1
one_more mask k there = subst (λ (n : ℕ). members_below mask n ≡ members_below mask k + 1) (next k) (one_more_at mask k there)

pub no_more : (mask k : ℕ) → has mask k ≡ false → members_below mask (k + 1) ≡ members_below mask k
no_more mask k out = subst (λ (n : ℕ). members_below mask n ≡ members_below mask k) (next k) (no_more_at mask k out)

-- where a member is below the map, there is one
some_below : (mask k n : ℕ) → has mask k ≡ true → k < n → 0 < members_below mask n
some_below mask k zero there lt = omega (arith, lt)
some_below mask k (suc n) there lt =
    elim (true_or_false (has mask n)) [
      | inl here ↦ let e = one_more_at mask n here in omega (arith, e)
      | inr out ↦ let e = no_more_at mask n out in let more = some_below mask k n there (below k n lt (λ same. not_both (subst (λ (m : ℕ). has mask m ≡ true) same there) out)) in omega (arith, e, more)
    ]
  where
    below : (k n : ℕ) → k < suc n → k ≢ n → k < n
    below k n lt apart = omega (arith, lt, apart)

pub some_member : (mask : ℕ) → mask ≢ 0 → mask < 2 ^ 64 → 0 < members_below mask 64
some_member mask some fits = let low = lowest_there mask some fits in some_below mask (lowest mask) 64 low.0 low.1

pub turn_inside : (turn count members : ℕ) → 0 < members → count ≡ members → turn % count < members
turn_inside turn count members some e = subst (λ (n : ℕ). turn % n < members) (sym e) (omega (arith, some))

-- the count goes on with a member, ..
pub counts_in : (mask k members new : ℕ) (found : Bool) → found ≡ true → found ≡ has mask k → new ≡ members + 1 → members ≡ members_below mask k → new ≡ members_below mask (k + 1)
counts_in mask k members new found there is more e = let step = one_more mask k (sym is ∙ there) in omega (arith, more, e, step)

-- .. and without one
pub counts_out : (mask k members new : ℕ) (found : Bool) → found ≡ false → found ≡ has mask k → new ≡ members → members ≡ members_below mask k → new ≡ members_below mask (k + 1)
counts_out mask k members new found out is same e = let step = no_more mask k (sym is ∙ out) in omega (arith, same, e, step)

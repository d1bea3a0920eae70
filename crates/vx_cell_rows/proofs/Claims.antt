-- What the calls of the rows' log do to what it claims and counts.
use Rattle.std.proofs.Common.{◌≡◌, ◌≢◌, ℕ, Bool, true, false, refl, sym, ◌∙◌, inl, inr, ◌⊎◌, arith}
use Rattle.std.specs.Prelude.{◌&&◌, ◌||◌, not, ◌==◌}
use Rattle.std.proofs.lemmas.Bool.Decides.{nat_tests}
use Rattle.vx_mask.specs.Mask.{has, union, without}
use Rattle.vx_mask.proofs.MaskLemmas.{has-union, has-without}

true_or_false : (b : Bool) → (b ≡ true) ⊎ (b ≡ false)
true_or_false true = inl refl
true_or_false false = inr refl

zero_from_test : (r : ℕ) → (r == 0) ≡ true → r ≡ 0
zero_from_test r test = grind (arith, nat_tests)

-- what is claimed of another region stays
pub claims_elsewhere : (old new region : ℕ) → (region == 0) ≡ true → (other k : ℕ) → other ≢ region → ((other == 0) && has new k) ≡ ((other == 0) && has old k)
claims_elsewhere old new region known other k apart =
    elim (true_or_false (other == 0)) [
      | inl here ↦ absurd (apart (zero_from_test other here ∙ sym (zero_from_test region known)))
      | inr out ↦ rw out refl
    ]

pub claims_more : (old bits new region : ℕ) → (region == 0) ≡ true → new ≡ union old bits → (k : ℕ) → ((region == 0) && has new k) ≡ (((region == 0) && has old k) || has bits k)
claims_more old bits new region known e k = rw (known, e) (has-union old bits k)

pub claims_less : (old bits new region : ℕ) → (region == 0) ≡ true → new ≡ without old bits → (k : ℕ) → ((region == 0) && has new k) ≡ (((region == 0) && has old k) && not (has bits k))
claims_less old bits new region known e k = rw (known, e) (has-without old bits k)

-- The mask of a list of maps, one map after the other.
use Rattle.std.proofs.Common.{◌≡◌, ℕ, ◌<◌, Bool, true, false, List, [], ◌∷◌, ◌++◌, refl, sym, ap, ◌∙◌, subst, arith}
use Rattle.std.specs.Prelude.{◌||◌, ◌==◌}
use Rattle.std.proofs.lemmas.Bool.{false≢true, eqb-true, eq-eqb}
use Rattle.std.proofs.lemmas.List.Folds.{list_any-append}
use Rattle.vx_mask.specs.Mask.{has, only, union}
use Rattle.vx_mask.proofs.MaskLemmas.{has-union, has-only_same, has-only_other, has-zero, union-lt, only-lt}
use Rattle.vx_lending.specs.RegionsTaken.{is_among}
use Rattle.vx_lending.specs.Form.{IsMaskOf}

pub mask_none : IsMaskOf [] 0
mask_none = record { fits = omega arith; each = has-zero }

one_map : (m k : ℕ) → m < 64 → has (only m) k ≡ (m == k)
one_map m k lt = by (m == k) refl
  where
    by : (b : Bool) → (m == k) ≡ b → has (only m) k ≡ b
    by true e = subst (λ n. has (only m) n ≡ true) (eqb-true m k e) (has-only_same m lt)
    by false e = has-only_other m k (λ same. false≢true (sym e ∙ eq-eqb m k (sym same)))

or_false : (b : Bool) → (b || false) ≡ b
or_false true = refl
or_false false = refl

pub mask_push : (maps : List ℕ) (mask m : ℕ) → IsMaskOf maps mask → m < 64 → IsMaskOf (maps ++ m ∷ []) (union mask (only m))
mask_push maps mask m is lt =
    record {
      fits = union-lt mask (only m) is.fits (only-lt m);
      each = λ k. has-union mask (only m) k ∙ ap (λ b. b || has (only m) k) (is.each k) ∙ ap (λ b. is_among k maps || b) (one_map m k lt ∙ sym (or_false (m == k))) ∙ sym (list_any-append (λ n. n == k) maps (m ∷ []));
    }

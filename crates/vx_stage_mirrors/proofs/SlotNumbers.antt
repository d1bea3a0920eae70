-- The slots of a group have numbers: those of the devices of their disks, and others that no device of the group has.
use Rattle.std.proofs.Common.{◌≡◌, ℕ, zero, suc, ◌+◌, ◌≤◌, ◌==◌, ◌||◌, Bool, true, false, List, [], ◌∷◌, ◌++◌, Option, Some, None, refl, subst, arith}
use Rattle.std.proofs.lemmas.Bool.{eqb-true}
use Rattle.vx_piece.specs.Seen.{Seen}
use Rattle.vx_copies.specs.declared.disk.Disk.{Disk}
use Rattle.vx_stage_volumes.specs.Numbers.{AreNumbersOf, HaveOwnNumbers, is_taken, number_at}
use Rattle.vx_stage_volumes.proofs.Numbers.{none_yet, with_disk, with_spare}

-- numbers of the slots, below some number
pub record HasNumbers {P : Type 0} (see : P → Seen) (ds : List (Disk P)) (count : ℕ) : Type 0 where
  pub numbers : List ℕ
  pub top : ℕ
  pub are : AreNumbersOf see ds count top numbers

module _ {P : Type 0} (see : P → Seen) where
  -- a number above those of all devices
  above : List (Disk P) → ℕ
  above [] = 0
  above (d ∷ ds) = (see d.piece).device + 1 + above ds

  is_unused : (ds : List (Disk P)) (x : ℕ) → above ds ≤ x → is_taken see ds x ≡ false
  unfolding above
  is_unused [] x high = refl
  is_unused (d ∷ ds) x high = by ((see d.piece).device == x) refl (is_unused ds x (omega (arith, high)))
    where
      by : (b : Bool) → ((see d.piece).device == x) ≡ b → is_taken see ds x ≡ false → (b || is_taken see ds x) ≡ false
      by true e rest = let same = eqb-true (see d.piece).device x e in absurd (omega (arith, high, same))
      by false e rest = rest

  module _ (ds : List (Disk P)) (own : HaveOwnNumbers see ds) where
    one_more : (count : ℕ) → HasNumbers see ds count → HasNumbers see ds (count + 1)
    one_more count r = by (number_at see ds count) refl
      where
        by : (o : Option ℕ) → number_at see ds count ≡ o → HasNumbers see ds (count + 1)
        by (Some x) e = record { numbers = r.numbers ++ x ∷ []; top = r.top; are = with_disk see ds own count r.top r.numbers x r.are e }
        by None e = record {
          numbers = r.numbers ++ (r.top + above ds) ∷ [];
          top = r.top + above ds + 1;
          are = with_spare see ds own count r.top r.numbers (r.top + above ds) r.are e (is_unused ds (r.top + above ds) (omega arith)) (omega arith);
        }

    pub numbers_for : (count : ℕ) → HasNumbers see ds count
    numbers_for zero = record { numbers = []; top = 0; are = none_yet see ds own }
    numbers_for (suc n) = let e : n + 1 ≡ suc n = omega arith in subst (HasNumbers see ds) e (one_more n (numbers_for n))

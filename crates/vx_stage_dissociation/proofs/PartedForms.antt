-- A form without the plex of a map: its maps and layouts without those of the first such map.
use Rattle.std.proofs.Common.{◌≡◌, ℕ, zero, suc, false, List, [], ◌∷◌, length, refl, ap, arith}
use Rattle.std.specs.Prelude.{◌==◌}
use Rattle.std.specs.List.{remove}
use Rattle.vx_mask.proofs.Tests.{or_neither}
use Rattle.vx_joined_volumes.specs.Parted.{without_map}
use Rattle.vx_lending.specs.RegionsTaken.{is_among}
use Rattle.vx_stage_dissociation.specs.Taking.{IsFirstAt}

module _ (m : ℕ) where
  -- where no map is this one all stay
  pub none_goes : {A : Type 0} (ms : List ℕ) (xs : List A) → is_among m ms ≡ false → without_map m ms xs ≡ xs
  none_goes [] xs none = refl
  none_goes (k ∷ ms) [] none = refl
  none_goes (k ∷ ms) (x ∷ xs) none = let parts = or_neither (k == m) (is_among m ms) none in rw parts.0 (ap (λ ys. x ∷ ys) (none_goes ms xs parts.1))

  -- what goes with the first is taken out
  pub first_goes : {A : Type 0} (ms : List ℕ) (xs : List A) (i : ℕ) → IsFirstAt m ms i → length xs ≡ length ms → remove xs i ≡ without_map m ms xs
  first_goes [] xs i first size = absurd first
  first_goes (k ∷ ms) [] i first size = absurd (omega (arith, size))
  first_goes (k ∷ ms) (x ∷ xs) zero first size = rw first refl
  first_goes (k ∷ ms) (x ∷ xs) (suc i) first size = rw first.0 (ap (λ ys. x ∷ ys) (first_goes ms xs i first.1 (omega (arith, size))))

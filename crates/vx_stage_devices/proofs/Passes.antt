-- A list of which the first members have gone on.
use Rattle.std.proofs.Common.{◌≡◌, ℕ, zero, suc, ◌<◌, ◌≤◌, List, [], ◌∷◌, length, get_or, arith, inl, inr, subst}
use Rattle.std.proofs.Math.ListN.{set}
use Rattle.vx_piece.specs.Seen.{Seen}
use Rattle.vx_copies.specs.Lists.{Each, AllOf}
use Rattle.vx_house.specs.declared.house.Taken.{Taken}
use Rattle.vx_house.specs.declared.stop.Stop.{Stop}
use Rattle.vx_stage_devices.specs.Looks.{IsReadBlank, BlankStops, HandStops}

-- the first so many have gone on, and those behind them are as they were
abbrev pub Passed : {X : Type 0} → (X → X → Type 0) → ℕ → List X → List X → Type 0
Passed R zero xs ys = ys ≡ xs
Passed R (suc i) [] ys = ys ≡ []
Passed R (suc i) (x ∷ xs) [] = ⊥
Passed R (suc i) (x ∷ xs) (y ∷ ys) = R x y × Passed R i xs ys

same_none : {X : Type 0} (R : X → X → Type 0) → (ys : List X) → ys ≡ [] → Each R [] ys
same_none R [] e = tt
same_none R (y ∷ ys) e = cc

module _ {X : Type 0} (R : X → X → Type 0) where
  -- what holds of each at the beginning holds of the next
  pub passed_holds : (Q : X → Type 0) (i : ℕ) (xs ys : List X) (d : X) → Passed R i xs ys → i < length ys → AllOf Q xs → Q (get_or ys i d)
  passed_holds Q zero xs [] d same less all = absurd (omega arith)
  passed_holds Q zero xs (y ∷ ys) d same less all = (subst (AllOf Q) (sym_of same) all).0
    where
      sym_of : {A : Type 0} {a b : A} → a ≡ b → b ≡ a
      sym_of e = cc
  passed_holds Q (suc i) [] [] d passed less all = absurd (omega arith)
  passed_holds Q (suc i) [] (y ∷ ys) d passed less all = cc
  passed_holds Q (suc i) (x ∷ xs) [] d passed less all = absurd passed
  passed_holds Q (suc i) (x ∷ xs) (y ∷ ys) d passed less all = passed_holds Q i xs ys d passed.1 (omega (arith, less)) all.1

  -- one more has gone on
  pub passed_more : (i : ℕ) (xs ys : List X) (d y : X) → Passed R i xs ys → i < length ys → R (get_or ys i d) y → Passed R (suc i) xs (set ys i y)
  passed_more zero [] [] d y same less goes = absurd (omega arith)
  passed_more zero [] (z ∷ ys) d y same less goes = cc
  passed_more zero (x ∷ xs) [] d y same less goes = cc
  passed_more zero (x ∷ xs) (z ∷ ys) d y same less goes = (let e : z ≡ x = cc in subst (λ a. R a y) e goes, let e : ys ≡ xs = cc in e)
  passed_more (suc i) [] [] d y passed less goes = absurd (omega arith)
  passed_more (suc i) [] (z ∷ ys) d y passed less goes = cc
  passed_more (suc i) (x ∷ xs) [] d y passed less goes = absurd passed
  passed_more (suc i) (x ∷ xs) (z ∷ ys) d y passed less goes = (passed.0, passed_more i xs ys d y passed.1 (omega (arith, less)) goes)

  -- all have gone on
  pub passed_all : (i : ℕ) (xs ys : List X) → Passed R i xs ys → length ys ≤ i → Each R xs ys
  passed_all zero [] ys same all = same_none R ys same
  passed_all zero (x ∷ xs) [] same all = cc
  passed_all zero (x ∷ xs) (y ∷ ys) same all = absurd (omega arith)
  passed_all (suc i) [] ys passed all = same_none R ys passed
  passed_all (suc i) (x ∷ xs) [] passed all = absurd passed
  passed_all (suc i) (x ∷ xs) (y ∷ ys) passed all = (passed.0, passed_all i xs ys passed.1 (omega (arith, all)))

-- the next ends the command
module _ {P : Type 0} (see : P → Seen) (stop : Stop) where
  pub passed_stops : (i : ℕ) (xs ys : List (Taken P)) (d y : Taken P) → Passed (IsReadBlank see) i xs ys → i < length ys → BlankStops see (get_or ys i d) stop y → HandStops see xs stop (set ys i y)
  passed_stops zero [] [] d y same less stops = absurd (omega arith)
  passed_stops zero [] (z ∷ ys) d y same less stops = cc
  passed_stops zero (x ∷ xs) [] d y same less stops = cc
  passed_stops zero (x ∷ xs) (z ∷ ys) d y same less stops = inl (let e : z ≡ x = cc in subst (λ a. BlankStops see a stop y) e stops, let e : ys ≡ xs = cc in e)
  passed_stops (suc i) [] [] d y passed less stops = absurd (omega arith)
  passed_stops (suc i) [] (z ∷ ys) d y passed less stops = cc
  passed_stops (suc i) (x ∷ xs) [] d y passed less stops = absurd passed
  passed_stops (suc i) (x ∷ xs) (z ∷ ys) d y passed less stops = inr (passed.0, passed_stops i xs ys d y passed.1 (omega (arith, less)) stops)

-- The slots that no device has, and the devices that are damaged.
use Rattle.std.proofs.Common.{◌≡◌, ℕ, zero, suc, ◌+◌, ◌-◌, ◌<◌, ◌≤◌, true, List, [], ◌∷◌, length, map, take, drop, get_or, Option, Some, None, sym, subst, arith, inl, inr, add-one}
use Rattle.std.proofs.lemmas.List.{take_all}
use Rattle.std.proofs.lemmas.Bool.{cases_eq}
use Rattle.vx_piece.specs.Seen.{Seen}
use Rattle.vx_mask.specs.Mask.{has}
use Rattle.vx_import.specs.Looks.{Looked, looked}
use Rattle.vx_import.specs.Choice.{At}
use Rattle.vx_import.specs.Naming.{is_readable_slot, AllThere, IsWhole, DamageIs}
use Rattle.vx_import.specs.declared.device.GroupDevice.{GroupDevice}
use Rattle.vx_import.specs.declared.naming.Damage.{Damage}

pub there_none : (mask : ℕ) (fs : List Looked) → AllThere 0 mask fs
there_none mask fs = λ slot lt named. absurd (omega (arith, lt))

pub there_more : (s mask : ℕ) (fs : List Looked) → AllThere s mask fs → (has mask s ≡ true → is_readable_slot s fs ≡ true) → AllThere (s + 1) mask fs
there_more s mask fs all here = λ slot lt named. elim (cases_eq slot s) [
  | inl same ↦ subst (λ n. is_readable_slot n fs ≡ true) (sym same) (here (subst (λ n. has mask n ≡ true) same named))
  | inr other ↦ all slot (omega (arith, lt, other)) named
]

pub there_all : (s m mask : ℕ) (fs : List Looked) → m ≤ s → AllThere s mask fs → AllThere m mask fs
there_all s m mask fs le all = λ slot lt named. all slot (omega (arith, lt, le)) named

module _ {P : Type 0} (see : P → Seen) (meant : Option ℕ) where
  damage_one : (r : Option Damage) (f : Looked) (fs : List Looked) → IsWhole meant f → DamageIs r meant fs → DamageIs r meant (f ∷ fs)
  damage_one None f fs whole rest = (whole, rest)
  damage_one (Some d) f fs whole rest = (rest.0 + 1, rw add-one rest.1, rw add-one (whole, rest.2))

  pub damage_more : (r : Option Damage) (xs : List (GroupDevice P)) (d : GroupDevice P) → 1 ≤ length xs → d ≡ get_or xs 0 d → IsWhole meant (looked see d) → DamageIs r meant (map (looked see) (take (length xs - 1) (drop 1 xs))) → DamageIs r meant (map (looked see) xs)
  damage_more r [] d some is whole rest = absurd (omega (arith, some))
  damage_more r (x ∷ xs) d some is whole rest =
      let all : take (length (x ∷ xs) - 1) (drop 1 (x ∷ xs)) ≡ xs = take_all (length (x ∷ xs) - 1) xs (omega arith) in
      damage_one r (looked see x) (map (looked see) xs) (subst (λ e. IsWhole meant (looked see e)) is whole) (subst (λ ys. DamageIs r meant (map (looked see) ys)) all rest)

module _ {P : Type 0} (see : P → Seen) (Q : Looked → Type 0) where
  pub at_below : (fs : List (GroupDevice P)) (i : ℕ) → At i Q (map (looked see) fs) → i < length fs
  at_below [] i is = absurd is
  at_below (x ∷ fs) zero is = omega arith
  at_below (x ∷ fs) (suc i) is = let lt = at_below fs i is in omega (arith, lt)

  pub at_here : (fs : List (GroupDevice P)) (i : ℕ) (d : GroupDevice P) → i < length fs → Q (looked see (get_or fs i d)) → At i Q (map (looked see) fs)
  at_here [] i d lt is = absurd (omega (arith, lt))
  at_here (x ∷ fs) zero d lt is = is
  at_here (x ∷ fs) (suc i) d lt is = at_here fs i d (omega (arith, lt)) is

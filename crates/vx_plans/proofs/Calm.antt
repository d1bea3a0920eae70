-- Counts that are as they were: never stage can have failed.
use Rattle.std.proofs.Common.{◌≡◌, ℕ, ◌≤◌, true, false, List, [], ◌∷◌, ◌++◌, inl, inr, arith}
use Rattle.vx_base.specs.Counts.{Rose}
use Rattle.vx_base.specs.Named.{Word}
use Rattle.vx_copies.specs.Lists.{AllOf, AnyOf}
use Rattle.vx_moments.specs.Moment.{Moment, Counts, AreLater, HasFailed, ShelfHasFailed}
use Rattle.vx_plans.specs.Laws.{WentWell}

-- a count that is as it was has not risen
pub not_risen : (before now : ℕ) → now ≡ before → now ≤ 18446744073709551614 → Rose before now → ⊥
not_risen before now same room rose = omega arith

between : (a b c : ℕ) → a ≤ b → b ≤ c → c ≡ a → c ≡ b
between a b c low high same = omega arith

pub later_self : (c : Counts) → AreLater c c
later_self c = record { faults = λ name. omega arith; cut = λ name is. is; shelf = omega arith }

through : (a b c : ℕ) → a ≤ b → b ≤ c → a ≤ c
through a b c first next = omega arith

pub later_on : (a b c : Counts) → AreLater a b → AreLater b c → AreLater a c
later_on a b c first next = record {
  faults = λ name. through (a.faults name) (b.faults name) (c.faults name) (first.faults name) (next.faults name);
  cut = λ name is. next.cut name (first.cut name is);
  shelf = through a.shelf b.shelf c.shelf first.shelf next.shelf;
}

-- what went well as a whole went well from a moment between on
pub well_after : (old mid new : Moment) → AreLater old.counts mid.counts → AreLater mid.counts new.counts → WentWell old new → WentWell mid new
well_after old mid new first next well = record {
  quiet = record {
    devices = λ name. between (old.counts.faults name) (mid.counts.faults name) (new.counts.faults name) (first.faults name) (next.faults name) (well.quiet.devices name);
    shelf = between old.counts.shelf mid.counts.shelf new.counts.shelf first.shelf next.shelf well.quiet.shelf;
  };
  powered = well.powered;
  room = well.room;
  shelf_room = well.shelf_room;
}

pub calm : (old new : Moment) → WentWell old new → (name : Word) → HasFailed old.counts new.counts name → ⊥
calm old new well name rose = not_risen (old.counts.faults name) (new.counts.faults name) (well.quiet.devices name) (well.room name) rose

pub shelf_calm : (old new : Moment) → WentWell old new → ShelfHasFailed old.counts new.counts → ⊥
shelf_calm old new well rose = not_risen old.counts.shelf new.counts.shelf well.quiet.shelf well.shelf_room rose

pub powered : (old new : Moment) → WentWell old new → (name : Word) → new.counts.cut name ≡ true → ⊥
powered old new well name is = let off : new.counts.cut name ≡ false = well.powered name in cc

-- what holds of all can not be denied of one
pub none_of : {X : Type 0} → (P Q : X → Type 0) → (xs : List X) → ((x : X) → P x → Q x → ⊥) → AllOf P xs → AnyOf Q xs → ⊥
none_of P Q [] never all any = any
none_of P Q (x ∷ xs) never all (inl here) = never x all.0 here
none_of P Q (x ∷ xs) never all (inr there) = none_of P Q xs never all.1 there

pub any_map : {X : Type 0} → (P Q : X → Type 0) → (xs : List X) → ((x : X) → P x → Q x) → AnyOf P xs → AnyOf Q xs
any_map P Q [] f any = any
any_map P Q (x ∷ xs) f (inl here) = inl (f x here)
any_map P Q (x ∷ xs) f (inr there) = inr (any_map P Q xs f there)

pub any_front : {X : Type 0} → (P : X → Type 0) → (xs ys : List X) → AnyOf P xs → AnyOf P (xs ++ ys)
any_front P [] ys any = absurd any
any_front P (x ∷ xs) ys (inl here) = inl here
any_front P (x ∷ xs) ys (inr there) = inr (any_front P xs ys there)

pub nowhere : {X : Type 0} → (P : X → Type 0) → (xs : List X) → ((x : X) → P x → ⊥) → AnyOf P xs → ⊥
nowhere P [] never any = any
nowhere P (x ∷ xs) never (inl here) = never x here
nowhere P (x ∷ xs) never (inr there) = nowhere P xs never there

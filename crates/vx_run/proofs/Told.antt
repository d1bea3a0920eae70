-- The names that are told of a device that failed.
use Rattle.std.proofs.Common.{◌≡◌, ◌⊎◌, ℕ, Bool, true, false, cond, List, [], ◌∷◌, Option, Some, None, refl, sym, ap, subst, inl, inr}
use Rattle.std.specs.List.{find}
use Rattle.std.specs.Option.{option_map}
use Rattle.std.proofs.lemmas.Bool.{eq-eqb, eqb-true}
use Rattle.vx_base.specs.Named.{Word}
use Rattle.vx_copies.specs.Lists.{AnyOf}
use Rattle.vx_copies.specs.declared.disk.Disk.{Disk}
use Rattle.vx_piece.specs.Seen.{Seen}
use Rattle.vx_life.specs.declared.Part.{Part}
use Rattle.vx_answers.specs.declared.answer.End.TheVariants as ends
use Rattle.vx_group_calls.specs.declared.served.Served.{Served}
use Rattle.vx_group_calls.specs.declared.served.Served.TheVariants as served
use Rattle.vx_run.specs.Grouped.{HasNumber, IsNamed, IsToldAs, is_on}

some_one : {X : Type 0} (x y : X) → Some x ≡ Some y → x ≡ y
some_one x y is = cc

module _ {P : Type 0} (see : P → Seen) (number : ℕ) where
  abbrev names_of : Disk P → Word × Word
  names_of d = (d.name, d.device)

  abbrev Found : List (Disk P) → Option (Word × Word)
  Found ds = option_map names_of (find (is_on see number) ds)

  -- where one is on the device, one is found
  pub none_found : (ds : List (Disk P)) → AnyOf (HasNumber see number) ds → Found ds ≡ None → ⊥
  none_found [] any none = absurd any
  none_found (d ∷ ds) any none = by (is_on see number d) refl any (none_found ds) none
    where
      by : (b : Bool) → is_on see number d ≡ b → HasNumber see number d ⊎ AnyOf (HasNumber see number) ds → (AnyOf (HasNumber see number) ds → Found ds ≡ None → ⊥) →
          option_map names_of (cond b (Some d) (find (is_on see number) ds)) ≡ None → ⊥
      by true e any rest none = cc
      by false e (inl is) rest none = absurd (let yes = eq-eqb (see d.piece).device number is in cc)
      by false e (inr more) rest none = rest more none

  -- what is found is on it, by these names
  pub found_named : (ds : List (Disk P)) (told device : Word) → Found ds ≡ Some (told, device) → AnyOf (IsNamed see number told device) ds
  found_named [] told device is = absurd (let no : None ≡ Some (told, device) = is in cc)
  found_named (d ∷ ds) told device is = by (is_on see number d) refl (found_named ds told device) is
    where
      by : (b : Bool) → is_on see number d ≡ b → (Found ds ≡ Some (told, device) → AnyOf (IsNamed see number told device) ds) →
          option_map names_of (cond b (Some d) (find (is_on see number) ds)) ≡ Some (told, device) → IsNamed see number told device d ⊎ AnyOf (IsNamed see number told device) ds
      by true e rest is = let same : (d.name, d.device) ≡ (told, device) = some_one (names_of d) (told, device) is in inl (eqb-true (see d.piece).device number e, ap (λ n. n.0) same, ap (λ n. n.1) same)
      by false e rest is = inr (rest is)

  -- so the end tells it
  pub told_as : (ds : List (Disk P)) (answer : Served) (parts : List Part) → answer ≡ served.Fault number parts → (told device : Word) → Found ds ≡ Some (told, device) → IsToldAs see ds answer (ends.Fault told device parts)
  told_as ds answer parts is told device found = subst (λ a. IsToldAs see ds a (ends.Fault told device parts)) (sym is) (told, device, refl, found_named ds told device found)

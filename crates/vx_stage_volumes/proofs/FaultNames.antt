-- The names that are told of a device that failed.
use Rattle.std.proofs.Common.{◌≡◌, ◌⊎◌, ℕ, Bool, true, false, cond, List, [], ◌∷◌, Option, Some, None, refl, sym, ap, subst, inl, inr}
use Rattle.std.specs.List.{find}
use Rattle.std.specs.Option.{option_map}
use Rattle.std.proofs.lemmas.Bool.{eq-eqb, eqb-true}
use Rattle.vx_base.specs.Named.{Word}
use Rattle.vx_copies.specs.Lists.{AnyOf}
use Rattle.vx_copies.specs.declared.disk.Disk.{Disk}
use Rattle.vx_piece.specs.Seen.{Seen}
use Rattle.vx_answers.specs.declared.answer.End.TheVariants as ends
use Rattle.vx_cell.specs.declared.fault.Place.{Place}
use Rattle.vx_volume.specs.declared.fault.IoFault.{IoFault}
use Rattle.vx_volume.specs.declared.fault.IoFault.TheVariants.{Fault}
use Rattle.vx_group_calls.specs.Ending.{device_of}
use Rattle.vx_house.specs.declared.stop.Stop.TheVariants as stops
use Rattle.vx_stage_volumes.specs.Resting.{IsDiskOn, IsFaultTold, is_on}

some_one : {X : Type 0} (x y : X) → Some x ≡ Some y → x ≡ y
some_one x y is = cc

module _ {P : Type 0} (see : P → Seen) (number : ℕ) where
  abbrev pub names_of : Disk P → Word × Word
  names_of d = (d.name, d.device)

  abbrev pub Found : List (Disk P) → Option (Word × Word)
  Found ds = option_map names_of (find (is_on see number) ds)

  -- where one is on the device, one is found
  pub none_found : (ds : List (Disk P)) → AnyOf (λ d. (see d.piece).device ≡ number) ds → Found ds ≡ None → ⊥
  none_found [] any none = absurd any
  none_found (d ∷ ds) any none = by (is_on see number d) refl any (none_found ds) none
    where
      by : (b : Bool) → is_on see number d ≡ b → ((see d.piece).device ≡ number) ⊎ AnyOf (λ d. (see d.piece).device ≡ number) ds → (AnyOf (λ d. (see d.piece).device ≡ number) ds → Found ds ≡ None → ⊥) →
          option_map names_of (cond b (Some d) (find (is_on see number) ds)) ≡ None → ⊥
      by true e any rest none = cc
      by false e (inl is) rest none = absurd (let yes = eq-eqb (see d.piece).device number is in cc)
      by false e (inr more) rest none = rest more none

  -- what is found is on it, by these names
  pub found_named : (ds : List (Disk P)) (told device : Word) → Found ds ≡ Some (told, device) → AnyOf (IsDiskOn see number told device) ds
  found_named [] told device is = absurd (let no : None ≡ Some (told, device) = is in cc)
  found_named (d ∷ ds) told device is = by (is_on see number d) refl (found_named ds told device) is
    where
      by : (b : Bool) → is_on see number d ≡ b → (Found ds ≡ Some (told, device) → AnyOf (IsDiskOn see number told device) ds) →
          option_map names_of (cond b (Some d) (find (is_on see number) ds)) ≡ Some (told, device) → IsDiskOn see number told device d ⊎ AnyOf (IsDiskOn see number told device) ds
      by true e rest is = let same : (d.name, d.device) ≡ (told, device) = some_one (names_of d) (told, device) is in inl (record { number_is = eqb-true (see d.piece).device number e; told_is = ap (λ n. n.0) same; device_is = ap (λ n. n.1) same })
      by false e rest is = inr (rest is)

-- so the stop tells it
pub told_as : {P : Type 0} (see : P → Seen) (place : Place) (ds : List (Disk P)) (fault : IoFault) → fault ≡ Fault place → (told device : Word) → option_map (names_of see (device_of place)) (find (is_on see (device_of place)) ds) ≡ Some (told, device) →
    IsFaultTold see ds fault (stops.Ended (ends.Fault told device []))
told_as see place ds fault is told device found = subst (λ f. IsFaultTold see ds f (stops.Ended (ends.Fault told device []))) (sym is) (told, device, refl, found_named see (device_of place) ds told device found)

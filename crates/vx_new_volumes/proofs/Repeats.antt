-- What is repeated, one step further.
use Rattle.std.proofs.Common.{◌≡◌, ℕ, suc, ◌+◌, ◌-◌, ◌<◌, ◌≤◌, Result, Ok, Err, List, [], ◌∷◌, ◌++◌, sym, ap, ◌∙◌, arith}
use Rattle.vx_base.specs.Named.{Word}
use Rattle.vx_space.specs.declared.extent.Extent.{Extent}
use Rattle.vx_new_volumes.specs.declared.fault.PlanFault.{PlanFault}
use Rattle.vx_new_volumes.specs.Steps.{Taken, Step, and_then, repeated}

module _ {A : Type 0} (step : Step A) where
  next : (n : ℕ) → List A → Taken A → Result (Taken (List A)) PlanFault
  next n done t = repeated step n (done ++ t.part ∷ []) t.disks t.free

  one_less : (n i : ℕ) → i < n → n - i ≡ suc (n - (i + 1))
  one_less n i lt = omega (arith, lt)

  -- a step that took something
  pub more : (n i : ℕ) (done : List A) (disks : List Word) (free : List Extent) (t : Taken A) (all : Result (Taken (List A)) PlanFault) → i < n → step disks free ≡ Ok t → repeated step (n - i) done disks free ≡ all →
      repeated step (n - (i + 1)) (done ++ t.part ∷ []) t.disks t.free ≡ all
  unfolding next
  more n i done disks free t all lt is h =
      sym (ap (λ (m : ℕ). repeated step m done disks free) (one_less n i lt) ∙ ap (λ (r : Result (Taken A) PlanFault). and_then r (next (n - (i + 1)) done)) is) ∙ h

  -- a step that is refused
  pub stops : (n i : ℕ) (done : List A) (disks : List Word) (free : List Extent) (fault : PlanFault) (all : Result (Taken (List A)) PlanFault) → i < n → step disks free ≡ Err fault → repeated step (n - i) done disks free ≡ all → all ≡ Err fault
  unfolding next
  stops n i done disks free fault all lt is h =
      sym h ∙ (ap (λ (m : ℕ). repeated step m done disks free) (one_less n i lt) ∙ ap (λ (r : Result (Taken A) PlanFault). and_then r (next (n - (i + 1)) done)) is)

  -- no step is left
  pub ends : (n i : ℕ) (done : List A) (disks : List Word) (free : List Extent) (all : Result (Taken (List A)) PlanFault) → n ≤ i → repeated step (n - i) done disks free ≡ all → all ≡ Ok (record { part = done; disks = disks; free = free })
  ends n i done disks free all le h =
      let none : n - i ≡ 0 = omega (arith, le) in
      sym h ∙ ap (λ (m : ℕ). repeated step m done disks free) none

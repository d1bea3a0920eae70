-- The disks have so many sectors together, or too few.
use Rattle.std.proofs.Common.{◌≡◌, ℕ, ◌<◌, ◌≤◌, min, Ok, Err, List, ap, ◌∙◌, arith}
use Rattle.std.proofs.lemmas.Bool.{cond-true, cond-false, lt-ltb, le-ltb}
use Rattle.vx_base.specs.Named.{Word}
use Rattle.vx_space.specs.declared.extent.Extent.{Extent}
use Rattle.vx_new_volumes.specs.declared.fault.PlanFault.TheVariants.{NoSpace}
use Rattle.vx_new_volumes.specs.Disks.{total_on}
use Rattle.vx_new_volumes.specs.Steps.{gather, spread}

pub too_few : (need : ℕ) (disks : List Word) (free : List Extent) (have : ℕ) → have ≡ min need (total_on disks free) → have < need → spread need disks free ≡ Err (NoSpace have need)
too_few need disks free have is lt =
    let less : total_on disks free < need = omega (arith, is, lt) in
    let same : total_on disks free ≡ have = omega (arith, is, lt) in
    cond-true _ _ _ (lt-ltb (total_on disks free) need less) ∙ ap (λ (n : ℕ). Err (NoSpace n need)) same

pub enough : (need : ℕ) (disks : List Word) (free : List Extent) (have : ℕ) → have ≡ min need (total_on disks free) → need ≤ have → spread need disks free ≡ Ok (gather need disks free)
enough need disks free have is le = cond-false _ _ _ (le-ltb (total_on disks free) need (omega (arith, is, le)))

-- One thing after the other is taken of the free space, from disks that have not been taken from yet.
use Rattle.std.specs.Prelude.{ℕ, zero, suc, ◌-◌, ◌==◌, min, nat_lt, if◌then◌else◌, Option, Some, None, Result, Ok, Err, List, [], ◌∷◌, ◌++◌}
use Rattle.vx_base.specs.Named.{Word}
use Rattle.vx_space.specs.declared.extent.Extent.{Extent}
use Rattle.vx_space.specs.Extents.{total, taken, left}
use Rattle.vx_new_volumes.specs.declared.fault.PlanFault.{PlanFault}
use Rattle.vx_new_volumes.specs.declared.fault.PlanFault.TheVariants.{NoSpace}
use Rattle.vx_new_volumes.specs.Disks.{others, total_on, largest_on, first_with}

-- what was taken, the disks that may still be taken from, and what is free
pub record Taken (A : Type 0) : Type 0 where
  pub part : A
  pub disks : List Word
  pub free : List Extent

-- a way to take something
abbrev pub Step : Type 0 → Type 0
Step A = List Word → List Extent → Result (Taken A) PlanFault

abbrev pub and_then : {A B : Type 0} → Result A PlanFault → (A → Result B PlanFault) → Result B PlanFault
and_then (Ok a) next = next a
and_then (Err fault) next = Err fault

-- so many, one after the other, behind those that there are
abbrev pub repeated : {A : Type 0} → Step A → ℕ → List A → Step (List A)
repeated step zero done disks free = Ok (record { part = done; disks = disks; free = free })
repeated step (suc n) done disks free = and_then (step disks free) (λ t. repeated step n (done ++ t.part ∷ []) t.disks t.free)

-- so many sectors of the first of the disks that has them; it leaves the disks
abbrev pub place_on : Option Word → ℕ → Step (List Extent)
place_on None need disks free = Err (NoSpace (largest_on disks free) need)
place_on (Some d) need disks free = Ok (record { part = taken d need free; disks = others d disks; free = left d need free })

abbrev pub place : ℕ → Step (List Extent)
place need disks free = place_on (first_with need disks free) need disks free

-- the disk is not touched
abbrev pub kept : Word → Taken (List Extent) → Taken (List Extent)
kept d t = record { part = t.part; disks = d ∷ t.disks; free = t.free }

abbrev pub behind : List Extent → Taken (List Extent) → Taken (List Extent)
behind es t = record { part = es ++ t.part; disks = t.disks; free = t.free }

-- sectors of the disks in turn, until there are so many; those that are touched leave the disks
abbrev pub gather : ℕ → List Word → List Extent → Taken (List Extent)
gather need [] free = record { part = []; disks = []; free = free }
gather need (d ∷ ds) free =
    if min need (total d free) == 0
    then kept d (gather need ds free)
    else behind (taken d (min need (total d free)) free) (gather (need - min need (total d free)) ds (left d (min need (total d free)) free))

-- so many sectors of the disks in turn, where together they have them
abbrev pub spread : ℕ → Step (List Extent)
spread need disks free = if nat_lt (total_on disks free) need then Err (NoSpace (total_on disks free) need) else Ok (gather need disks free)

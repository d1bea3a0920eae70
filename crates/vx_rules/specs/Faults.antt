-- The fault of a record under a rule, and the first of several.
use Rattle.std.specs.Prelude.{Bool, Option, Some, None, List, [], ◌∷◌, if◌then◌else◌}
use Rattle.vx_config_parts.specs.declared.fault.ObjectFault.{ObjectFault}
use Rattle.vx_config_parts.specs.declared.object.Object.{Object}

-- the first, where it is there, else the second
abbrev pub first_some : {A : Type 0} → Option A → Option A → Option A
first_some (Some x) other = Some x
first_some None other = other

-- a fault, but where the rule holds
abbrev pub unless : {A : Type 0} → Bool → A → Option A
unless holds fault = if holds then None else Some fault

-- the fault of the first record that breaks the rule
abbrev pub first_of : (Object → Option ObjectFault) → List Object → Option ObjectFault
first_of rule [] = None
first_of rule (o ∷ os) = first_some (rule o) (first_of rule os)

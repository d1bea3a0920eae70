-- Plans whose stages find what they need.
use Rattle.std.specs.Prelude.{◌≡◌, ◌≤◌, ◌^◌, Bool, true, false, if◌then◌else◌, Option, Some, None, List, [], ◌∷◌, ◌++◌}
use Rattle.std.specs.List.{fold}
use Rattle.vx_base.specs.Named.{Word}
use Rattle.vx_copies.specs.Lists.{AllOf, AnyOf}
use Rattle.vx_stages.specs.declared.stage.Stage.{Stage}
use Rattle.vx_stages.specs.declared.stage.Stage.TheVariants as stage
use Rattle.vx_plans.specs.declared.stages.Finish.{Finish}
use Rattle.vx_plans.specs.declared.stages.Finish.TheVariants.{Hierarchy, Nothing, Records}
use Rattle.vx_stages.specs.declared.test.Test.TheVariants as tests
use Rattle.vx_house.specs.Goes.{wanted, is_first}

-- the stage is among these
abbrev pub IsAmong : List Stage → Stage → Type 0
IsAmong done s = AnyOf (λ d. d ≡ s) done

-- the stage changes nothing of the world
abbrev pub keeps_world : Stage → Bool
keeps_world (stage.Gate test) = true
keeps_world (stage.Take name) = true
keeps_world stage.TakeDisks = true
keeps_world (stage.LookBlank name) = true
keeps_world stage.LookDisks = true
keeps_world (stage.LookHeaded name) = true
keeps_world (stage.Search dg) = true
keeps_world other = false

-- each of the stages keeps the world
abbrev pub KeepWorld : List Stage → Type 0
KeepWorld stages = AllOf (λ s. keeps_world s ≡ true) stages

-- the stages behind the last that changed the world, once this one is done too
abbrev pub behind : List Stage → Stage → List Stage
behind late s = if keeps_world s then late ++ s ∷ [] else []

-- of the stages that are done, those behind the last that changed the world
abbrev pub recent : List Stage → List Stage
recent done = fold behind [] done

-- each stage finds those done that it needs, since the world was changed last, and those that begin with an empty hand come first
abbrev pub AreFed : List Stage → List Stage → Type 0
AreFed done [] = Unit {0}
AreFed done (s ∷ ss) = ((is_first s ≡ true → done ≡ []) × AllOf (IsAmong (recent done)) (wanted s)) × AreFed (done ++ s ∷ []) ss

-- where something is shown at the end, each stage keeps the world
abbrev pub KeepToShow : List Stage → Finish → Type 0
KeepToShow stages Nothing = Unit {0}
KeepToShow stages (Records vol) = KeepWorld stages
KeepToShow stages (Hierarchy vol) = KeepWorld stages

-- a device is made of a size that the shelf takes
abbrev pub HasSize : Stage → Type 0
HasSize (stage.MakeImage name sectors) = (1 ≤ sectors) × (sectors ≤ 2 ^ 40)
HasSize other = Unit {0}

-- the group is there by then, and the volume that is named
abbrev pub IsThereAfter : List Stage → Option Word → Type 0
IsThereAfter done None = (dg : Option Word) × IsAmong done (stage.Gate (tests.GroupIs dg))
IsThereAfter done (Some vol) = ((dg : Option Word) × IsAmong done (stage.Gate (tests.GroupIs dg))) × IsAmong done (stage.Gate (tests.HasVolume vol))

-- what is to be shown is there by then
abbrev pub ShowsAfter : List Stage → Finish → Type 0
ShowsAfter done Nothing = Unit {0}
ShowsAfter done (Records vol) = IsThereAfter done vol
ShowsAfter done (Hierarchy vol) = IsThereAfter done vol

-- The edits of a command break no rule of a configuration, where its tests have let it through.
use Rattle.std.specs.Prelude.{◌≡◌, Bool, if◌then◌else◌, Some, None, List, [], ◌∷◌}
use Rattle.vx_base.specs.Named.{Word}
use Rattle.vx_config_parts.specs.declared.object.Object.{Object}
use Rattle.vx_config_parts.specs.declared.vol.PolicyName.{PolicyName}
use Rattle.vx_config_parts.specs.declared.vol.PolicyName.TheVariants as policy
use Rattle.vx_config_parts.specs.declared.fault.ObjectFault.TheVariants.{Exists}
use Rattle.vx_rules.specs.References.{has_name}
use Rattle.vx_objects.specs.declared.edit.Edit.TheVariants.{Make}
use Rattle.vx_objects.specs.Config.{objects_of}
use Rattle.vx_objects.specs.Edits.{refusal_of}
use Rattle.vx_script_words.specs.declared.value.DiskAt.{DiskAt}
use Rattle.vx_moments.specs.World.{World, Group}
use Rattle.vx_stages.specs.Making.{adding_refusal}
use Rattle.vx_stages.specs.Stages.{edits_of, joining_edit}
use Rattle.vx_stages.specs.Tests.{fails}
use Rattle.vx_stages.specs.declared.stage.Change.TheVariants as changes
use Rattle.vx_stages.specs.declared.test.Test.{Test}
use Rattle.vx_stages.specs.declared.test.Test.TheVariants as tests

-- the test lets the command through
abbrev pub LetsThrough : Test → List DiskAt → World → Type 0
LetsThrough test disks w = fails test disks w ≡ None

-- the plex that the policy prefers, if it prefers one, is a data plex of the volume
abbrev pub PrefersItsPlex : Word → PolicyName → World → Type 0
PrefersItsPlex vol policy.Round w = Unit {0}
PrefersItsPlex vol policy.Select w = Unit {0}
PrefersItsPlex vol (policy.Prefer plex) w = LetsThrough (tests.HasPlex vol plex) [] w

-- no rule refuses the policy of a volume that is there
abbrev pub NoRuleRefusesAPolicy : Type 0
NoRuleRefusesAPolicy =
    (vol : Word) (policy : PolicyName) (w : World) (g : Group) → w.group ≡ Some g
    → LetsThrough (tests.HasVolume vol) [] w → PrefersItsPlex vol policy w
    → refusal_of (edits_of (changes.Policy vol policy) (Some g)) (objects_of g.config) ≡ None

-- no rule refuses the removal of a volume that is there and in no relation
abbrev pub NoRuleRefusesARemoval : Type 0
NoRuleRefusesARemoval =
    (vol : Word) (w : World) (g : Group) → w.group ≡ Some g
    → LetsThrough (tests.HasVolume vol) [] w → LetsThrough (tests.Unrelated vol) [] w
    → refusal_of (edits_of (changes.Remove vol) (Some g)) (objects_of g.config) ≡ None

-- no rule refuses records that the tests of records to be added let through
abbrev pub NoRuleRefusesRecords : Type 0
NoRuleRefusesRecords =
    (is_started : Word → Bool) (group added : List Object) → adding_refusal is_started group added ≡ None → refusal_of (Make added ∷ []) group ≡ None

-- one rule alone refuses a disk that is to join: its name is taken
abbrev pub OnlyANameRefusesADisk : Type 0
OnlyANameRefusesADisk =
    (p : DiskAt) (w : World) (g : Group) → w.group ≡ Some g → LetsThrough tests.JoinLimits (p ∷ []) w
    → refusal_of (joining_edit p w g ∷ []) (objects_of g.config) ≡ (if has_name p.disk (objects_of g.config) then Some (Exists p.disk) else None)

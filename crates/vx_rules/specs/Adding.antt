-- Records that are to be added to those of a group.
use Rattle.std.specs.Prelude.{Bool, ◌||◌, is_some, if◌then◌else◌, Option, Some, None, List, [], ◌∷◌, ◌++◌}
use Rattle.vx_base.specs.Named.{Word}
use Rattle.vx_config_parts.specs.declared.object.Object.{Object}
use Rattle.vx_config_parts.specs.declared.object.Object.TheVariants.{GroupRecord, DiskRecord, SubdiskRecord, PlexRecord, VolRecord, DcoRecord, SnapRecord}
use Rattle.vx_config_parts.specs.declared.fault.ObjectFault.{ObjectFault}
use Rattle.vx_config_parts.specs.declared.fault.ObjectFault.TheVariants.{InUse}
use Rattle.vx_config_parts.specs.Objects.{name_of}
use Rattle.vx_rules.specs.declared.rule.Rule.{Rule}
use Rattle.vx_rules.specs.Faults.{first_some, first_of}
use Rattle.vx_rules.specs.Named.{first_named, as_plex, as_vol, as_dco}
use Rattle.vx_rules.specs.References.{has_name}
use Rattle.vx_rules.specs.Rules.{fault_in, fault_over}

-- of records whose names are not among those before, the first of each name
abbrev pub firsts_after : List Object → List Object → List Object
firsts_after before [] = []
firsts_after before (o ∷ os) = if has_name (name_of o) before then firsts_after before os else o ∷ firsts_after (before ++ o ∷ []) os

-- the first record of each name, in order
unfoldable pub firsts : List Object → List Object
firsts all = firsts_after [] all

-- the fault under a rule of records, where what they refer to is looked up among those that are known
abbrev pub fault_by : Rule → List Object → List Object → Option ObjectFault
fault_by r known all = first_some (fault_over r all) (first_of (fault_in r known) all)

-- the fault under the first of the rules that is broken
abbrev pub first_broken_by : List Rule → List Object → List Object → Option ObjectFault
first_broken_by [] known all = None
first_broken_by (r ∷ rs) known all = first_some (fault_by r known all) (first_broken_by rs known all)

-- the record is a plex, a volume or a DCO
abbrev pub is_had_as : Option Object → Bool
is_had_as o = is_some (as_plex o) || is_some (as_vol o) || is_some (as_dco o)

-- the group has a plex, a volume or a DCO of the name
abbrev pub is_had : List Object → Word → Bool
is_had group name = is_had_as (first_named name group)

-- the name in the attribute, where the group has it already
abbrev pub had : List Object → Option Word → Option ObjectFault
had group None = None
had group (Some name) = if is_had group name then Some (InUse name) else None

-- the first name of a record that refers to a plex, a volume or a DCO that the group has already
abbrev pub had_fault : List Object → Object → Option ObjectFault
had_fault group (GroupRecord g) = None
had_fault group (DiskRecord d) = None
had_fault group (SubdiskRecord s) = had group s.plex
had_fault group (PlexRecord p) = had group p.vol
had_fault group (VolRecord v) = first_some (had group v.prefer) (had group v.dco)
had_fault group (DcoRecord d) = had group (Some d.vol)
had_fault group (SnapRecord s) = None

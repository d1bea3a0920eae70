-- A configuration and the records that it is made of.
use Rattle.std.specs.Prelude.{◌≡◌, ◌⊎◌, Some, List}
use Rattle.vx_config_parts.specs.declared.object.Object.{Object}
use Rattle.vx_config_parts.specs.declared.fault.ObjectFault.{ObjectFault}
use Rattle.vx_config_parts.specs.declared.fault.ObjectFault.TheVariants.{OutOfMemory}
use Rattle.vx_rules.specs.Rules.{first_broken}
use Rattle.vx_objects.specs.declared.config.Config.{Config}
use Rattle.vx_objects.specs.Parts.{records_of, in_kinds}

-- the records of a configuration
abbrev pub objects_of : Config → List Object
objects_of c = records_of c.group c.version c.disks c.subdisks c.plexes c.volumes c.dcos c.snaps

-- its records are these, sorted into their kinds
abbrev pub IsMadeOf : List Object → Config → Type 0
IsMadeOf all c = objects_of c ≡ in_kinds all

-- the fault of these records, sorted into their kinds; or memory was not there
abbrev pub IsRefusedOf : List Object → ObjectFault → Type 0
IsRefusedOf all fault = (fault ≡ OutOfMemory) ⊎ (first_broken (in_kinds all) ≡ Some fault)

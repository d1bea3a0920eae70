-- What becomes of a configuration by edits.
use Rattle.std.specs.Prelude.{◌≡◌, ◌⊎◌, Some, List}
use Rattle.vx_config_parts.specs.declared.fault.ObjectFault.{ObjectFault}
use Rattle.vx_config_parts.specs.declared.fault.ObjectFault.TheVariants.{OutOfMemory}
use Rattle.vx_objects.specs.declared.edit.Edit.{Edit}
use Rattle.vx_objects.specs.declared.config.Config.{Config}
use Rattle.vx_objects.specs.Parts.{in_kinds}
use Rattle.vx_objects.specs.Config.{objects_of}
use Rattle.vx_objects.specs.Edits.{edited_by, refusal_of}

-- the configuration has the records of the old one after all the edits
abbrev pub IsEdited : List Edit → Config → Config → Type 0
IsEdited edits old new = objects_of new ≡ in_kinds (edited_by edits (objects_of old))

-- why the edits are refused, or memory was not there
abbrev pub IsRefusedBy : List Edit → Config → ObjectFault → Type 0
IsRefusedBy edits old fault = (fault ≡ OutOfMemory) ⊎ (refusal_of edits (objects_of old) ≡ Some fault)

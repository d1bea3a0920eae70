-- Where subdisks lie.
use Rattle.std.specs.Prelude.{◌+◌, Bool, Option, None, List, ◌&&◌, nat_le, nat_lt}
use Rattle.std.specs.List.{list_any}
use Rattle.std.specs.Str.{bytes_eq}
use Rattle.vx_config_parts.specs.declared.subdisk.Subdisk.{Subdisk}
use Rattle.vx_config_parts.specs.declared.object.Object.{Object}
use Rattle.vx_config_parts.specs.declared.object.Object.TheVariants.{SubdiskRecord}
use Rattle.vx_config_parts.specs.declared.fault.ObjectFault.{ObjectFault}
use Rattle.vx_config_parts.specs.declared.fault.ObjectFault.TheVariants.{Outside}
use Rattle.vx_config_parts.specs.Objects.{is_disk}
use Rattle.vx_rules.specs.Faults.{unless}

-- its disk reaches to the end of the subdisk
abbrev pub has_room : List Object → Subdisk → Bool
has_room all s = list_any (λ o. is_disk (λ d. bytes_eq d.name s.disk && nat_le (s.off + s.len) d.publen) o) all

-- the subdisk has a sector, and lies in the public region of its disk
abbrev pub lies_inside : List Object → Subdisk → Bool
lies_inside all s = nat_lt 0 s.len && has_room all s

abbrev pub outside_fault : List Object → Object → Option ObjectFault
outside_fault all (SubdiskRecord s) = unless (lies_inside all s) (Outside s.name)
outside_fault all _ = None

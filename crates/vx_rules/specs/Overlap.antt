-- The first subdisk by name that overlaps one before it.
use Rattle.std.specs.Prelude.{◌+◌, Bool, Option, Some, None, List, ◌&&◌, nat_lt, if◌then◌else◌}
use Rattle.std.specs.List.{list_any, fold}
use Rattle.std.specs.Str.{bytes_eq}
use Rattle.vx_base.specs.Named.{Word}
use Rattle.vx_config_parts.specs.declared.subdisk.Subdisk.{Subdisk}
use Rattle.vx_config_parts.specs.declared.object.Object.{Object}
use Rattle.vx_config_parts.specs.declared.object.Object.TheVariants.{SubdiskRecord}
use Rattle.vx_config_parts.specs.declared.fault.ObjectFault.{ObjectFault}
use Rattle.vx_config_parts.specs.declared.fault.ObjectFault.TheVariants.{Overlap}
use Rattle.vx_config_parts.specs.Objects.{is_subdisk, comes_before}

-- the two have a sector in common
abbrev pub shares_sector : Subdisk → Subdisk → Bool
shares_sector s t = bytes_eq s.disk t.disk && nat_lt s.off (t.off + t.len) && nat_lt t.off (s.off + s.len)

-- the subdisk overlaps one that comes before it by name
abbrev pub overlaps_earlier : List Object → Subdisk → Bool
overlaps_earlier all s = list_any (λ o. is_subdisk (λ t. comes_before t.name s.name && shares_sector s t) o) all

-- the lesser of two names
abbrev pub lesser : Option Word → Word → Option Word
lesser None name = Some name
lesser (Some best) name = if comes_before name best then Some name else Some best

-- the first by name of those so far and this record, if it overlaps an earlier one
abbrev pub first_overlap_with : List Object → Option Word → Object → Option Word
first_overlap_with all best (SubdiskRecord s) = if overlaps_earlier all s then lesser best s.name else best
first_overlap_with all best _ = best

-- the first subdisk by name that overlaps an earlier one
abbrev pub first_overlap : List Object → Option Word
first_overlap all = fold (first_overlap_with all) None all

abbrev pub overlap_of : Option Word → Option ObjectFault
overlap_of None = None
overlap_of (Some name) = Some (Overlap name)

abbrev pub overlap_fault : List Object → Option ObjectFault
overlap_fault all = overlap_of (first_overlap all)

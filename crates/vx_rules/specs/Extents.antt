-- Where the subdisks of a configuration lie on disks, and the first that lies over one before it.
use Rattle.std.specs.Prelude.{◌+◌, Bool, true, Option, Some, None, List, [], ◌∷◌, ◌++◌, ◌&&◌, nat_lt, if◌then◌else◌}
use Rattle.std.specs.List.{list_any}
use Rattle.std.specs.Str.{bytes_eq}
use Rattle.vx_base.specs.Named.{Word}
use Rattle.vx_config_parts.specs.declared.subdisk.Subdisk.{Subdisk}
use Rattle.vx_config_parts.specs.declared.object.Object.{Object}
use Rattle.vx_config_parts.specs.declared.object.Object.TheVariants.{SubdiskRecord}
use Rattle.vx_config_parts.specs.Objects.{comes_before}
use Rattle.vx_rules.specs.declared.extent.Extent.{Extent}

-- where the subdisk lies
abbrev pub extent_of : Subdisk → Extent
extent_of s = record { name = s.name; disk = s.disk; off = s.off; len = s.len }

-- where the subdisks among the records lie
abbrev pub extents : List Object → List Extent
extents [] = []
extents (SubdiskRecord s ∷ os) = extent_of s ∷ extents os
extents (_ ∷ os) = extents os

abbrev pub has_sector : Extent → Bool
has_sector e = nat_lt 0 e.len

-- the two have a sector in common
abbrev pub meets : Extent → Extent → Bool
meets e t = bytes_eq e.disk t.disk && nat_lt e.off (t.off + t.len) && nat_lt t.off (e.off + e.len)

-- the name comes behind the last one
abbrev pub rises_from : Option Word → Word → Bool
rises_from None name = true
rises_from (Some last) name = comes_before last name

-- the names rise from the last one on
abbrev pub names_rise : Option Word → List Extent → Bool
names_rise last [] = true
names_rise last (e ∷ es) = rises_from last e.name && names_rise (Some e.name) es

-- the first that meets one before it
abbrev pub first_clash : List Extent → List Extent → Option Word
first_clash done [] = None
first_clash done (e ∷ es) = if list_any (meets e) done then Some e.name else first_clash (done ++ e ∷ []) es

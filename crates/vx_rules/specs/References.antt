-- Names differ, and what a record refers to is there, with the kind that the attribute needs.
use Rattle.std.specs.Prelude.{Bool, Option, Some, None, List, [], ◌∷◌, ◌++◌, ◌&&◌, not}
use Rattle.std.specs.List.{list_any}
use Rattle.std.specs.Str.{bytes_eq}
use Rattle.vx_base.specs.Named.{Word}
use Rattle.vx_config_parts.specs.declared.object.Object.{Object}
use Rattle.vx_config_parts.specs.declared.object.Object.TheVariants.{GroupRecord, DiskRecord, SubdiskRecord, PlexRecord, VolRecord, DcoRecord, SnapRecord}
use Rattle.vx_config_parts.specs.declared.fault.ObjectFault.{ObjectFault}
use Rattle.vx_config_parts.specs.declared.fault.ObjectFault.TheVariants.{Exists, NoObject}
use Rattle.vx_config_parts.specs.Objects.{name_of, is_disk, is_plex, is_vol, is_dco, refers}
use Rattle.vx_rules.specs.Faults.{first_some, unless}

-- some record has the name
abbrev pub has_name : Word → List Object → Bool
has_name name all = list_any (λ o. bytes_eq (name_of o) name) all

-- the name of the first record whose name an earlier one has, where those before it are given
abbrev pub repeated_after : List Object → List Object → Option ObjectFault
repeated_after before [] = None
repeated_after before (o ∷ os) = first_some (unless (not (has_name (name_of o) before)) (Exists (name_of o))) (repeated_after (before ++ o ∷ []) os)

abbrev pub has_disk : Word → List Object → Bool
has_disk name all = list_any (λ o. is_disk (λ d. bytes_eq d.name name) o) all

abbrev pub has_plex : Word → List Object → Bool
has_plex name all = list_any (λ o. is_plex (λ p. bytes_eq p.name name) o) all

abbrev pub has_vol : Word → List Object → Bool
has_vol name all = list_any (λ o. is_vol (λ v. bytes_eq v.name name) o) all

-- there is a DCO of that name that names the volume
abbrev pub has_dco_of : Word → Word → List Object → Bool
has_dco_of name vol all = list_any (λ o. is_dco (λ d. bytes_eq d.name name && bytes_eq d.vol vol) o) all

-- there is a volume of that name that names the DCO
abbrev pub has_vol_with : Word → Word → List Object → Bool
has_vol_with name dco all = list_any (λ o. is_vol (λ v. bytes_eq v.name name && refers v.dco dco) o) all

-- the name in the attribute, where what it needs is not there
abbrev pub missing : Option Word → (Word → Bool) → Option ObjectFault
missing None is_there = None
missing (Some name) is_there = unless (is_there name) (NoObject name)

-- the first name of a record that refers to nothing of the kind that it needs
abbrev pub reference_fault : List Object → Object → Option ObjectFault
reference_fault all (GroupRecord g) = None
reference_fault all (DiskRecord d) = None
reference_fault all (SubdiskRecord s) = first_some (unless (has_disk s.disk all) (NoObject s.disk)) (missing s.plex (λ p. has_plex p all))
reference_fault all (PlexRecord p) = missing p.vol (λ v. has_vol v all)
reference_fault all (VolRecord v) = first_some (missing v.prefer (λ p. has_plex p all)) (missing v.dco (λ d. has_dco_of d v.name all))
reference_fault all (DcoRecord d) = unless (has_vol_with d.vol d.name all) (NoObject d.vol)
reference_fault all (SnapRecord s) = first_some (unless (has_vol s.vol all) (NoObject s.vol)) (unless (has_vol s.of all) (NoObject s.of))

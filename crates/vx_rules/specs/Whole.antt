-- A plex is whole: its columns have no holes, are of one length, and hold what the plex is for.
use Rattle.std.specs.Prelude.{ℕ, Bool, true, Option, Some, None, List, ◌&&◌}
use Rattle.std.specs.List.{list_any}
use Rattle.std.specs.Str.{bytes_eq}
use Rattle.vx_base.specs.Named.{Word}
use Rattle.vx_config_parts.specs.declared.plex.Plex.{Plex}
use Rattle.vx_config_parts.specs.declared.plex.PlexKind.{PlexKind}
use Rattle.vx_config_parts.specs.declared.object.Object.{Object}
use Rattle.vx_config_parts.specs.declared.object.Object.TheVariants.{PlexRecord}
use Rattle.vx_config_parts.specs.declared.fault.ObjectFault.{ObjectFault}
use Rattle.vx_config_parts.specs.declared.fault.ObjectFault.TheVariants.{NotWhole}
use Rattle.vx_config_parts.specs.Objects.{is_vol}
use Rattle.vx_rules.specs.Columns.{columns_are_good, plex_length}
use Rattle.vx_rules.specs.Sizes.{holds, layout_fits_kind}
use Rattle.vx_rules.specs.Faults.{unless}

-- there is a volume of that name that so many sectors hold
abbrev pub has_volume_within : List Object → Word → PlexKind → ℕ → Bool
has_volume_within all name kind size = list_any (λ o. is_vol (λ v. bytes_eq v.name name && holds kind size v) o) all

-- the plex has no volume, or is long enough for it
abbrev pub holds_volume : List Object → Plex → Option Word → Bool
holds_volume all p None = true
holds_volume all p (Some vol) = has_volume_within all vol p.kind (plex_length all p)

abbrev pub is_whole : List Object → Plex → Bool
is_whole all p = layout_fits_kind p.kind p.layout && columns_are_good all p && holds_volume all p p.vol

abbrev pub whole_fault : List Object → Object → Option ObjectFault
whole_fault all (PlexRecord p) = unless (is_whole all p) (NotWhole p.name)
whole_fault all _ = None

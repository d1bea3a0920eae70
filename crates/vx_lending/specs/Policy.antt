-- How reads of a volume choose among its plexes, as its record says.
use Rattle.std.specs.Prelude.{Bool, Option, Some, None}
use Rattle.std.specs.List.{find}
use Rattle.std.specs.Str.{bytes_eq}
use Rattle.vx_base.specs.Named.{Word}
use Rattle.vx_picker.specs.declared.picker.Policy.{Policy}
use Rattle.vx_picker.specs.declared.picker.Policy.TheVariants.{Round, Prefer, Select}
use Rattle.vx_config_parts.specs.declared.plex.Plex.{Plex}
use Rattle.vx_config_parts.specs.declared.vol.PolicyKind.{PolicyKind}
use Rattle.vx_config_parts.specs.declared.vol.PolicyKind.TheVariants as kinds
use Rattle.vx_config_parts.specs.declared.vol.Vol.{Vol}
use Rattle.vx_objects.specs.declared.config.Config.{Config}
use Rattle.vx_image.specs.Bytes.{map_or_zero}

-- the plex has the name
abbrev pub is_named : Word → Plex → Bool
is_named name p = bytes_eq p.name name

-- the map of the plex is preferred, where there is one
abbrev pub preferred : Option Plex → Policy
preferred None = Round
preferred (Some p) = Prefer (map_or_zero p.map)

-- so is that of the plex of this name, where one is named
abbrev pub preferring : Config → Option Word → Policy
preferring c None = Round
preferring c (Some name) = preferred (find (is_named name) c.plexes)

-- a policy of this kind, with the plex that it names
abbrev pub policy_by : Config → PolicyKind → Option Word → Policy
policy_by c kinds.Round name = Round
policy_by c kinds.Prefer name = preferring c name
policy_by c kinds.Select name = Select

-- the policy of the volume
abbrev pub policy_of : Config → Vol → Policy
policy_of c v = policy_by c v.rdpol v.prefer

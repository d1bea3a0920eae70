-- The plexes of a volume that a start has to do with.
use Rattle.std.specs.Prelude.{ℕ, ◌&&◌, not, Bool, true, false, Option, Some, None, List, [], map, if◌then◌else◌}
use Rattle.std.specs.List.{filter}
use Rattle.std.specs.Str.{bytes_eq}
use Rattle.vx_base.specs.Named.{Word}
use Rattle.vx_config_parts.specs.declared.plex.Plex.{Plex}
use Rattle.vx_config_parts.specs.declared.snap.Snap.{Snap}
use Rattle.vx_config_parts.specs.declared.vol.Vol.{Vol}
use Rattle.vx_config_parts.specs.declared.state.PlexState.{PlexState}
use Rattle.vx_config_parts.specs.declared.state.PlexState.TheVariants as plex
use Rattle.vx_config_parts.specs.declared.object.Object.TheVariants.{VolRecord}
use Rattle.vx_config_parts.specs.Objects.{is_data_plex_of, is_log_plex_of}
use Rattle.vx_objects.specs.declared.config.Config.{Config}
use Rattle.vx_objects.specs.Config.{objects_of}
use Rattle.vx_image.specs.Once.{IsOneOf}
use Rattle.vx_image.specs.Image.{is_available_state}
use Rattle.vx_image.specs.Bytes.{is_held, map_or_zero}

-- the volume is one of the configuration
abbrev pub IsVolOf : Config → Vol → Type 0
IsVolOf c v = IsOneOf (objects_of c) (VolRecord v)

-- ---- data plexes

-- the plex is available: all its disks are good, and its state is
abbrev pub is_on : Config → ℕ → Plex → Bool
is_on c good p = is_held c good p && is_available_state p.state

-- the volume's data plexes of which all disks are good, in order
abbrev pub held_plexes : Config → ℕ → Word → List Plex
held_plexes c good vol = filter (λ p. is_data_plex_of vol p && is_held c good p) c.plexes

-- those that are available
abbrev pub on_plexes : Config → ℕ → Word → List Plex
on_plexes c good vol = filter (λ p. is_data_plex_of vol p && is_on c good p) c.plexes

-- its other data plexes
abbrev pub off_plexes : Config → ℕ → Word → List Plex
off_plexes c good vol = filter (λ p. is_data_plex_of vol p && not (is_on c good p)) c.plexes

-- the maps of plexes
abbrev pub maps_of : List Plex → List ℕ
maps_of ps = map (λ p. map_or_zero p.map) ps

-- ---- log plexes

-- a log plex in this state is used: one that is active, and in a start from EMPTY also one that is empty
abbrev pub is_used_state : Bool → PlexState → Bool
is_used_state fresh plex.Active = true
is_used_state fresh plex.Empty = fresh
is_used_state fresh _ = false

-- a log plex of the volume that is used, and of which all disks are good
abbrev pub is_used_log : Config → ℕ → Bool → Word → Plex → Bool
is_used_log c good fresh vol p = is_log_plex_of vol p && (is_used_state fresh p.state && is_held c good p)

-- the volume's log plexes that are used, in order, by its DCO: without one it has no log
abbrev pub used_logs : Option Word → Config → ℕ → Bool → Word → List Plex
used_logs None c good fresh vol = []
used_logs (Some dco) c good fresh vol = filter (is_used_log c good fresh vol) c.plexes

-- ---- relations

-- the map of a relation in the log of the volume, if it is in it
abbrev pub relation_map : Word → Snap → Option ℕ
relation_map vol s = if bytes_eq s.vol vol then Some s.map else if bytes_eq s.of vol then Some s.ofmap else None

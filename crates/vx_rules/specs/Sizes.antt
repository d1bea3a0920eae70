-- What a plex of so many sectors holds.
use Rattle.std.specs.Prelude.{ℕ, ◌/◌, Bool, true, false, ◌&&◌, nat_le}
use Rattle.vx_block.specs.Geometry.{is_geometry}
use Rattle.vx_block.specs.Regions.{region_count}
use Rattle.vx_mapfmt.specs.Sizes.{map_bytes_of, plex_bytes_of}
use Rattle.vx_config_parts.specs.declared.plex.PlexKind.{PlexKind}
use Rattle.vx_config_parts.specs.declared.plex.PlexKind.TheVariants.{Data, Log}
use Rattle.vx_config_parts.specs.declared.plex.PlexLayout.{PlexLayout}
use Rattle.vx_config_parts.specs.declared.plex.PlexLayout.TheVariants.{Concat, Stripe}
use Rattle.vx_config_parts.specs.declared.vol.Vol.{Vol}

-- the sectors of a log plex, which holds 32 change maps
abbrev pub log_length : ℕ → ℕ → ℕ
log_length length region = plex_bytes_of 32 (map_bytes_of (region_count length region)) / 512

-- a volume of so many sectors fits
abbrev pub holds : PlexKind → ℕ → Vol → Bool
holds Data size v = nat_le v.len size
holds Log size v = is_geometry v.len v.region && nat_le (log_length v.len v.region) size

-- a log plex has one column
abbrev pub layout_fits_kind : PlexKind → PlexLayout → Bool
layout_fits_kind Data layout = true
layout_fits_kind Log Concat = true
layout_fits_kind Log Stripe = false

-- How a volume is started by its kept state.
use Rattle.std.specs.Prelude.{ℕ, Bool, true, false}
use Rattle.vx_mask.specs.Mask.{above_lowest, has, lowest, union}
use Rattle.vx_config_parts.specs.declared.state.VolState.{VolState}
use Rattle.vx_config_parts.specs.declared.state.VolState.TheVariants as vol
use Rattle.vx_volume.specs.declared.volume.VolumeShape.{VolumeShape}

-- the volume was never started
abbrev pub is_fresh : VolState → Bool
is_fresh vol.Empty = true
is_fresh vol.Clean = false
is_fresh vol.Active = false
is_fresh vol.NeedSync = false
is_fresh vol.Sync = false

-- the maps of all data plexes
abbrev pub all_maps : VolumeShape → ℕ
all_maps shape = union shape.on shape.off

-- those of all but the lowest, whether they are on or not
abbrev pub maps_to_copy : VolumeShape → ℕ
maps_to_copy shape = above_lowest (all_maps shape)

-- the lowest data plex is on
abbrev pub is_lowest_on : VolumeShape → Bool
is_lowest_on shape = has shape.on (lowest (all_maps shape))

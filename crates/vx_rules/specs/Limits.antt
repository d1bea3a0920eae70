-- The limits of a configuration.
use Rattle.std.specs.Prelude.{ℕ, Bool, true, Option, Some, None, List, length, ◌==◌, ◌&&◌, ◌^◌, nat_le, nat_lt}
use Rattle.std.specs.List.{list_any, count_by}
use Rattle.vx_block.specs.Geometry.{is_region_size, is_geometry}
use Rattle.vx_base.specs.Named.{Word}
use Rattle.vx_config_parts.specs.declared.object.Object.{Object}
use Rattle.vx_config_parts.specs.declared.object.Object.TheVariants.{GroupRecord, DiskRecord, SubdiskRecord, PlexRecord, VolRecord, DcoRecord, SnapRecord}
use Rattle.vx_config_parts.specs.Objects.{is_group, is_disk, is_plex, is_vol, refers, is_data_plex_of}

-- there is one group record, and it has version 1
abbrev pub has_one_group : List Object → Bool
has_one_group all = count_by (λ o. is_group (λ g. true) o) all == 1 && list_any (λ o. is_group (λ g. g.version == 1) o) all

abbrev pub is_short : ℕ → Bool
is_short n = nat_lt n (2 ^ 40)

-- below the greatest number of a field, which stands for a record's number that the field cannot hold
abbrev pub fits_byte : ℕ → Bool
fits_byte n = nat_lt n 255

abbrev pub fits_word : ℕ → Bool
fits_word n = nat_lt n 4294967295

abbrev pub map_fits : Option ℕ → Bool
map_fits None = true
map_fits (Some m) = fits_byte m

-- numbers are those of the text form, and their fields hold them; a DCO has 32 maps
abbrev pub numbers_fit : Object → Bool
numbers_fit (GroupRecord g) = true
numbers_fit (DiskRecord d) = is_short d.publen && fits_byte d.slot
numbers_fit (SubdiskRecord s) = is_short s.off && is_short s.len && is_short s.at && fits_word s.col
numbers_fit (PlexRecord p) = is_short p.unit && fits_word p.ncol && map_fits p.map
numbers_fit (VolRecord v) = is_short v.len && is_short v.region
numbers_fit (DcoRecord d) = d.maps == 32
numbers_fit (SnapRecord s) = fits_byte s.map && fits_byte s.ofmap

-- the slot is below 32, and no other disk has it
abbrev pub slot_is_own : List Object → Object → Bool
slot_is_own all (DiskRecord d) = nat_lt d.slot 32 && nat_le (count_by (λ o. is_disk (λ e. e.slot == d.slot) o) all) 1
slot_is_own all _ = true

abbrev pub volumes_are_few : List Object → Bool
volumes_are_few all = nat_le (count_by (λ o. is_vol (λ v. true) o) all) 64

abbrev pub is_short_name : Word → Bool
is_short_name name = nat_le (length name) 24

-- names of the group, of disks and of volumes are short
abbrev pub name_is_short : Object → Bool
name_is_short (GroupRecord g) = is_short_name g.name
name_is_short (DiskRecord d) = is_short_name d.name
name_is_short (VolRecord v) = is_short_name v.name
name_is_short _ = true

abbrev pub region_is_good : Object → Bool
region_is_good (VolRecord v) = is_region_size v.region
region_is_good _ = true

-- the volume has a valid geometry
abbrev pub regions_are_good : Object → Bool
regions_are_good (VolRecord v) = is_geometry v.len v.region
regions_are_good _ = true

-- the volume has a data plex, and at most 32 plexes
abbrev pub plexes_are_good : List Object → Object → Bool
plexes_are_good all (VolRecord v) = list_any (λ o. is_plex (λ p. is_data_plex_of v.name p) o) all && nat_le (count_by (λ o. is_plex (λ p. refers p.vol v.name) o) all) 32
plexes_are_good all _ = true

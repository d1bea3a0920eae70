-- The rows of the view: what each line shows, and where it stands.
use Rattle.std.specs.Prelude.{◌++◌, ◌||◌, ℕ, if◌then◌else◌, Bool, true, Option, None, Some, List, map, is_some}
use Rattle.std.specs.BTreeMap.{BTreeMap, get}
use Rattle.std.specs.List.{filter_map, find, list_any}
use Rattle.std.specs.Option.{option_and_then, option_cmp, option_map}
use Rattle.std.specs.Str.{bytes_eq}
use Rattle.std.specs.Cmp.Lexicographic.{slice_cmp}
use Rattle.std.specs.declared.cmp.Ordering.{Ordering}
use Rattle.std.specs.Ordering.{nat_cmp, ordering_then}
use Rattle.vx_base.specs.Named.{Word}
use Rattle.vx_mask.specs.Mask.{has}
use Rattle.vx_config_parts.specs.declared.disk.Disk.{Disk}
use Rattle.vx_config_parts.specs.declared.object.Object.{Object}
use Rattle.vx_config_parts.specs.declared.plex.Plex.{Plex}
use Rattle.vx_config_parts.specs.declared.subdisk.Subdisk.{Subdisk}
use Rattle.vx_config_parts.specs.declared.vol.Vol.{Vol}
use Rattle.vx_rules.specs.Columns.{plex_length}
use Rattle.vx_objects.specs.declared.config.Config.{Config}
use Rattle.vx_objects.specs.Config.{objects_of}
use Rattle.vx_image.specs.Bytes.{is_held}
use Rattle.vx_image.specs.Lies.{slot_of}
use Rattle.vx_hierarchy.specs.Kernel.{plex_kernel, volume_kernel}
use Rattle.vx_hierarchy.specs.declared.row.Row.{Row}
use Rattle.vx_hierarchy.specs.declared.row.Row.TheVariants.{VolumeRow, PlexRow, SubdiskRow}

-- a volume of the name is started
abbrev pub is_started : {T : Type 0} → BTreeMap Word T → Word → Bool
is_started started vol = is_some (get (slice_cmp nat_cmp) started vol)

-- ---- what is shown

abbrev pub volume_row : (Word → Bool) → Vol → Row
volume_row started v = VolumeRow v (volume_kernel (started v.name))

-- a plex of that volume
abbrev pub plex_row_of : List Object → (Plex → Bool) → (Word → Bool) → Plex → Word → Row
plex_row_of all held started p vol = PlexRow p vol (plex_kernel (started vol) (held p) p.state) (plex_length all p)

-- a plex without a volume has no row
abbrev pub plex_row : List Object → (Plex → Bool) → (Word → Bool) → Plex → Option Row
plex_row all held started p = option_map (plex_row_of all held started p) p.vol

-- the plex of that name
abbrev pub plex_named : List Plex → Word → Option Plex
plex_named plexes name = find (λ p. bytes_eq p.name name) plexes

-- the volume of the plex, if both are there
abbrev pub volume_of : Option Plex → Option Word
volume_of None = None
volume_of (Some p) = p.vol

-- a subdisk of that plex
abbrev pub subdisk_row_of : (Word → Option Plex) → Subdisk → Word → Option Row
subdisk_row_of named s plex = option_map (SubdiskRow s plex) (volume_of (named plex))

-- a subdisk without a plex, or whose plex has no volume, has no row
abbrev pub subdisk_row : (Word → Option Plex) → Subdisk → Option Row
subdisk_row named s = option_and_then (subdisk_row_of named s) s.plex

-- the rows of all volumes, of their plexes, and of the subdisks of these
abbrev pub rows : Config → (Plex → Bool) → (Word → Bool) → List Row
rows c held started =
    map (volume_row started) c.volumes
    ++ (filter_map (plex_row (objects_of c) held started) c.plexes ++ filter_map (subdisk_row (plex_named c.plexes)) c.subdisks)

-- ---- which plexes are held

-- the plex is among those that started volumes have the pieces of
abbrev pub is_lent : List Word → Word → Bool
is_lent lent plex = list_any (λ n. bytes_eq n plex) lent

-- all its disks are good, or a started volume has its pieces
abbrev pub stays_held : Config → ℕ → List Word → Plex → Bool
stays_held c good lent p = is_held c good p || is_lent lent p.name

abbrev pub unless_lent : List Word → Option Word → Option Word
unless_lent lent None = None
unless_lent lent (Some plex) = if is_lent lent plex then None else Some plex

-- the plex of a subdisk, where the subdisk's disk is not good and the plex's pieces are not lent
abbrev pub lost_plex : List Disk → ℕ → List Word → Subdisk → Option Word
lost_plex disks good lent s = if has good (slot_of disks s.disk) then None else unless_lent lent s.plex

-- ---- where it stands

-- the volume that a row is of
abbrev pub row_volume : Row → Word
row_volume (VolumeRow v kernel) = v.name
row_volume (PlexRow p vol kernel len) = vol
row_volume (SubdiskRow s plex vol) = vol

-- the plex that a row is of
abbrev pub row_plex : Row → Option Word
row_plex (VolumeRow v kernel) = None
row_plex (PlexRow p vol kernel len) = Some p.name
row_plex (SubdiskRow s plex vol) = Some plex

-- the column and the first sector in it that a row is of
abbrev pub row_piece : Row → Option (ℕ × ℕ)
row_piece (VolumeRow v kernel) = None
row_piece (PlexRow p vol kernel len) = None
row_piece (SubdiskRow s plex vol) = Some (s.col, s.at)

abbrev pub piece_cmp : ℕ × ℕ → ℕ × ℕ → Ordering
piece_cmp a b = ordering_then (nat_cmp a.0 b.0) (nat_cmp a.1 b.1)

-- by volume, its own row first; of one volume by plex, its own row first; of one plex by column and first sector
abbrev pub by_place : Row → Row → Ordering
by_place a b =
    ordering_then
    (ordering_then (slice_cmp nat_cmp (row_volume a) (row_volume b)) (option_cmp (slice_cmp nat_cmp) (row_plex a) (row_plex b)))
    (option_cmp piece_cmp (row_piece a) (row_piece b))

-- the row is of the volume that is asked for, if one is
abbrev pub is_asked : Option Word → Row → Bool
is_asked None row = true
is_asked (Some vol) row = bytes_eq (row_volume row) vol

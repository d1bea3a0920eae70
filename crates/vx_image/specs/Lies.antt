-- Where a plex lies: its columns are its subdisks end to end.
use Rattle.std.specs.Prelude.{◌≡◌, ◌==◌, ◌&&◌, ◌+◌, ◌≤◌, nat_le, ℕ, zero, suc, Bool, Option, Some, None, List, [], ◌∷◌, length, true, if◌then◌else◌}
use Rattle.std.specs.List.{list_all, list_any, flat_map, find}
use Rattle.std.specs.Str.{bytes_eq}
use Rattle.vx_base.specs.Named.{Word}
use Rattle.vx_layout.specs.declared.strip.Strip.{Strip}
use Rattle.vx_layout.specs.Columns.{capacity}
use Rattle.vx_layout.specs.Valid.{is_apart}
use Rattle.vx_config_parts.specs.declared.disk.Disk.{Disk}
use Rattle.vx_config_parts.specs.declared.subdisk.Subdisk.{Subdisk}
use Rattle.vx_config_parts.specs.declared.plex.Plex.{Plex}
use Rattle.vx_config_parts.specs.declared.vol.Vol.{Vol}
use Rattle.vx_config_parts.specs.declared.object.Object.TheVariants.{PlexRecord, VolRecord}
use Rattle.vx_config_parts.specs.Objects.{is_data_plex_of}
use Rattle.vx_rules.specs.Columns.{is_in_column}
use Rattle.vx_objects.specs.declared.config.Config.{Config}
use Rattle.vx_objects.specs.Config.{objects_of}
use Rattle.vx_image.specs.Once.{IsOneOf}

-- the slot of a disk, by its name; where there is none, a slot that no disk has
abbrev pub slot_of : List Disk → Word → ℕ
slot_of [] name = 32
slot_of (d ∷ ds) name = if bytes_eq d.name name then d.slot else slot_of ds name

-- the sectors of a subdisk
abbrev pub strip_of : List Disk → Subdisk → Strip
strip_of disks s = record { disk = slot_of disks s.disk; start = s.off; count = s.len }

-- a piece, and the strips behind it
abbrev pub strip_then : List Disk → Option Subdisk → (ℕ → List Strip) → List Strip
strip_then disks None rest = []
strip_then disks (Some s) rest = strip_of disks s ∷ rest (s.at + s.len)

-- the strips of a column from this sector on: the piece that begins there, and so on to the column's end; there are no more than so many
abbrev pub strips_from : ℕ → Config → Word → ℕ → ℕ → List Strip
strips_from zero c name col at = []
strips_from (suc n) c name col at = strip_then c.disks (find (λ s. is_in_column name col s && s.at == at) c.subdisks) (λ next. strips_from n c name col next)

-- so many columns of a plex, from this one on
abbrev pub columns_from : ℕ → Config → Word → ℕ → List (List Strip)
columns_from zero c name col = []
columns_from (suc n) c name col = strips_from (length c.subdisks) c name col 0 ∷ columns_from n c name (col + 1)

-- the columns of a plex
abbrev pub columns_of : Config → Plex → List (List Strip)
columns_of c p = columns_from p.ncol c p.name 0

-- the plex is one of the configuration
abbrev pub IsPlexOf : Config → Plex → Type 0
IsPlexOf c p = IsOneOf (objects_of c) (PlexRecord p)

-- each volume of which the plex is a data plex has no more sectors than these columns
abbrev pub HoldsItsVolume : Config → Plex → List (List Strip) → Type 0
HoldsItsVolume c p columns = (v : Vol) → IsOneOf (objects_of c) (VolRecord v) → is_data_plex_of v.name p ≡ true → v.len ≤ capacity columns

-- the strip lies in the public region of the disk in its slot
abbrev pub is_on_disk : List Disk → Strip → Bool
is_on_disk disks strip = list_any (λ d. d.slot == strip.disk && nat_le (strip.start + strip.count) d.publen) disks

-- each strip of these columns does
abbrev pub are_on_disks : List Disk → List (List Strip) → Bool
are_on_disks disks columns = list_all (λ strips. list_all (is_on_disk disks) strips) columns

-- the strips of all its columns
abbrev pub strips_of : Config → Plex → List Strip
strips_of c p = flat_map (λ strips. strips) (columns_of c p)

-- Two plexes of a configuration, whose names differ, have no sector of a disk in common.
abbrev pub PlexesLieApart : Type 0
PlexesLieApart = (c : Config) (p q : Plex) → (p.name ≡ q.name → ⊥) → list_all (λ x. list_all (is_apart x) (strips_of c q)) (strips_of c p) ≡ true

-- Where a block lies: in one column at its own number, or in rows of stripe units over several.
use Rattle.std.specs.Prelude.{ℕ, ◌+◌, ◌-◌, ◌*◌, ◌/◌, ◌%◌, ◌==◌, ◌&&◌, nat_lt, nat_le, Bool, option_map, if◌then◌else◌, List, [], ◌∷◌, length, slice_index_or, Option, Some, None}
use Rattle.vx_layout.specs.declared.strip.Strip.{Strip}
use Rattle.vx_layout.specs.declared.place.Place.{Place}

-- the sectors of a column
abbrev pub column_length : List Strip → ℕ
column_length [] = 0
column_length (strip ∷ strips) = strip.count + column_length strips

-- a column is its strips end to end
abbrev pub place_in : List Strip → ℕ → Option Place
place_in [] sector = None
place_in (strip ∷ strips) sector =
    if nat_lt sector strip.count then Some (record { disk = strip.disk; sector = strip.start + sector }) else place_in strips (sector - strip.count)

abbrev pub column_at : List (List Strip) → ℕ → List Strip
column_at columns k = slice_index_or columns k []

-- the blocks of a layout
abbrev pub capacity : List (List Strip) → ℕ
capacity columns = length columns * column_length (column_at columns 0)

-- the column of a block, and the sector of the column
abbrev pub column_of : ℕ → List (List Strip) → ℕ → ℕ
column_of unit columns block = if length columns == 1 then 0 else block / unit % length columns

abbrev pub sector_of : ℕ → List (List Strip) → ℕ → ℕ
sector_of unit columns block = if length columns == 1 then block else block / unit / length columns * unit + block % unit

-- where the block lies
abbrev pub place_of : ℕ → List (List Strip) → ℕ → Option Place
place_of unit columns block = place_in (column_at columns (column_of unit columns block)) (sector_of unit columns block)

-- what is left of the strip that has a sector of a column, from that sector on
abbrev pub rest_in : List Strip → ℕ → Option Strip
rest_in [] sector = None
rest_in (strip ∷ strips) sector =
    if nat_lt sector strip.count then Some (record { disk = strip.disk; start = strip.start + sector; count = strip.count - sector }) else rest_in strips (sector - strip.count)

-- a column of one strip
abbrev pub one_strip : ℕ → ℕ → ℕ → List Strip
one_strip disk start count = (record { disk = disk; start = start; count = count }) ∷ []

-- the strip has the sector of the disk
abbrev pub has_place : Strip → Place → Bool
has_place strip place = strip.disk == place.disk && nat_le strip.start place.sector && nat_lt (place.sector - strip.start) strip.count

-- the sector of a column that lies at a place
abbrev pub sector_at : List Strip → Place → Option ℕ
sector_at [] place = None
sector_at (strip ∷ strips) place = if has_place strip place then Some (place.sector - strip.start) else option_map (λ s. strip.count + s) (sector_at strips place)

-- the block at a sector of a column
abbrev pub block_number : ℕ → List (List Strip) → ℕ → ℕ → ℕ
block_number unit columns column sector = if length columns == 1 then sector else (sector / unit * length columns + column) * unit + sector % unit

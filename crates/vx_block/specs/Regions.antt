-- A volume is cut into regions of one size; the last may be shorter.
use Rattle.std.specs.Prelude.{ℕ, ◌+◌, ◌-◌, ◌*◌, ◌/◌, max, min, nat_lt, if◌then◌else◌, Option, Some, None}
use Rattle.vx_block.specs.declared.geometry.Span.{Span}

-- how many regions there are
abbrev pub region_count : ℕ → ℕ → ℕ
region_count length region = (length + (region - 1)) / region

-- the region of a block
abbrev pub region_at : ℕ → ℕ → ℕ
region_at region block = block / region

-- the blocks that two ranges have in common, from the first start and end to the second
abbrev pub common : ℕ → ℕ → ℕ → ℕ → Option Span
common start end start' end' =
    if nat_lt (max start start') (min end end') then Some (record { start = max start start'; count = min end end' - max start start' }) else None

-- the part of a range of blocks that lies in a region
abbrev pub part_in : ℕ → ℕ → ℕ → ℕ → Option Span
part_in size start count region = common start (start + count) (region * size) (region * size + size)

-- the parts of a range, in order: its intersections with the regions, from that of its first block on
abbrev pub part_at : ℕ → ℕ → ℕ → ℕ → Option Span
part_at size start count index = part_in size start count (start / size + index)

-- What a sector says as a header, where it is one.
use Rattle.std.specs.Prelude.{ℕ, ◌^◌, ◌&&◌, ◌==◌, nat_le, nat_lt, Bool, if◌then◌else◌, Option, Some, None, List, take, drop, slice_index}
use Rattle.std.specs.Int.{w64, from_be_bytes}
use Rattle.std.specs.List.{position_or_len}
use Rattle.std.specs.Str.{bytes_eq}
use Rattle.vx_base.specs.Named.{Word}
use Rattle.vx_header.specs.Sectors.{is_short_name, header_sector}
use Rattle.vx_header.specs.declared.header.Header.{Header}

pub record Label : Type 0 where
  pub group : Word
  pub disk : Word
  pub slot : ℕ
  pub sectors : ℕ

-- what a header says
abbrev pub label_of : Header → Label
label_of h = record { group = h.group; disk = h.disk; slot = h.slot; sectors = h.sectors }

-- the bytes of a field before its first zero
abbrev pub name_in : List ℕ → Word
name_in field = take (position_or_len (λ b. b == 0) field) field

-- what stands in the fields of a header
unfoldable pub label_in : List ℕ → Label
label_in sector = record {
  group = name_in (take 32 (drop 8 sector));
  disk = name_in (take 32 (drop 40 sector));
  slot = slice_index sector 72;
  sectors = from_be_bytes w64 (take 8 (drop 80 sector));
}

-- in the ranges of a header
abbrev pub is_label : Label → Bool
is_label l = is_short_name l.group && is_short_name l.disk && nat_lt l.slot 32 && nat_lt 2048 l.sectors && nat_le l.sectors (2 ^ 40)

abbrev pub sector_naming : Label → List ℕ
sector_naming l = header_sector l.group l.disk l.slot l.sectors

abbrev pub named_by : Label → List ℕ → Option Label
named_by l sector = if is_label l && bytes_eq sector (sector_naming l) then Some l else None

-- what the sector says; nothing, where it is no header's
unfoldable pub header_of : List ℕ → Option Label
header_of sector = named_by (label_in sector) sector

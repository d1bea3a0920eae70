-- What a sector says as a toggle, where it is one.
use Rattle.std.specs.Prelude.{ℕ, ◌^◌, ◌&&◌, nat_le, nat_lt, Bool, if◌then◌else◌, Option, Some, None, List, take, drop, slice_index}
use Rattle.std.specs.Int.{w32, w64, from_be_bytes}
use Rattle.std.specs.Str.{bytes_eq}
use Rattle.vx_header.specs.Sectors.{toggle_sector}
use Rattle.vx_header.specs.declared.toggle.Toggle.{Toggle}

pub record Said : Type 0 where
  pub sequence : ℕ
  pub half : ℕ
  pub length : ℕ
  pub good : ℕ

-- what a toggle says
abbrev pub said_of : Toggle → Said
said_of t = record { sequence = t.sequence; half = t.half; length = t.length; good = t.good }

-- the numbers that stand in the fields of a toggle
unfoldable pub fields_of : List ℕ → Said
fields_of sector = record {
  sequence = from_be_bytes w64 (take 8 (drop 8 sector));
  half = slice_index sector 16;
  length = from_be_bytes w32 (take 4 (drop 20 sector));
  good = from_be_bytes w32 (take 4 (drop 24 sector));
}

-- in the ranges of a toggle
abbrev pub is_said : Said → Bool
is_said s = nat_lt 0 s.sequence && nat_lt s.sequence (2 ^ 64) && nat_lt s.half 2 && nat_le s.length 522240 && nat_lt s.good (2 ^ 32)

abbrev pub sector_saying : Said → List ℕ
sector_saying s = toggle_sector s.sequence s.half s.length s.good

abbrev pub said_by : Said → List ℕ → Option Said
said_by s sector = if is_said s && bytes_eq sector (sector_saying s) then Some s else None

-- what the sector says; nothing, where it is no toggle's
unfoldable pub toggle_of : List ℕ → Option Said
toggle_of sector = said_by (fields_of sector) sector

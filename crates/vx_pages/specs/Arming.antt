-- What it is to set when a power switch is to act on pieces.
use Rattle.std.specs.Prelude.{ℕ, if◌then◌else◌, List, map, Option}
use Rattle.std.specs.Option.{option_map}
use Rattle.vx_piece.specs.Seen.{Seen}
use Rattle.vx_pages.specs.Sector.{Copies, SectorSeen}

-- a piece that is not cut gets this stop, and nothing else changes
abbrev pub armed : Option ℕ → Seen → Seen
armed stop p = if p.cut then p else record p { stop = stop }

abbrev pub armed_copies : Option ℕ → Copies → Copies
armed_copies stop c = record { first = armed stop c.first; second = option_map (armed stop) c.second }

abbrev pub armed_sector : Option ℕ → SectorSeen → SectorSeen
armed_sector stop s = record { copies = armed_copies stop s.copies; sure = s.sure; loose = s.loose }

abbrev pub armed_sectors : Option ℕ → List SectorSeen → List SectorSeen
armed_sectors stop sectors = map (armed_sector stop) sectors

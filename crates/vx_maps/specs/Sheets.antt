-- What is seen of the slots of one copy or of two.
use Rattle.std.specs.Option.{option_map}
use Rattle.vx_piece.specs.Seen.{Seen}
use Rattle.vx_maps.specs.Slots.{SheetsSeen, slots_seen}
use Rattle.vx_maps.specs.declared.slots.Sheets.{Sheets}

abbrev pub sheets_seen : {P : Type 0} → (P → Seen) → Sheets P → SheetsSeen
sheets_seen seen sheets = record { first = slots_seen seen sheets.first.items; second = option_map (λ x. slots_seen seen x.items) sheets.second }

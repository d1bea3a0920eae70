-- What pieces and shelves show whose power can go: they tell nothing, and a piece counts its own calls.
use Rattle.std.specs.Prelude.{ℕ, false, Option, None}
use Rattle.vx_base.specs.Named.{Word}
use Rattle.vx_piece.specs.Seen.{Seen}
use Rattle.vx_piece.specs.MemPiece.{mem_seen}
use Rattle.vx_shelf.specs.Shelf.{Held}
use Rattle.vx_shelf.specs.OnShelf.{held_on, counted_on}
use Rattle.vx_volume_faults.specs.declared.cut_piece.CutPiece.{CutPiece}
use Rattle.vx_volume_faults.specs.declared.cut_shelf.CutShelf.{CutShelf}

abbrev pub cut_seen : CutPiece → Seen
cut_seen p = record (mem_seen p.memory) { told = None; writes = p.supply.writes; reads = p.supply.reads; cut = p.supply.cut }

-- a device as it comes from a shelf
abbrev pub new_cut : Seen → Seen
new_cut memory = record memory { told = None; writes = 0; reads = 0; cut = false }

abbrev pub held_on_cut : CutShelf → Word → Option Held
held_on_cut s = held_on s.devices

abbrev pub counted_on_cut : CutShelf → Word → ℕ
counted_on_cut s = counted_on s.devices

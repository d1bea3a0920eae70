-- What is seen of a piece whose power a switch may take.
use Rattle.std.specs.Prelude.{ℕ, max, true, Option, Some, None}
use Rattle.vx_base.specs.Counts.{later_count}
use Rattle.vx_piece.specs.Seen.{Seen}
use Rattle.vx_power.specs.declared.views.View.{View}
use Rattle.vx_power.specs.declared.board.Acted.{Acted}
use Rattle.vx_power.specs.declared.board.Wire.{Wire}

-- the count after so many more, which is no less
abbrev pub grown : ℕ → ℕ → ℕ
grown count more = max count (later_count count more)

-- what is seen of a piece once a switch has taken its power: the sectors that were handed over then are counted
abbrev pub powerless : View → Seen → Seen
powerless view seen = record {
  device = seen.device;
  start = seen.start;
  sectors = seen.sectors;
  told = seen.told;
  faults = seen.faults;
  writes = grown seen.writes view.writes;
  reads = grown seen.reads view.reads;
  cut = true;
  stop = seen.stop;
}

-- what is seen of a piece whose power a switch may have taken
abbrev pub powered_by : Option Acted → View → Seen → Seen
powered_by None view seen = seen
powered_by (Some acted) view seen = powerless view seen

-- what is seen of a piece whose fuse is on the wire; with no wire it is the piece itself
abbrev pub wired : Option Wire → Seen → Seen
wired None seen = seen
wired (Some wire) seen = powered_by wire.acted wire.seat.me.0 seen

-- that the fuse on the wire has acted, where it has
abbrev pub acted_on : Option Wire → Option Acted
acted_on None = None
acted_on (Some wire) = wire.acted

-- the sectors that were written as a fuse acted, of its view
abbrev pub written_by : Option Acted → View → ℕ
written_by None view = 0
written_by (Some acted) view = view.writes

-- the sectors that were read as it acted
abbrev pub read_by : Option Acted → View → ℕ
read_by None view = 0
read_by (Some acted) view = view.reads

-- the sectors that were written as the power of what hangs on the wire went
abbrev pub written_on : Option Wire → ℕ
written_on None = 0
written_on (Some wire) = written_by wire.acted wire.seat.me.0

-- the sectors that were read as it went
abbrev pub read_on : Option Wire → ℕ
read_on None = 0
read_on (Some wire) = read_by wire.acted wire.seat.me.0

-- A source in memory: what it has left, its counts, and where its reads fail.
use Rattle.std.specs.Prelude.{ℕ, List, drop, Option, Some}
use Rattle.vx_flow.specs.declared.mem_source.MemSource.{MemSource}

-- it tells the bytes that no read took
abbrev pub source_left : MemSource → Option (List ℕ)
source_left s = Some (drop s.at s.bytes.items)

abbrev pub source_passed : MemSource → ℕ
source_passed s = s.at

abbrev pub source_faults : MemSource → ℕ
source_faults s = s.faults

-- after how many bytes its reads fail
abbrev pub source_limit : MemSource → Option ℕ
source_limit s = s.fail_at

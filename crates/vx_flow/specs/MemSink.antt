-- A sink in memory: what it took, how much more it takes, and its count of faults.
use Rattle.std.specs.Prelude.{◌≡◌, ℕ, ◌++◌, List, take, Option, Some}
use Rattle.vx_flow.specs.declared.mem_sink.MemSink.{MemSink}

-- it tells the bytes that it took
abbrev pub sink_taken : MemSink → Option (List ℕ)
sink_taken s = Some s.bytes.items

-- how many more bytes it takes
abbrev pub sink_left : MemSink → ℕ
sink_left s = s.left

abbrev pub sink_faults : MemSink → ℕ
sink_faults s = s.faults

-- it took as many of the bytes as there was room for
abbrev pub TakesFitting : List ℕ → MemSink → MemSink → Type 0
TakesFitting from old new = sink_taken new ≡ Some (old.bytes.items ++ take (sink_left old) from)

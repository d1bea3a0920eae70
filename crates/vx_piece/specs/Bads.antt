-- What the Bads of a device in memory do to a call, and what becomes of them.
use Rattle.std.specs.Prelude.{ℕ, ◌+◌, ◌-◌, ◌==◌, ◌&&◌, nat_lt, min, max, Bool, if◌then◌else◌, List, map, filter}
use Rattle.std.specs.List.{fold}
use Rattle.vx_piece.specs.declared.bad.Bad.{Bad}

-- the first sector that the Bad and the range may have in common, and the one behind the last
abbrev pub common_start : ℕ → Bad → ℕ
common_start start bad = max start bad.start

abbrev pub common_end : ℕ → ℕ → Bad → ℕ
common_end start count bad = min (start + count) (bad.start + bad.count)

-- they have a sector in common
abbrev pub overlaps : ℕ → ℕ → Bad → Bool
overlaps start count bad = nat_lt (common_start start bad) (common_end start count bad)

-- a call on the range touches the Bad
abbrev pub is_touched : ℕ → ℕ → Bool → Bad → Bool
is_touched start count is_write bad = (if is_write then bad.on_write else bad.on_read) && overlaps start count bad

-- the next call that touches it fails
abbrev pub is_ready : Bad → Bool
is_ready bad = bad.skip == 0 && nat_lt 0 bad.times

-- how many sectors of the call stand before those that the Bad makes fail
abbrev pub good_before : ℕ → ℕ → Bool → Bad → ℕ
good_before start count is_write bad = if is_touched start count is_write bad && is_ready bad then common_start start bad - start else count

-- how many sectors of the call stand before the first that fails; all of them where none does
abbrev pub good_sectors : ℕ → ℕ → Bool → List Bad → ℕ
good_sectors start count is_write bads = fold (λ good bad. min good (good_before start count is_write bad)) count bads

-- the Bad after a call: one more was passed, or made to fail
abbrev pub counted_down : Bad → Bad
counted_down bad = if nat_lt 0 bad.skip then record bad { skip = bad.skip - 1 } else record bad { times = bad.times - 1 }

abbrev pub bad_after : ℕ → ℕ → Bool → Bad → Bad
bad_after start count is_write bad = if is_touched start count is_write bad then counted_down bad else bad

-- each Bad after a call on the range
abbrev pub bads_after : ℕ → ℕ → Bool → List Bad → List Bad
bads_after start count is_write bads = map (bad_after start count is_write) bads

-- the part of the Bad in the range
abbrev pub cut_to : ℕ → ℕ → Bad → Bad
cut_to start count bad = record bad { start = common_start start bad; count = common_end start count bad - common_start start bad }

-- the Bads that overlap the range, each cut to it
abbrev pub bads_in : ℕ → ℕ → List Bad → List Bad
bads_in start count bads = map (cut_to start count) (filter (overlaps start count) bads)

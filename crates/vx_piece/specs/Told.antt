-- What is told of a run that is cut in two, or joined of two.
use Rattle.std.specs.Prelude.{ℕ, ◌+◌, ◌-◌, nat_lt, if◌then◌else◌, [], Option, Some, None}
use Rattle.std.specs.Option.{option_map}
use Rattle.vx_base.specs.Blocks.{Contents}

-- the first so many blocks, and nothing behind them
abbrev pub front_of : ℕ → Contents → Contents
front_of n contents k = if nat_lt k n then contents k else []

-- the blocks from one on
abbrev pub back_of : ℕ → Contents → Contents
back_of n contents k = contents (n + k)

-- the first so many blocks of the one, and behind them those of the other
abbrev pub joined_of : ℕ → Contents → Contents → Contents
joined_of n first second k = if nat_lt k n then first k else second (k - n)

-- what is told of the front; what is not told stays so
abbrev pub front_told : ℕ → Option Contents → Option Contents
front_told n told = option_map (front_of n) told

-- what is told of the back; what is not told stays so
abbrev pub back_told : ℕ → Option Contents → Option Contents
back_told n told = option_map (back_of n) told

-- what is told of a run of so many blocks and the one behind it; nothing where one of them tells nothing
abbrev pub joined_told : ℕ → Option Contents → Option Contents → Option Contents
joined_told n None second = None
joined_told n (Some first) None = None
joined_told n (Some first) (Some second) = Some (joined_of n first second)

-- How the parts of a range follow one another.
use Rattle.std.specs.Prelude.{◌≡◌, ℕ, ◌+◌, ◌*◌, ◌/◌, ◌<◌, ◌≤◌, max, min}
use Rattle.vx_block.specs.declared.geometry.Span.{Span}

-- where the parts before this one end
abbrev pub reached : ℕ → ℕ → ℕ → ℕ → ℕ
reached size start count index = max start (min (start + count) ((start / size + index) * size))

-- what is known of a part
pub record IsPartAt (size start count index : ℕ) (span : Span) : Type 0 where
  pub some : 0 < span.count
  pub begins : span.start ≡ reached size start count index
  pub ends : span.start + span.count ≡ reached size start count (index + 1)
  pub from : start ≤ span.start
  pub to : span.start + span.count ≤ start + count
  pub few : span.count ≤ size
  pub region : span.start / size ≡ start / size + index

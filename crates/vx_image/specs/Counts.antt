-- How many regions a recovery tells, by whichever copy of the log it goes.
use Rattle.std.specs.Prelude.{◌≡◌, ℕ, zero, suc, ◌+◌, ◌<◌, ◌&&◌, not, Bool, true, if◌then◌else◌, Contains}
use Rattle.std.specs.List.{list_any}
use Rattle.vx_image.specs.Image.{LogCopy, Image, regions_of, is_available, is_marked_by_all, is_marked_by_some, has_no_copy}
use Rattle.vx_image.specs.Meaning.{sure_read, dirty_read}

-- how many of the first n regions are in the set
abbrev pub number_in : ℕ → (ℕ → Bool) → ℕ
number_in zero set = 0
number_in (suc n) set = number_in n set + (if set n then 1 else 0)

-- the number is the size of a set of these regions that has all of the lower set, and lies within the upper one
pub record IsSizeBetween (number regions : ℕ) (lower upper : ℕ → Bool) : Type 0 where
  pub set : ℕ → Bool
  pub size : number_in regions set ≡ number
  pub least : (r : ℕ) → r < regions → lower r ≡ true → set r ≡ true
  pub most : (r : ℕ) → r < regions → set r ≡ true → upper r ≡ true

-- the copy marks an available plex in the region
abbrev pub is_behind_by : Image → LogCopy → ℕ → Bool
is_behind_by v c r = list_any (λ p. is_available p && c r p.map) v.plexes

-- every copy marks one and the same, and there is a copy
abbrev pub is_surely_behind : Image → ℕ → Bool
is_surely_behind v r = not (has_no_copy v) && list_any (λ p. is_available p && is_marked_by_all v r p.map) v.plexes

-- some copy marks one
abbrev pub is_possibly_behind : Image → ℕ → Bool
is_possibly_behind v r = list_any (λ p. is_available p && is_marked_by_some v r p.map) v.plexes

-- The number of regions that a copy marks dirty may be told as that of the dirty regions, and the number of those in which it
-- marks an available plex as that of the regions that are copied.
pub record AreCounts (v : Image) (c : LogCopy) : Type 0 where
  pub dirty : IsSizeBetween (number_in (regions_of v) (λ r. c r 30)) (regions_of v) (sure_read v 30) (dirty_read v)
  pub copied : IsSizeBetween (number_in (regions_of v) (is_behind_by v c)) (regions_of v) (is_surely_behind v) (is_possibly_behind v)

abbrev pub EachCountFits : Type 0
EachCountFits = (v : Image) (c : LogCopy) → Contains v.copies c → AreCounts v c

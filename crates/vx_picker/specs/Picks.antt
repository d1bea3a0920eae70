-- The choice of a member of a mask.
use Rattle.std.specs.Prelude.{◌≡◌, ◌≢◌, ℕ, ◌+◌, ◌%◌, ◌<◌, ◌^◌, zero, suc, true, if◌then◌else◌}
use Rattle.vx_mask.specs.Mask.{has, lowest}
use Rattle.vx_picker.specs.declared.picker.Policy.{Policy}
use Rattle.vx_picker.specs.declared.picker.Policy.TheVariants.{Round, Prefer, Select}

-- for every mask that is not empty, a function may be asked, and answers a member
pub record PicksMember (pre : ℕ → ℕ → Type 0) (post : ℕ → ℕ → ℕ → Type 0) : Type 0 where
  pub may : (mask turn : ℕ) → mask ≢ 0 → mask < 2 ^ 64 → turn < 2 ^ 64 → pre mask turn
  pub member : (mask turn k : ℕ) → mask ≢ 0 → mask < 2 ^ 64 → turn < 2 ^ 64 → post mask turn k → has mask k ≡ true

-- how many members of the mask are below k
unfoldable pub members_below : ℕ → ℕ → ℕ
members_below mask zero = 0
members_below mask (suc k) = if has mask k then members_below mask k + 1 else members_below mask k

-- the member that has so many below it
abbrev pub IsMemberAt : ℕ → ℕ → ℕ → Type 0
IsMemberAt mask index k = (has mask k ≡ true) × (members_below mask k ≡ index)

-- the member at `turn` modulo the number of members, in rising order
abbrev pub IsInTurn : ℕ → ℕ → ℕ → Type 0
IsInTurn mask turn k = IsMemberAt mask (turn % members_below mask 64) k

-- this map where it is a member, else the lowest
abbrev pub IsPreferred : ℕ → ℕ → ℕ → Type 0
IsPreferred mask map k = k ≡ (if has mask map then map else lowest mask)

-- the choice by each policy; `post` is what the stored function answers
abbrev pub IsPickedBy : (post : ℕ → ℕ → ℕ → Type 0) → Policy → ℕ → ℕ → ℕ → Type 0
IsPickedBy post Round mask turn k = IsInTurn mask turn k
IsPickedBy post (Prefer map) mask turn k = IsPreferred mask map k
IsPickedBy post Select mask turn k = post mask turn k

-- The marks of a mask in which that of one map was set.
use Rattle.std.proofs.Common.{◌≡◌, ◌≢◌, ℕ, Bool, true, false, refl, ◌∙◌}
use Rattle.std.specs.Prelude.{◌&&◌, ◌||◌, not}
use Rattle.vx_mask.specs.Mask.{has, only}
use Rattle.vx_mask.proofs.MaskLemmas.{has-only_other, has-union, has-without}
use Rattle.vx_volume.specs.Changing.{with_mark}

or_none_right : (x y : Bool) → y ≡ false → (x || y) ≡ x
or_none_right true y none = refl
or_none_right false y none = none

pub but_none : (x y : Bool) → y ≡ false → (x && not y) ≡ x
but_none true y none = rw none refl
but_none false y none = refl

-- the marks of other maps stay
pub mark_other : (map : ℕ) (on : Bool) (bits k : ℕ) → k ≢ map → has (with_mark map on bits) k ≡ has bits k
mark_other map true bits k apart = has-union bits (only map) k ∙ or_none_right (has bits k) (has (only map) k) (has-only_other map k apart)
mark_other map false bits k apart = has-without bits (only map) k ∙ but_none (has bits k) (has (only map) k) (has-only_other map k apart)

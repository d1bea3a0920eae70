-- That a log which claims no more than its copies show goes on so.
use Rattle.std.specs.Prelude.{◌≡◌, ℕ, Bool, true, false, Result}
use Rattle.vx_mask.specs.Mask.{has}
use Rattle.vx_mask.specs.Marks.{Marks, MayTidy}
use Rattle.vx_marks.specs.Log.{IsClaimedAs, IsHonest, IsMarkedAs, IsUnclaimedAs, IsUnmarkedAs}
use Rattle.vx_marks.specs.declared.marker.MarkFault.{MarkFault}

-- a mark of maps that are not claimed
abbrev pub MarkStaysHonest : Type 0
MarkStaysHonest =
    (copies bits : ℕ) (result : Result (Unit {0}) MarkFault) (claims claims' : ℕ → Bool) (old new : Marks) →
    ((k : ℕ) → has bits k ≡ true → claims k ≡ false) →
    IsMarkedAs bits result old new → IsClaimedAs bits result claims claims' → IsHonest copies claims old → IsHonest copies claims' new

-- an unmark
abbrev pub UnmarkStaysHonest : Type 0
UnmarkStaysHonest =
    (copies bits : ℕ) (result : Result (Unit {0}) MarkFault) (claims claims' : ℕ → Bool) (old new : Marks) →
    IsUnmarkedAs bits result old new → IsUnclaimedAs bits result claims claims' → IsHonest copies claims old → IsHonest copies claims' new

-- a call on another region
abbrev pub OthersStayHonest : Type 0
OthersStayHonest =
    (copies : ℕ) (claims : ℕ → Bool) (old new : Marks) → MayTidy old new → IsHonest copies claims old → IsHonest copies claims new

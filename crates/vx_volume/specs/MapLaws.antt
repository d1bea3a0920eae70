-- That a log which claims no more than its copies show goes on so when all bits of a map are set.
use Rattle.std.specs.Prelude.{◌≡◌, ℕ, ◌==◌, Bool, if◌then◌else◌}
use Rattle.vx_mask.specs.Marks.{Marks}
use Rattle.vx_marks.specs.Log.{IsHonest}
use Rattle.vx_pages.specs.Setting.{Come, MarksBy, claim_by}

-- in each region, however far it has come
abbrev pub SettingStaysHonest : Type 0
SettingStaysHonest =
    (copies map : ℕ) (come : Come) (on : Bool) (claims claims' : ℕ → Bool) (old new : Marks) →
    ((k : ℕ) → claims' k ≡ (if k == map then claim_by come (claims k) on else claims k)) → MarksBy come map (claims map) on old new →
    IsHonest copies claims old → IsHonest copies claims' new

-- How long the text of a configuration is after a stop of a volume, by what its plexes miss.
use Rattle.std.specs.Prelude.{◌≡◌, ℕ, ◌≤◌, ◌<◌, ◌^◌, true, None, List, [], length}
use Rattle.vx_mask.specs.Mask.{has}
use Rattle.vx_config_parts.specs.declared.vol.Vol.{Vol}
use Rattle.vx_objects.specs.declared.config.Config.{Config}
use Rattle.vx_objects.specs.Applied.{IsEdited}
use Rattle.vx_objects.specs.Config.{objects_of}
use Rattle.vx_print.specs.Shown.{IsPrinted}
use Rattle.vx_state_edits.specs.Edits.{stop_edits}
use Rattle.vx_state_edits.specs.Laws.{IsRecorded}

-- each map of the one mask is one of the other
abbrev pub AreWithin : ℕ → ℕ → Type 0
AreWithin marks more = (k : ℕ) → has marks k ≡ true → has more k ≡ true

-- the mask of all maps that a mask can have
abbrev pub all_maps : ℕ
all_maps = 18446744073709551615

-- the text is all that is printed of the configuration
abbrev pub IsTextOf : Config → List ℕ → Type 0
IsTextOf config text = IsPrinted None (objects_of config) [] text

-- A volume is stopped, and these maps have marks: the text of its group is then no longer than where more maps have marks.
abbrev pub EachStopIsNoLonger : Type 0
EachStopIsNoLonger =
    (c : Config) (v : Vol) (marks more : ℕ) → IsRecorded c v → AreWithin marks more →
    (next longest : Config) → IsEdited (stop_edits c v marks) c next → IsEdited (stop_edits c v more) c longest →
    (text longest_text : List ℕ) → IsTextOf next text → IsTextOf longest longest_text → length text ≤ length longest_text

-- Each mask is within that of all maps.
abbrev pub EachMaskIsWithinAll : Type 0
EachMaskIsWithinAll = (marks : ℕ) → marks < 2 ^ 64 → AreWithin marks all_maps

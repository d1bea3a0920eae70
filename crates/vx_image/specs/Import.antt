-- An import records a volume that was started in another such state, and leaves its bytes as they are.
use Rattle.vx_life.specs.Candidates.{Candidates}
use Rattle.vx_config_parts.specs.declared.state.VolState.{VolState}
use Rattle.vx_image.specs.Image.{Image, WasStarted}
use Rattle.vx_image.specs.Meaning.{StandsForCandidates}
use Rattle.vx_image.specs.Soundness.{IsSoundImage}

-- The image in the other state is as sound, ..
abbrev pub EachImportIsSound : Type 0
EachImportIsSound = (v : Image) (state : VolState) → WasStarted v.state → WasStarted state → IsSoundImage v → IsSoundImage (record v { state = state })

-- .. and stands for the same candidates.
abbrev pub EachImportStands : Type 0
EachImportStands =
    (v : Image) (state : VolState) (candidates : Candidates) → WasStarted v.state → WasStarted state →
    StandsForCandidates v candidates → StandsForCandidates (record v { state = state }) candidates

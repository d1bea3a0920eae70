-- Whether an image is sound can be decided.
use Rattle.std.specs.Prelude.{◌⊎◌}
use Rattle.vx_image.specs.Image.{Image}
use Rattle.vx_image.specs.Soundness.{IsSoundImage}

-- an image is sound, or it is not
abbrev pub EachImageIsSoundOrNot : Type 0
EachImageIsSoundOrNot = (v : Image) → IsSoundImage v ⊎ (IsSoundImage v → ⊥)

-- What is seen of sectors in memory.
use Rattle.std.specs.Prelude.{ℕ, List, map}
use Rattle.std.specs.Global.{Vec}

-- the bytes of each
abbrev pub images_seen : List (Vec ℕ) → List (List ℕ)
images_seen images = map (λ (image : Vec ℕ). image.items) images

-- Where no call on the log of a started volume failed, the log says exactly what its regions do.
use Rattle.std.specs.Prelude.{◌≡◌, ℕ, ◌<◌, false, List, length, Result}
use Rattle.vx_core.specs.declared.stage.Phase.TheVariants.{Dead}
use Rattle.vx_volume.specs.declared.fault.IoFault.{IoFault}
use Rattle.vx_volume.specs.Passes.{Clears, CopyEnds, PassEnds, Settles}
use Rattle.vx_volume.specs.Volume.{IsVolume, VolumeSeen, cell_at}
use Rattle.vx_moments.specs.World.{Volume}
use Rattle.vx_image.specs.Image.{PlexImage, Image, regions_of}
use Rattle.vx_image.specs.Meaning.{dirty_read}
use Rattle.vx_volume_laws.specs.Exact.{AreUndirtied, IsExactVolume, LogIsWell}
use Rattle.vx_volume_laws.specs.Leaving.{IsLeftBy}
use Rattle.vx_volume_laws.specs.Running.{RunsAsVolume}
use Rattle.vx_volume_laws.specs.Starting.{IsOpenedOver}

-- As a volume is opened over its image, its log is exact.
abbrev pub EachOpeningIsExact : Type 0
EachOpeningIsExact = (image : Image) (v : VolumeSeen) (w : Volume) → IsVolume v → IsOpenedOver image v w → IsExactVolume v

-- It stays so through a pass in which no call on the log failed.
abbrev pub PassStaysExact : {T : Type 0} → (VolumeSeen → VolumeSeen → Result T IoFault → Type 0) → Type 0
PassStaysExact {T = T} Ends =
    (old new : VolumeSeen) (result : Result T IoFault) → Ends old new result → IsVolume old → IsVolume new →
    (plexes : List PlexImage) (w : Volume) → RunsAsVolume plexes old w →
    LogIsWell old new → IsExactVolume old → IsExactVolume new

abbrev pub EachSettlingStaysExact : Type 0
EachSettlingStaysExact = PassStaysExact (PassEnds Settles)

abbrev pub EachClearingStaysExact : Type 0
EachClearingStaysExact = PassStaysExact (PassEnds Clears)

abbrev pub EachCopyStaysExact : Type 0
EachCopyStaysExact = (map : ℕ) → PassStaysExact (CopyEnds map)

-- Where it is exact, all regions are alive and none is marked dirty, the image that is left has no dirty region.
abbrev pub EachCleanLogIsLeft : Type 0
EachCleanLogIsLeft =
    (plexes : List PlexImage) (v : VolumeSeen) (w : Volume) → IsVolume v → (run : RunsAsVolume plexes v w) →
    (image : Image) → IsLeftBy plexes v w run image →
    IsExactVolume v → ((r : ℕ) → r < length v.cells → (cell_at v r).stage.phase ≡ Dead → ⊥) → AreUndirtied v →
    (r : ℕ) → r < regions_of image → dirty_read image r ≡ false

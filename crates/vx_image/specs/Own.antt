-- The sectors that a volume has, and that its image is what they hold.
use Rattle.std.specs.Prelude.{◌≡◌, ℕ, true, Contains}
use Rattle.vx_base.specs.Named.{Word}
use Rattle.vx_layout.specs.declared.strip.Strip.{Strip}
use Rattle.vx_layout.specs.declared.place.Place.{Place}
use Rattle.vx_layout.specs.Columns.{has_place}
use Rattle.vx_config_parts.specs.declared.plex.Plex.{Plex}
use Rattle.vx_config_parts.specs.declared.vol.Vol.{Vol}
use Rattle.vx_config_parts.specs.Objects.{refers}
use Rattle.vx_objects.specs.declared.config.Config.{Config}
use Rattle.vx_image.specs.Lies.{strips_of}
use Rattle.vx_image.specs.Bytes.{Sectors, image_of}

-- a strip of the plex has the sector
abbrev pub IsOfPlex : Config → Plex → Place → Type 0
IsOfPlex c p place = (strip : Strip) × Contains (strips_of c p) strip × (has_place strip place ≡ true)

-- a plex of the volume, of data or of its log, has the sector
abbrev pub IsOfVolume : Config → Word → Place → Type 0
IsOfVolume c vol place = (p : Plex) × Contains c.plexes p × (refers p.vol vol ≡ true) × IsOfPlex c p place

-- the same bytes on the sectors of the volume
abbrev pub SameInside : Config → Word → Sectors → Sectors → Type 0
SameInside c vol old new = (place : Place) → IsOfVolume c vol place → new place.disk place.sector ≡ old place.disk place.sector

-- The image of a volume is what its own sectors hold.
abbrev pub EachImageIsItsOwn : Type 0
EachImageIsItsOwn = (c : Config) (good : ℕ) (v : Vol) (old new : Sectors) → SameInside c v.name old new → image_of c good new v ≡ image_of c good old v

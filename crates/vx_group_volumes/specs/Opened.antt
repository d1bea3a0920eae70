-- The plexes that a running volume was opened with.
use Rattle.std.specs.Prelude.{◌++◌, List, map}
use Rattle.vx_base.specs.Named.{Word}
use Rattle.vx_image.specs.Bytes.{Sectors, image_of}
use Rattle.vx_image.specs.Image.{PlexImage}
use Rattle.vx_image.specs.UsedPlexes.{held_plexes, used_logs}
use Rattle.vx_volume_laws.specs.Leaving.{AreNamedIn}
use Rattle.vx_group_volumes.specs.Runs.{Opening}

-- the plexes whose pieces a volume was opened with: data plexes, and then those of its log
abbrev pub opened_plexes : Opening → List Word
opened_plexes o = map (λ p. p.name) (held_plexes o.config o.good o.vol.name) ++ map (λ p. p.name) (used_logs o.vol.dco o.config o.good o.fresh o.vol.name)

-- each of these is a data plex of the volume by its name and map, as the volume was opened
abbrev pub WereThere : Opening → List PlexImage → Type 0
WereThere o plexes = (bytes : Sectors) → AreNamedIn plexes (image_of o.config o.good bytes o.vol).plexes

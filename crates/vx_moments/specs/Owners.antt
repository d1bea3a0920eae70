-- The devices that the plexes of a group's volume lie on, and its plexes as their tracks see them.
use Rattle.std.specs.Prelude.{◌≡◌, ℕ, ◌==◌, ◌&&◌, true, false, if◌then◌else◌, Option, Some, None, List, [], ◌∷◌, Contains}
use Rattle.std.specs.List.{flat_map}
use Rattle.std.specs.Str.{bytes_eq}
use Rattle.vx_base.specs.Named.{Word}
use Rattle.vx_layout.specs.declared.strip.Strip.{Strip}
use Rattle.vx_config_parts.specs.declared.plex.Plex.{Plex}
use Rattle.vx_config_parts.specs.Objects.{refers, is_data_plex_of}
use Rattle.vx_image.specs.Lies.{strips_of}
use Rattle.vx_image.specs.Image.{is_available_state}
use Rattle.vx_moments.specs.Holding.{is_among}
use Rattle.vx_moments.specs.World.{Member, Group}
use Rattle.vx_moments.specs.Tracks.{TrackOwner}

-- the device of the first member with the slot
abbrev pub device_at : List Member → ℕ → Option Word
device_at [] slot = None
device_at (m ∷ ms) slot = if m.slot == slot then Some m.device else device_at ms slot

-- a device that is there, alone
abbrev pub listed : Option Word → List Word
listed None = []
listed (Some device) = device ∷ []

-- the devices that a plex lies on
abbrev pub devices_on : Group → Plex → List Word
devices_on g p = flat_map (λ (strip : Strip). listed (device_at g.members strip.disk)) (strips_of g.config p)

-- a plex of the volume, of data or of its log, lies on the device
abbrev pub IsDeviceOfVolume : Group → Word → Word → Type 0
IsDeviceOfVolume g vol device = (p : Plex) × Contains g.config.plexes p × (refers p.vol vol ≡ true) × Contains (devices_on g p) device

-- A data plex as its track sees it: it is written to where it is one of those that the volume has, and its state is one of plexes
-- that are.
abbrev pub owner_of : Group → List Word → Plex → TrackOwner
owner_of g plexes p = record { available = is_available_state p.state && is_among p.name plexes; devices = devices_on g p }

-- that of the name among these
abbrev pub owner_in : Group → Word → List Word → List Plex → Word → TrackOwner
owner_in g vol plexes [] name = record { available = false; devices = [] }
owner_in g vol plexes (p ∷ ps) name = if bytes_eq p.name name && is_data_plex_of vol p then owner_of g plexes p else owner_in g vol plexes ps name

-- the data plexes of a volume by their names, where it has the pieces of these plexes
abbrev pub owners_of : Group → Word → List Word → Word → TrackOwner
owners_of g vol plexes name = owner_in g vol plexes g.config.plexes name

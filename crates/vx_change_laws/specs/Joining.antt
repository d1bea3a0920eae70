-- A running volume of the world that a plex joins.
use Rattle.std.specs.Prelude.{◌≡◌, ◌≢◌, ◌⊎◌, ℕ, true, false, if◌then◌else◌, List, Contains}
use Rattle.std.specs.Str.{bytes_eq}
use Rattle.vx_base.specs.Named.{Word}
use Rattle.vx_image.specs.Image.{PlexImage}
use Rattle.vx_moments.specs.Tracks.{TrackOwner}
use Rattle.vx_moments.specs.World.{OnPlexes, Track, Volume}

-- the track of a plex that has joined: it may differ everywhere, and nothing is sure
abbrev pub joined_track : Track
joined_track = record { sure = λ r. false; possible = λ r. true }

-- The volume once a plex of this name has joined it: it lies on these plexes then, of data and of its log, and has the new plex's
-- track. Its life and its dirty regions are as they were.
abbrev pub volume_joined : (plexes : List Word) → Word → Volume → Volume
volume_joined plexes name w =
    record w {
      lies = OnPlexes plexes;
      tracks = λ other. if bytes_eq name other then joined_track else w.tracks other;
    }

-- the map is that of none of these plexes
abbrev pub IsMapOfNone : ℕ → List PlexImage → Type 0
IsMapOfNone map plexes = (p : PlexImage) → Contains plexes p → p.map ≢ map

-- the name is that of none of these plexes
abbrev pub IsNameOfNone : Word → List PlexImage → Type 0
IsNameOfNone name plexes = (p : PlexImage) → Contains plexes p → p.name ≢ name

-- Each of the later plexes is one of the first by its name and map, or has the name and the map of the one that has joined.
abbrev pub AreJoinedBy : (name : Word) (map : ℕ) (plexes later : List PlexImage) → Type 0
AreJoinedBy name map plexes later =
    (p : PlexImage) → Contains later p →
    ((q : PlexImage) × Contains plexes q × (q.name ≡ p.name) × (q.map ≡ p.map)) ⊎ ((p.name ≡ name) × (p.map ≡ map))

-- the new plex is written to, and of the others it is as it was
pub record OwnersJoined (name : Word) (plexes : List PlexImage) (owners later : Word → TrackOwner) : Type 0 where
  pub new : (later name).available ≡ true
  pub others : (p : PlexImage) → Contains plexes p → (later p.name).available ≡ (owners p.name).available

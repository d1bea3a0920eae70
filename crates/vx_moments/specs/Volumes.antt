-- A started volume of the world, and the bytes of a volume: when these stand for it, and the volume that is read from them.
use Rattle.std.specs.Prelude.{◌≡◌, ℕ, ◌<◌, ◌&&◌, ◌||◌, not, Bool, true, false, List, Contains}
use Rattle.std.specs.List.{list_all, list_any}
use Rattle.std.specs.Str.{bytes_eq}
use Rattle.vx_base.specs.Named.{Word}
use Rattle.vx_life.specs.Candidates.{IsAmong}
use Rattle.vx_life.specs.Life.{begun_from}
use Rattle.vx_image.specs.Image.{PlexImage, Image, regions_of, has_no_copy}
use Rattle.vx_image.specs.Meaning.{candidates_read, sure_read, possible_read, dirty_read, StandsForCandidates, IsMarkedInEach, IsMarkedWithin}
use Rattle.vx_image.specs.Soundness.{IsSoundImage}
use Rattle.vx_moments.specs.World.{Track, Volume, OnPlexes}

-- The bytes stand for a volume that was started: they are sound, what is read of them is among its candidates, and their marks
-- are within its tracks and its dirty regions.
pub record StandsForVolume (image : Image) (v : Volume) : Type 0 where
  pub sound : IsSoundImage image
  pub candidates : StandsForCandidates image v.life.candidates
  pub sure : (p : PlexImage) → Contains image.plexes p → IsMarkedInEach image p.map (v.tracks p.name).sure
  pub possible : (p : PlexImage) → Contains image.plexes p → IsMarkedWithin image p.map (v.tracks p.name).possible
  pub dirty : IsMarkedWithin image 30 v.dirty

-- What is read from bytes lies within what was left: the candidates, and the regions that may differ or be dirty; and what
-- surely differs is read so, where there is a copy.
pub record IsReadWithin (image : Image) (v : Volume) : Type 0 where
  pub candidates : (b : ℕ) (value : List ℕ) → b < image.length → IsAmong (candidates_read image b) value → IsAmong (v.life.candidates b) value
  pub sure : has_no_copy image ≡ false → (p : PlexImage) → Contains image.plexes p → (r : ℕ) → r < regions_of image → (v.tracks p.name).sure r ≡ true → sure_read image p.map r ≡ true
  pub possible : (p : PlexImage) → Contains image.plexes p → (r : ℕ) → r < regions_of image → possible_read image p.map r ≡ true → (v.tracks p.name).possible r ≡ true
  pub dirty : (r : ℕ) → r < regions_of image → dirty_read image r ≡ true → v.dirty r ≡ true

abbrev pub EachVolumeIsReadBack : Type 0
EachVolumeIsReadBack = (image : Image) (v : Volume) → StandsForVolume image v → IsReadWithin image v

-- ---- what is read

-- the plex has the name
abbrev pub is_named : Word → PlexImage → Bool
is_named name p = bytes_eq p.name name

-- the regions in which the plexes of a name surely differ, and those in which they may, as the copies mark them
abbrev pub track_read : Image → Word → Track
track_read v name = record {
  sure = λ r. list_any (is_named name) v.plexes && list_all (λ p. not (is_named name p) || sure_read v p.map r) v.plexes;
  possible = λ r. list_any (λ p. is_named name p && possible_read v p.map r) v.plexes;
}

-- the volume of a life that begins over bytes, on these plexes: it has the candidates, the tracks and the dirty regions that are
-- read, and nothing has failed
abbrev pub volume_read : List Word → Image → Volume
volume_read plexes v = record {
  lies = OnPlexes plexes;
  length = v.length;
  region = v.region;
  life = begun_from (candidates_read v);
  dirty = dirty_read v;
  dirty_began = dirty_read v;
  tracks = track_read v;
  failed = λ device. false;
  sound = true;
}

-- Sound bytes stand for the volume that is read from them.
abbrev pub EachVolumeReadStands : Type 0
EachVolumeReadStands = (plexes : List Word) (v : Image) → IsSoundImage v → StandsForVolume v (volume_read plexes v)

-- A disk that is dropped from the good ones takes plexes and copies of logs with it: the images of volumes stay sound.
use Rattle.std.specs.Prelude.{◌≡◌, ◌<◌, true, List, [], ◌∷◌, Contains}
use Rattle.vx_life.specs.Candidates.{Candidates}
use Rattle.vx_image.specs.Image.{PlexImage, LogCopy, Image}
use Rattle.vx_image.specs.Meaning.{StandsForCandidates}
use Rattle.vx_image.specs.Soundness.{IsSoundImage}

-- the same plex, which may be held no longer
pub record MayBeDropped (old new : PlexImage) : Type 0 where
  pub name : new.name ≡ old.name
  pub map : new.map ≡ old.map
  pub state : new.state ≡ old.state
  pub values : new.values ≡ old.values
  pub held : new.held ≡ true → old.held ≡ true

abbrev pub EachMayBeDropped : List PlexImage → List PlexImage → Type 0
EachMayBeDropped [] [] = Unit {0}
EachMayBeDropped [] (q ∷ qs) = ⊥
EachMayBeDropped (p ∷ ps) [] = ⊥
EachMayBeDropped (p ∷ ps) (q ∷ qs) = MayBeDropped p q × EachMayBeDropped ps qs

-- the same volume, of which some plexes are held no longer, and some copies of the log do not count any more
pub record HasLost (old new : Image) : Type 0 where
  pub state : new.state ≡ old.state
  pub length : new.length ≡ old.length
  pub region : new.region ≡ old.region
  pub snaps : new.snaps ≡ old.snaps
  pub plexes : EachMayBeDropped old.plexes new.plexes
  pub copies : (c : LogCopy) → Contains new.copies c → Contains old.copies c

-- It is as sound, ..
abbrev pub EachDropIsSound : Type 0
EachDropIsSound = (old new : Image) → HasLost old new → IsSoundImage old → IsSoundImage new

-- .. and stands for the same candidates.
abbrev pub EachDropStands : Type 0
EachDropStands = (old new : Image) (candidates : Candidates) → HasLost old new → 0 < old.region → IsSoundImage old → StandsForCandidates old candidates → StandsForCandidates new candidates

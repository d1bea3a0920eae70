-- Copies of a log that come nearer to one another, as where one is loaded and written to the others: each marks what it did, or something
-- between that and another copy.
use Rattle.std.specs.Prelude.{◌≡◌, ℕ, ◌<◌, ◌≤◌, true}
use Rattle.vx_image.specs.Image.{Image, regions_of, has_no_copy, is_marked_by_all, is_marked_by_some}
use Rattle.vx_image.specs.Meaning.{dirty_read, possible_read, sure_read}
use Rattle.vx_image.specs.Soundness.{IsSoundImage, IsSoundPair}

-- The image is the same but for the copies of its log: what all marked all mark still, and some copy marks only what some copy did.
pub record IsNarrowed (old new : Image) : Type 0 where
  pub same : new ≡ record old { copies = new.copies }
  pub none : has_no_copy new ≡ has_no_copy old
  pub all : (r k : ℕ) → r < regions_of old → is_marked_by_all old r k ≡ true → is_marked_by_all new r k ≡ true
  pub some : (r k : ℕ) → r < regions_of old → is_marked_by_some new r k ≡ true → is_marked_by_some old r k ≡ true

-- An image is one of itself, ..
abbrev pub EachImageIsNarrowed : Type 0
EachImageIsNarrowed = (v : Image) → IsNarrowed v v

-- .. and what is narrowed once more was narrowed at once.
abbrev pub EachNarrowingGoesOn : Type 0
EachNarrowingGoesOn = (u v w : Image) → IsNarrowed u v → IsNarrowed v w → IsNarrowed u w

-- It is as sound, ..
abbrev pub EachNarrowedIsSound : Type 0
EachNarrowedIsSound = (old new : Image) → IsNarrowed old new → IsSoundImage old → IsSoundImage new

-- .. with another one of as many regions too, ..
abbrev pub EachNarrowedPairIsSound : Type 0
EachNarrowedPairIsSound =
    (v v' : Image) (m : ℕ) (w w' : Image) (n : ℕ) → regions_of v ≤ regions_of w → IsNarrowed v v' → IsNarrowed w w' → IsSoundPair v m w n → IsSoundPair v' m w' n

-- .. and what is read from it is within what was read before: surely marked is no less, and what may be marked no more.
pub record IsReadNarrower (old new : Image) : Type 0 where
  pub sure : (r k : ℕ) → r < regions_of old → sure_read old k r ≡ true → sure_read new k r ≡ true
  pub possible : (r k : ℕ) → r < regions_of old → possible_read new k r ≡ true → possible_read old k r ≡ true
  pub dirty : (r : ℕ) → r < regions_of old → dirty_read new r ≡ true → dirty_read old r ≡ true

abbrev pub EachNarrowedIsRead : Type 0
EachNarrowedIsRead = (old new : Image) → IsNarrowed old new → IsReadNarrower old new

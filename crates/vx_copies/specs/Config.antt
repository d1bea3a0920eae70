-- The configuration that a group's disks give, whichever of them can be read.
use Rattle.std.specs.Prelude.{◌≡◌, ◌⊎◌, ℕ, ◌<◌, Bool, true, false, IsTrue, if◌then◌else◌, List, [], ◌∷◌, Option, Some, None, MatchOption}
use Rattle.vx_base.specs.Named.{Word}
use Rattle.vx_copies.specs.Lists.{AnyOf}
use Rattle.vx_copies.specs.Image.{Offer, offer_told, highest}
use Rattle.vx_copies.specs.Disks.{DiskSeen, IsNew, IsMember, good_mask}

-- what the readable disks offer
abbrev pub offers_of : Word → (ℕ → Bool) → List DiskSeen → List (Option Offer)
offers_of group readable [] = []
offers_of group readable (h ∷ hs) = (if readable h.slot then offer_told group h.seen.told else None) ∷ offers_of group readable hs

-- the configuration of the group, where these slots can be read
abbrev pub configuration : Word → (ℕ → Bool) → List DiskSeen → Option Offer
configuration group readable hs = highest (offers_of group readable hs)

-- whichever disks can be read, they give what they gave before, or the new text
abbrev pub GivesOldOrNew : Word → ℕ → ℕ → List ℕ → List DiskSeen → List DiskSeen → Type 0
GivesOldOrNew group first last text old new = (readable : ℕ → Bool) → (configuration group readable new ≡ configuration group readable old) ⊎ IsNew first last text (configuration group readable new)

-- one that is not good offers nothing of this sequence or a higher one
abbrev pub IsOlder : Word → ℕ → DiskSeen → Type 0
IsOlder group last h = h.good ≡ false → MatchOption (offer_told group h.seen.told) (Unit {0}) (λ o. o.sequence < last)

-- a good disk of the group that can be read and tells its contents
abbrev pub IsReadableGood : Word → (ℕ → Bool) → DiskSeen → Type 0
IsReadableGood group readable h = (readable h.slot ≡ true) × IsTrue h.good × IsMember group h.seen.told

-- the offer has the mask of the good disks
abbrev pub HasGoodMask : List DiskSeen → Option Offer → Type 0
HasGoodMask disks None = ⊥
HasGoodMask disks (Some o) = o.good ≡ good_mask disks

-- whichever disks can be read, they give the text and the mask of the good ones, where a good one is among them
abbrev pub GivesNew : Word → ℕ → ℕ → List ℕ → List DiskSeen → Type 0
GivesNew group first last text new = (readable : ℕ → Bool) → AnyOf (IsReadableGood group readable) new → IsNew first last text (configuration group readable new) × HasGoodMask new (configuration group readable new)

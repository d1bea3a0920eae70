-- How a pass over the disks ends.
use Rattle.std.specs.Prelude.{◌≡◌, ◌⊎◌, ℕ, ◌*◌, ◌≤◌, ◌<◌, List, [], ◌∷◌, length, take, false, IsTrue, Option, Some, None, MatchOption}
use Rattle.vx_base.specs.Blocks.{Contents}
use Rattle.vx_copies.specs.Image.{offer_of, sectors_for, filled}
use Rattle.vx_copies.specs.Lists.{Each, AllOf, AnyOf}
use Rattle.vx_copies.specs.Disks.{DiskSeen, good_count, IsCut, IsReady, HasSpare, IsOffer, SameOffer, RestStays}
use Rattle.vx_copies.specs.declared.disk.Pass.{Pass}
use Rattle.vx_copies.specs.declared.disk.Pass.TheVariants.{Done, Dropped, Cut}

-- the text with the zeros that fill its last sector
pub record IsPadded (text padded : List ℕ) : Type 0 where
  pub front : take (length text) padded ≡ text
  pub size : length padded ≡ 512 * sectors_for (length text)
  pub zeros : padded ≡ filled text
  pub fits : length text ≤ 522240

-- the disk offers just this
abbrev pub NowOffers : ℕ → ℕ → List ℕ → Option Contents → Type 0
NowOffers sequence mask text None = ⊥
NowOffers sequence mask text (Some contents) = offer_of contents ≡ Some (record { sequence = sequence; good = mask; text = text })

-- the first good disk has got the toggle
abbrev pub FirstTurned : ℕ → ℕ → List ℕ → List DiskSeen → List DiskSeen → Type 0
FirstTurned sequence mask text [] new = ⊥
FirstTurned sequence mask text (a ∷ old) [] = ⊥
FirstTurned sequence mask text (a ∷ old) (b ∷ new) = (IsTrue a.good × NowOffers sequence mask text b.seen.told) ⊎ ((a.good ≡ false) × FirstTurned sequence mask text old new)

-- the header, the toggle, what it offers and what is behind the halves stay
abbrev pub KeepsOffer : Option Contents → Option Contents → Type 0
KeepsOffer None None = Unit {0}
KeepsOffer None (Some new) = ⊥
KeepsOffer (Some old) None = ⊥
KeepsOffer (Some old) (Some new) = (new 0 ≡ old 0) × SameOffer old new × RestStays old new

-- the first good disk has got the toggle, or none has
abbrev pub TurnsFirst : ℕ → ℕ → List ℕ → List DiskSeen → List DiskSeen → Type 0
TurnsFirst sequence mask text old new = FirstTurned sequence mask text old new ⊎ Each (λ a b. KeepsOffer a.seen.told b.seen.told) old new

-- where it is good, the disk tells what it holds
abbrev pub TellsIfGood : DiskSeen → Type 0
TellsIfGood h = IsTrue h.good → MatchOption h.seen.told ⊥ (λ contents. Unit {0})

-- so does the first good one
abbrev pub FirstTells : List DiskSeen → Type 0
FirstTells [] = Unit {0}
FirstTells (h ∷ hs) = TellsIfGood h × (h.good ≡ false → FirstTells hs)

-- all halves are written, or one disk less is good, or the power is lost
abbrev pub HalvesEnd : Pass → List ℕ → List DiskSeen → List DiskSeen → Type 0
HalvesEnd Done text old new = AllOf IsReady new × AllOf (HasSpare text) new × Each (λ a b. b.good ≡ a.good) old new
HalvesEnd Dropped text old new = AllOf IsReady new × (good_count new < good_count old)
HalvesEnd Cut text old new = AnyOf IsCut new

abbrev pub HalfEnds : Pass → List ℕ → DiskSeen → DiskSeen → Type 0
HalfEnds Done text old new = IsReady new × HasSpare text new × (new.good ≡ old.good)
HalfEnds Dropped text old new = IsReady new × (IsTrue old.good × (new.good ≡ false))
HalfEnds Cut text old new = IsCut new

abbrev pub ToggleEnds : Pass → ℕ → ℕ → List ℕ → DiskSeen → DiskSeen → Type 0
ToggleEnds Done sequence mask text old new = IsReady new × IsOffer sequence mask text new × (new.good ≡ old.good)
ToggleEnds Dropped sequence mask text old new = IsReady new × (IsTrue old.good × (new.good ≡ false))
ToggleEnds Cut sequence mask text old new = IsCut new

abbrev pub TogglesEnd : Pass → ℕ → ℕ → List ℕ → List DiskSeen → List DiskSeen → Type 0
TogglesEnd Done sequence mask text old new = AllOf IsReady new × AllOf (IsOffer sequence mask text) new × Each (λ a b. b.good ≡ a.good) old new
TogglesEnd Dropped sequence mask text old new = AllOf IsReady new × (good_count new < good_count old)
TogglesEnd Cut sequence mask text old new = AnyOf IsCut new

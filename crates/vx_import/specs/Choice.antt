-- Which configuration of a group is taken.
use Rattle.std.specs.Prelude.{◌≡◌, ℕ, zero, suc, ◌+◌, ◌<◌, ◌≤◌, nat_lt, false, IsTrue, if◌then◌else◌, List, [], ◌∷◌, take, Option, Some, None, IfSome, MatchOption}
use Rattle.vx_base.specs.Named.{Word}
use Rattle.vx_header.specs.Said.{Said, said_of}
use Rattle.vx_header.specs.declared.toggle.Toggle.{Toggle}
use Rattle.vx_copies.specs.Lists.{AllOf, AnyOf}
use Rattle.vx_copies.specs.Image.{Offer, offer_told, text_in, highest}
use Rattle.vx_import.specs.Looks.{Looked, toggle_read}
use Rattle.vx_import.specs.declared.choosing.Best.{Best}
use Rattle.vx_import.specs.declared.choosing.Taken.{Taken}
use Rattle.vx_import.specs.declared.choosing.Taken.TheVariants.{Text, Nothing, Cut}
use Rattle.vx_import.specs.declared.choosing.Tried.{Tried}
use Rattle.vx_import.specs.declared.choosing.Tried.TheVariants.{Done, Dropped}
use Rattle.vx_import.specs.declared.choosing.Tried.TheVariants as tried

-- this holds of the member at an index
abbrev pub At : {X : Type 0} → ℕ → (X → Type 0) → List X → Type 0
At i Q [] = ⊥
At zero Q (x ∷ xs) = Q x
At (suc i) Q (x ∷ xs) = At i Q xs

-- the toggle that was read of a device, if any, has a sequence of this kind
abbrev pub IfToggle : (ℕ → Type 0) → Looked → Type 0
IfToggle Q f = MatchOption (toggle_read f) (Unit {0}) (λ t. Q t.sequence)

-- no toggle of a readable device has a higher sequence, and none before it has the same
pub record IsTop (index : ℕ) (t : Said) (fs : List Looked) : Type 0 where
  pub place : At index (λ f. toggle_read f ≡ Some t) fs
  pub up_to : AllOf (IfToggle (λ n. n ≤ t.sequence)) fs
  pub before : AllOf (IfToggle (λ n. n < t.sequence)) (take index fs)

abbrev pub HasNone : Looked → Type 0
HasNone f = toggle_read f ≡ None

abbrev pub BestIs : Option Best → List Looked → Type 0
BestIs None fs = AllOf HasNone fs
BestIs (Some b) fs = IsTop b.index (said_of b.toggle) fs

-- the choice between a device and the best of those behind it
abbrev pub picked : Option Toggle → Option Best → Option Best
picked None None = None
picked None (Some b) = Some (record { index = b.index + 1; toggle = b.toggle })
picked (Some t) None = Some (record { index = 0; toggle = t })
picked (Some t) (Some b) = if nat_lt t.sequence b.toggle.sequence then Some (record { index = b.index + 1; toggle = b.toggle }) else Some (record { index = 0; toggle = t })

-- the device holds the text that the toggle names
abbrev pub HoldsText : Said → List ℕ → Looked → Type 0
HoldsText t text f = IfSome f.seen.told (λ contents. text_in t.half t.length contents ≡ text)

-- the text stands at the front of the buffer; or the device cannot be read any more; or it is cut
abbrev pub TriedIs : Tried → Said → List ℕ → Looked → Type 0
TriedIs Done t buffer f = IsTrue f.readable × HoldsText t (take t.length buffer) f
TriedIs Dropped t buffer f = f.readable ≡ false
TriedIs tried.Cut t buffer f = IsTrue f.seen.cut

-- the highest toggle was chosen, and its text stands at the front of the buffer; or no device has a toggle; or one is cut
abbrev pub TakenIs : Taken → List ℕ → List Looked → Type 0
TakenIs (Text b) buffer fs = IsTop b.index (said_of b.toggle) fs × At b.index (HoldsText (said_of b.toggle) (take b.toggle.length buffer)) fs
TakenIs Nothing buffer fs = AllOf HasNone fs
TakenIs Cut buffer fs = AnyOf (λ f. IsTrue f.seen.cut) fs

-- the device tells what it holds
abbrev pub Tells : Looked → Type 0
Tells f = MatchOption f.seen.told ⊥ (λ contents. Unit {0})

-- what the readable devices offer
abbrev pub offers_read : Word → List Looked → List (Option Offer)
offers_read group [] = []
offers_read group (f ∷ fs) = (if f.readable then offer_told group f.seen.told else None) ∷ offers_read group fs

-- the configuration that the readable devices give
abbrev pub given : Word → List Looked → Option Offer
given group fs = highest (offers_read group fs)

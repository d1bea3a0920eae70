-- Whether what is taken is the newest of all devices of the group, also of those that could not be read.
use Rattle.std.specs.Prelude.{◌≡◌, ◌⊎◌, ℕ, true, false, List, ◌++◌, map}
use Rattle.vx_base.specs.Named.{Word}
use Rattle.vx_mask.specs.Mask.{has}
use Rattle.vx_copies.specs.Lists.{AnyOf}
use Rattle.vx_copies.specs.Image.{Offer, offer_told}
use Rattle.vx_copies.specs.Chain.{Copy, AllUpTo, NamesNewer, NamesMissing}
use Rattle.vx_import.specs.Looks.{Looked}

abbrev pub copy_of : Word → Looked → Copy
copy_of group f = record { slot = f.label.slot; offer = offer_told group f.seen.told }

-- the devices of the group: others that were not given, and these
abbrev pub copies_with : Word → List Copy → List Looked → List Copy
copies_with group others fs = others ++ map (copy_of group) fs

-- the offer names the slot of a device that could not be read
abbrev pub NamesUnread : Offer → List Looked → Type 0
NamesUnread o fs = AnyOf (λ f. (f.readable ≡ false) × (has o.good f.label.slot ≡ true)) fs

-- it is one of the newest, or it names the slot of a device that was not given, or that could not be read, or is missing
abbrev pub IsNewestOrNames : Word → ℕ → Offer → List Copy → List Looked → Type 0
IsNewestOrNames group missing o others fs = AllUpTo o.sequence (copies_with group others fs) ⊎ (NamesNewer o others ⊎ (NamesUnread o fs ⊎ NamesMissing missing o))

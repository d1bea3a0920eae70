-- What a private region offers, and the configuration of a group.
use Rattle.std.specs.Prelude.{ℕ, zero, suc, ◌+◌, ◌-◌, ◌*◌, ◌/◌, max, nat_lt, Bool, true, false, if◌then◌else◌, List, [], ◌∷◌, ◌++◌, length, take, Option, Some, None}
use Rattle.std.specs.Str.{bytes_eq}
use Rattle.vx_base.specs.Blocks.{Contents}
use Rattle.vx_base.specs.Named.{Word}
use Rattle.vx_sector.specs.Fields.{zeros}
use Rattle.vx_header.specs.Named.{Label, header_of}
use Rattle.vx_header.specs.Said.{Said, toggle_of}

-- the bytes of some blocks, end to end
abbrev pub blocks_from : ℕ → ℕ → Contents → List ℕ
blocks_from zero at contents = []
blocks_from (suc n) at contents = contents at ++ blocks_from n (at + 1) contents

-- the sectors that a text needs, at least one
unfoldable pub sectors_for : ℕ → ℕ
sectors_for len = max 1 ((len + 511) / 512)

-- the sectors of the text that a toggle names
abbrev pub text_sectors : Option Said → ℕ
text_sectors None = 0
text_sectors (Some t) = sectors_for t.length

-- the text, and zeros up to the end of its last sector
abbrev pub filled : List ℕ → List ℕ
filled text = text ++ zeros (512 * sectors_for (length text) - length text)

-- the first sector of a half
abbrev pub half_start : ℕ → ℕ
half_start half = 2 + 1020 * half

-- the text of some length at the front of a half
unfoldable pub text_in : ℕ → ℕ → Contents → List ℕ
text_in half len contents = take len (blocks_from (sectors_for len) (half_start half) contents)

-- what a disk offers as the group's configuration
pub record Offer : Type 0 where
  pub sequence : ℕ
  pub good : ℕ
  pub text : List ℕ

abbrev pub offer_by : Option Said → Contents → Option Offer
offer_by None contents = None
offer_by (Some t) contents = Some (record { sequence = t.sequence; good = t.good; text = text_in t.half t.length contents })

-- the toggle of a private region
unfoldable pub toggle_at : Contents → Option Said
toggle_at contents = toggle_of (contents 1)

unfoldable pub offer_of : Contents → Option Offer
offer_of contents = offer_by (toggle_at contents) contents

-- the header names the group
abbrev pub names_group : Word → Option Label → Bool
names_group group None = false
names_group group (Some label) = bytes_eq label.group group

abbrev pub offer_if : Bool → Option Offer → Option Offer
offer_if true offer = offer
offer_if false offer = None

-- what a device offers as the configuration of the group that its header names, and of no other
unfoldable pub offer_in : Word → Contents → Option Offer
offer_in group contents = offer_if (names_group group (header_of (contents 0))) (offer_of contents)

abbrev pub offer_told : Word → Option Contents → Option Offer
offer_told group None = None
offer_told group (Some contents) = offer_in group contents

-- of two offers that with the higher sequence, of equals the first
abbrev pub higher : Option Offer → Option Offer → Option Offer
higher None b = b
higher (Some a) None = Some a
higher (Some a) (Some b) = if nat_lt a.sequence b.sequence then Some b else Some a

-- the offer with the highest sequence, the first of those
abbrev pub highest : List (Option Offer) → Option Offer
highest [] = None
highest (o ∷ os) = higher o (highest os)

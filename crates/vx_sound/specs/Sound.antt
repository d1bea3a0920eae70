-- Soundness of the configuration copies on devices: no import takes an older configuration for the newest.
use Rattle.std.specs.Prelude.{◌≡◌, ◌⊎◌, ◌==◌, ℕ, ◌<◌, ◌≤◌, true, List}
use Rattle.std.specs.List.{list_any}
use Rattle.vx_base.specs.Named.{Word}
use Rattle.vx_mask.specs.Mask.{has}
use Rattle.vx_record.specs.Content.{Content}
use Rattle.vx_record.specs.Grammar.{Spells}
use Rattle.vx_objects.specs.declared.config.Config.{Config}
use Rattle.vx_objects.specs.Printed.{IsReadOf}
use Rattle.vx_copies.specs.Image.{Offer}
use Rattle.vx_moments.specs.Copies.{IsTextOf}
use Rattle.vx_moments.specs.World.{World, Device}
use Rattle.vx_sound.specs.Offers.{IsHeaded, Offers}

-- no device offers a higher sequence for the group
abbrev pub IsNewest : Word → World → Offer → Type 0
IsNewest dg w o = (name : Word) (slot : ℕ) (p : Offer) → Offers dg w name slot p → p.sequence ≤ o.sequence

-- the text is that of the configuration, or it is read as it
abbrev pub IsConfigOf : List ℕ → Config → Type 0
IsConfigOf text config = IsTextOf config text ⊎ ((rs : List Content) × Spells text rs × IsReadOf rs config)

-- the configuration of the text, if it is one, has a disk of the slot
abbrev pub RecordsSlot : ℕ → List ℕ → Type 0
RecordsSlot slot text = (config : Config) → IsConfigOf text config → list_any (λ d. d.slot == slot) config.disks ≡ true

-- the offer names the slot of a device whose offer is newer
pub record NamesNewer (dg : Word) (w : World) (o : Offer) : Type 0 where
  pub name : Word
  pub slot : ℕ
  pub newer : Offer
  pub offers : Offers dg w name slot newer
  pub names : has o.good slot ≡ true
  pub rises : o.sequence < newer.sequence

-- the offer names a slot that no device has
pub record NamesMissing (dg : Word) (w : World) (o : Offer) : Type 0 where
  pub slot : ℕ
  pub names : has o.good slot ≡ true
  pub missing : (name : Word) (d : Device) → IsHeaded dg w name slot d → ⊥

-- The copies of a group.
pub record IsChained (dg : Word) (w : World) : Type 0 where
  -- devices of the group have slots of their own
  pub apart : (slot : ℕ) (one other : Word) (d e : Device) → IsHeaded dg w one slot d → IsHeaded dg w other slot e → one ≡ other
  -- each offer is the newest, or names a device with a newer one, or a disk that is missing
  pub chained : (name : Word) (slot : ℕ) (o : Offer) → Offers dg w name slot o → IsNewest dg w o ⊎ (NamesNewer dg w o ⊎ NamesMissing dg w o)
  -- offers of one sequence have one mask and one text
  pub agree : (one other : Word) (slot place : ℕ) (o p : Offer) → Offers dg w one slot o → Offers dg w other place p → o.sequence ≡ p.sequence → (o.good ≡ p.good) × (o.text ≡ p.text)
  -- a configuration records each disk that offers one as old or older, and each that such an offer names
  pub offering : (one other : Word) (slot place : ℕ) (o p : Offer) → Offers dg w one slot o → Offers dg w other place p → o.sequence ≤ p.sequence → RecordsSlot slot p.text
  pub named : (one other : Word) (slot place : ℕ) (o p : Offer) → Offers dg w one slot o → Offers dg w other place p → o.sequence ≤ p.sequence → (n : ℕ) → has o.good n ≡ true → RecordsSlot n p.text

-- the copies of each group are chained
abbrev pub AreSound : World → Type 0
AreSound w = (dg : Word) → IsChained dg w

-- Headers of devices, and what is known of a device by its header.
use Rattle.std.proofs.Common.{◌≡◌, ℕ, ◌<◌, ◌^◌, List, Option, Some, None, get_or, refl, sym, ◌∙◌, ap, subst, arith}
use Rattle.std.specs.Prelude.{replicate}
use Rattle.vx_base.specs.Blocks.{Contents}
use Rattle.vx_base.specs.Named.{Word}
use Rattle.vx_header.specs.Named.{Label, header_of}
use Rattle.vx_header.specs.Said.{Said, toggle_of}
use Rattle.vx_header.proofs.Labels.{Fits, header_spells, unmarked_says}
use Rattle.vx_header.proofs.Toggles.{said_spells}
use Rattle.vx_copies.specs.Image.{Offer, offer_by, offer_of, toggle_at}
use Rattle.vx_moments.specs.World.{World, Device}
use Rattle.vx_sound.specs.Offers.{IsHeaded, Offers}

pub some_same : {X : Type 0} (a b : X) → Some a ≡ Some b → a ≡ b
some_same a b e = cc

pub never_some : {X T : Type 0} (o : Option X) (a : X) → o ≡ None → o ≡ Some a → T
never_some o a none some = cc

-- a sector of one byte is no header
pub none_filled : (byte : ℕ) → header_of (replicate 512 byte) ≡ None
none_filled byte = unmarked_says (replicate 512 byte) (λ e.
    let first : byte ≡ 118 = ap (λ (xs : List ℕ). get_or xs 0 0) e in
    let second : byte ≡ 120 = ap (λ (xs : List ℕ). get_or xs 1 0) e in
    omega arith)

pub header_fits : (sector : List ℕ) (label : Label) → header_of sector ≡ Some label → Fits label
header_fits sector label is = (header_spells sector label is).fits

module _ (dg : Word) (w : World) (name : Word) (slot : ℕ) (d : Device) (h : IsHeaded dg w name slot d) where
  pub slot_below : slot < 32
  slot_below = subst (λ (s : ℕ). s < 32) h.slot_is (header_fits (d.contents 0) h.label h.header).slot

  pub size_above : 2048 < d.sectors
  size_above = subst (λ (n : ℕ). 2048 < n) h.size (header_fits (d.contents 0) h.label h.header).public

  -- the device has no other
  pub one_device : (e : Device) → w.devices name ≡ Some e → d ≡ e
  one_device e is = some_same d e (sym h.device ∙ is)

-- a device has one header
module _ (dg other : Word) (w : World) (name : Word) (slot place : ℕ) (d e : Device) (h : IsHeaded dg w name slot d) (k : IsHeaded other w name place e) where
  one_label : h.label ≡ k.label
  one_label = some_same h.label k.label (sym h.header ∙ ap (λ (x : Device). header_of (x.contents 0)) (one_device dg w name slot d h e k.device) ∙ k.header)

  pub one_slot : slot ≡ place
  one_slot = sym h.slot_is ∙ ap (λ (l : Label). l.slot) one_label ∙ k.slot_is

  pub one_group : dg ≡ other
  one_group = sym h.group ∙ ap (λ (l : Label). l.group) one_label ∙ k.group

pub one_offer : (dg : Word) (w : World) (name : Word) (slot place : ℕ) (o p : Offer) → Offers dg w name slot o → Offers dg w name place p → o ≡ p
one_offer dg w name slot place o p h k =
    some_same o p (sym h.offer ∙ ap (λ (x : Device). offer_of x.contents) (one_device dg w name slot h.device h.headed k.device k.headed.device) ∙ k.offer)

offered_by : (t : Option Said) (c : Contents) (o : Offer) → offer_by t c ≡ Some o → (s : Said) × (t ≡ Some s) × (s.good ≡ o.good)
offered_by None c o e = cc
offered_by (Some s) c o e = (s, refl, ap (λ (x : Offer). x.good) (some_same _ o e))

-- the mask of an offer is one of 32 slots
pub mask_below : (c : Contents) (o : Offer) → offer_of c ≡ Some o → o.good < 2 ^ 32
unfolding offer_of toggle_at
mask_below c o e =
    let said = offered_by (toggle_of (c 1)) c o e in
    subst (λ (n : ℕ). n < 2 ^ 32) said.2 (said_spells (c 1) said.0 said.1).fits.good

-- Where devices of a group lose their headers, its copies stay chained.
use Rattle.std.proofs.Common.{◌≡◌, ◌⊎◌, ℕ, inl, inr, subst}
use Rattle.vx_base.specs.Named.{Word}
use Rattle.vx_copies.specs.Image.{Offer}
use Rattle.vx_moments.specs.World.{World, Device}
use Rattle.vx_sound.specs.Offers.{IsHeaded, Offers}
use Rattle.vx_sound.specs.Sound.{IsNewest, NamesNewer, NamesMissing, IsChained}

-- a device with a header had it before
abbrev pub HadEach : Word → World → World → Type 0
HadEach dg old new = (name : Word) (slot : ℕ) (d : Device) → IsHeaded dg new name slot d → IsHeaded dg old name slot d

-- the device has none for the group
abbrev pub HasNone : Word → World → Word → Type 0
HasNone dg w name = (slot : ℕ) (d : Device) → IsHeaded dg w name slot d → ⊥

-- a device with a header has it still, or has none
abbrev pub HasOrNone : Word → World → World → Type 0
HasOrNone dg old new = (name : Word) (slot : ℕ) (d : Device) → IsHeaded dg old name slot d → IsHeaded dg new name slot d ⊎ HasNone dg new name

pub offered : (dg : Word) (old new : World) → HadEach dg old new → (name : Word) (slot : ℕ) (o : Offer) → Offers dg new name slot o → Offers dg old name slot o
offered dg old new had name slot o h = record { device = h.device; headed = had name slot h.device h.headed; offer = h.offer }

module _ (dg : Word) (old new : World) (had : HadEach dg old new) (stays : HasOrNone dg old new) (was : IsChained dg old) where
  newer : (o : Offer) → NamesNewer dg old o → NamesNewer dg new o ⊎ NamesMissing dg new o
  newer o n = elim (stays n.name n.slot n.offers.device n.offers.headed) [
    | inl headed ↦ inl (record { name = n.name; slot = n.slot; newer = n.newer; offers = record { device = n.offers.device; headed = headed; offer = n.offers.offer }; names = n.names; rises = n.rises })
    | inr none ↦ inr (record {
      slot = n.slot;
      names = n.names;
      missing = λ name d h.
          let same : name ≡ n.name = was.apart n.slot name n.name d n.offers.device (had name n.slot d h) n.offers.headed in
          none n.slot d (subst (λ (x : Word). IsHeaded dg new x n.slot d) same h);
    })
  ]

  chain : (o : Offer) → IsNewest dg old o ⊎ (NamesNewer dg old o ⊎ NamesMissing dg old o) → IsNewest dg new o ⊎ (NamesNewer dg new o ⊎ NamesMissing dg new o)
  chain o (inl newest) = inl (λ name slot p h. newest name slot p (offered dg old new had name slot p h))
  chain o (inr (inl n)) = inr (newer o n)
  chain o (inr (inr gone)) = inr (inr (record { slot = gone.slot; names = gone.names; missing = λ name d h. gone.missing name d (had name gone.slot d h) }))

  pub chained_fewer : IsChained dg new
  chained_fewer = record {
    apart = λ slot one other d e h k. was.apart slot one other d e (had one slot d h) (had other slot e k);
    chained = λ name slot o h. chain o (was.chained name slot o (offered dg old new had name slot o h));
    agree = λ one other slot place o p h k same. was.agree one other slot place o p (offered dg old new had one slot o h) (offered dg old new had other place p k) same;
    offering = λ one other slot place o p h k up. was.offering one other slot place o p (offered dg old new had one slot o h) (offered dg old new had other place p k) up;
    named = λ one other slot place o p h k up n is. was.named one other slot place o p (offered dg old new had one slot o h) (offered dg old new had other place p k) up n is;
  }

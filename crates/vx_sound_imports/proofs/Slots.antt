-- What the members of a group have in a slot.
use Rattle.std.proofs.Common.{◌≡◌, ◌∙◌, ℕ, ◌==◌, Bool, true, false, cond, List, [], ◌∷◌, Option, refl, sym, ap, subst, inl, inr}
use Rattle.std.proofs.lemmas.Bool.{eqb-true, eq-eqb, false≢true}
use Rattle.vx_base.specs.Named.{Word}
use Rattle.vx_copies.specs.Lists.{AllOf, AnyOf}
use Rattle.vx_image.proofs.PlexMembers.{IsIn}
use Rattle.vx_moments.specs.World.{Device, Member, World}
use Rattle.vx_moments.specs.Group.{public_of, sectors_of}
use Rattle.vx_sound.specs.Offers.{IsHeaded}
use Rattle.vx_sound.specs.Sound.{IsChained}

-- each member of the slot has this device
abbrev pub AreOn : List Member → ℕ → Word → Type 0
AreOn ms slot device = (m : Member) → IsIn ms m → m.slot ≡ slot → m.device ≡ device

-- where there is one, it has the sectors of that device
pub slot_sectors : (devices : Word → Option Device) (ms : List Member) (slot : ℕ) (device : Word) → AreOn ms slot device → (m : Member) → IsIn ms m → m.slot ≡ slot → (k : ℕ) → sectors_of devices ms slot k ≡ public_of (devices device) k
slot_sectors devices [] slot device on m one is k = absurd one
slot_sectors devices (n ∷ ms) slot device on m one is k = by (n.slot == slot) refl one (λ more. slot_sectors devices ms slot device (λ x other. on x (inr other)) m more is k)
  where
    by : (b : Bool) → (n.slot == slot) ≡ b → IsIn (n ∷ ms) m → (IsIn ms m → sectors_of devices ms slot k ≡ public_of (devices device) k) → cond b (public_of (devices n.device)) (sectors_of devices ms slot) k ≡ public_of (devices device) k
    by true e one rest = ap (λ x. public_of (devices x) k) (on n (inl refl) (eqb-true n.slot slot e))
    by false e (inl same) rest = absurd (false≢true (sym e ∙ eq-eqb n.slot slot (ap (λ (x : Member). x.slot) (sym same) ∙ is)))
    by false e (inr more) rest = rest more

-- what holds of each of these, by its place among them
pub each_of : {X : Type 0} (P : X → Type 0) (xs : List X) → AllOf P xs → (x : X) → IsIn xs x → P x
each_of P [] all x one = absurd one
each_of P (y ∷ xs) all x (inl same) = subst P (sym same) all.0
each_of P (y ∷ xs) all x (inr one) = each_of P xs all.1 x one

pub listed : {X : Type 0} (xs : List X) (x : X) → IsIn xs x → AnyOf (λ y. y ≡ x) xs
listed [] x one = absurd one
listed (y ∷ xs) x (inl same) = inl (sym same)
listed (y ∷ xs) x (inr one) = inr (listed xs x one)

-- each member of the slot has a header of the group in it
abbrev pub AreHeadedIn : Word → World → List Member → ℕ → Type 0
AreHeadedIn dg w ms slot = (m : Member) → IsIn ms m → m.slot ≡ slot → (d : Device) × IsHeaded dg w m.device slot d

-- two lists of such members have the same sectors in the slot
pub same_slot : (dg : Word) (w : World) → IsChained dg w → (devices : Word → Option Device) (ms ns : List Member) (slot : ℕ) → AreHeadedIn dg w ms slot → AreHeadedIn dg w ns slot →
    (m : Member) → IsIn ms m → m.slot ≡ slot → (n : Member) → IsIn ns n → n.slot ≡ slot → (k : ℕ) → sectors_of devices ns slot k ≡ sectors_of devices ms slot k
same_slot dg w was devices ms ns slot headed others m one is n other same k =
    slot_sectors devices ns slot m.device (λ i at its. apart i (others i at its)) n other same k
    ∙ sym (slot_sectors devices ms slot m.device (λ i at its. apart i (headed i at its)) m one is k)
  where
    apart : (i : Member) → (d : Device) × IsHeaded dg w i.device slot d → i.device ≡ m.device
    apart i h = let here = headed m one is in was.apart slot i.device m.device h.0 here.0 h.1 here.1

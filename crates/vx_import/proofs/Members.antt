-- A device whose private region was split off is a disk of its group that is ready for a commit.
use Rattle.std.proofs.Common.{◌≡◌, ℕ, ◌+◌, ◌<◌, ◌≤◌, Bool, true, cond, Option, Some, None, refl, sym, ap, ◌∙◌, subst, arith}
use Rattle.std.specs.Prelude.{MatchOption, IfSome}
use Rattle.vx_base.specs.Blocks.{Contents}
use Rattle.vx_base.specs.Named.{Word}
use Rattle.vx_header.specs.Named.{Label, label_of, header_of}
use Rattle.vx_header.specs.Said.{Said, toggle_of}
use Rattle.vx_header.proofs.Toggles.{said_spells}
use Rattle.vx_piece.specs.Seen.{Seen, IsPartTold}
use Rattle.vx_copies.specs.Image.{Offer, toggle_at, offer_in, offer_told, offer_of}
use Rattle.vx_copies.specs.Disks.{IsReady, IsBelow, NamesHalf}
use Rattle.vx_copies.proofs.Halves.{offer_same}
use Rattle.vx_copies.proofs.InGroup.{in_same}
use Rattle.vx_confdb.specs.Groups.{IsMemberOf}
use Rattle.vx_confdb.specs.Prepare.{Says}
use Rattle.vx_import.specs.Looks.{Looked, looked, IsOurs, HasReading, IsReading, said_in, half_in}
use Rattle.vx_import.specs.Choice.{IfToggle}
use Rattle.vx_import.specs.Answers.{IsOf, disk_of}
use Rattle.vx_import.proofs.Offers.{IfOffer, offer_if_toggle}
use Rattle.vx_import.specs.declared.device.GroupDevice.{GroupDevice}
use Rattle.vx_import.specs.declared.device.Reading.{Reading}
use Rattle.vx_import.specs.declared.device.Reading.TheVariants as reading

-- contents that agree on the private region offer the same
module _ (c d : Contents) (same : (k : ℕ) → k < 2048 → d k ≡ c k) where
  offers_by : (o : Option Said) → toggle_of (c 1) ≡ o → offer_of d ≡ offer_of c
  unfolding toggle_at
  offers_by None e = offer_same 0 c d (subst (λ (x : Option Said). MatchOption x (Unit {0}) (λ t. t.half ≡ 0)) (sym e) tt) (same 1 (omega arith)) (λ k le lt. same k (omega (arith, lt)))
  offers_by (Some t) e =
      let half = (said_spells (c 1) t e).fits.half in
      offer_same t.half c d (subst (λ (x : Option Said). MatchOption x (Unit {0}) (λ s. s.half ≡ t.half)) (sym e) refl) (same 1 (omega arith)) (λ k le lt. same k (omega (arith, lt, half)))

  pub offers_same : (group : Word) → offer_in group d ≡ offer_in group c
  offers_same group = in_same group c d (same 0 (omega arith)) (offers_by (toggle_of (c 1)) refl)

from_start : (c d : Contents) → ((k : ℕ) → k < 2048 → d k ≡ c (0 + k)) → (k : ℕ) → k < 2048 → d k ≡ c k
from_start c d same k lt = let here : 0 + k ≡ k = omega arith in same k lt ∙ ap c here

-- the private region offers what the whole device does
pub told_same : (group : Word) (whole private : Option Contents) → IsPartTold 0 2048 whole private → offer_told group private ≡ offer_told group whole
told_same group None None part = refl
told_same group None (Some d) part = absurd part
told_same group (Some c) None part = absurd part
told_same group (Some c) (Some d) part = offers_same c d (from_start c d part) group

half_named : (r : Reading) (s : Option Said) → s ≡ said_in r → MatchOption s (Unit {0}) (λ t. t.half ≡ half_in r)
half_named r s e = subst (λ (x : Option Said). MatchOption x (Unit {0}) (λ t. t.half ≡ half_in r)) (sym e) (by r)
  where
    by : (q : Reading) → MatchOption (said_in q) (Unit {0}) (λ t. t.half ≡ half_in q)
    by reading.Blank = tt
    by (reading.Says t) = refl
    by (reading.Damaged byte) = tt

half_below : (r : Reading) → half_in r < 2
half_below reading.Blank = omega arith
half_below (reading.Says t) = t.half_below
half_below (reading.Damaged byte) = omega arith

names_half : (r : Reading) (whole private : Option Contents) → IfSome whole (λ c. IsReading r (c 1)) → IsPartTold 0 2048 whole private → NamesHalf (half_in r) private
unfolding toggle_at
names_half r None None is part = tt
names_half r None (Some d) is part = absurd part
names_half r (Some c) None is part = absurd part
names_half r (Some c) (Some d) is part = half_named r (toggle_of (d 1)) (ap toggle_of (from_start c d part 1 (omega arith)) ∙ is.said)

says_label : (label : Label) (whole private : Option Contents) → IfSome whole (λ c. header_of (c 0) ≡ Some label) → IsPartTold 0 2048 whole private → Says label private
says_label label None None is part = tt
says_label label None (Some d) is part = absurd part
says_label label (Some c) None is part = absurd part
says_label label (Some c) (Some d) is part = ap header_of (from_start c d part 0 (omega arith)) ∙ is

below_none : (group : Word) (last : ℕ) (told : Option Contents) → told ≡ None → MatchOption (offer_told group told) (Unit {0}) (λ o. o.sequence ≤ last)
below_none group last told e = subst (λ (x : Option Contents). MatchOption (offer_told group x) (Unit {0}) (λ o. o.sequence ≤ last)) (sym e) tt

below_some : (group : Word) (last : ℕ) (f : Looked) (c : Contents) → f.seen.told ≡ Some c → f.readable ≡ true → IsOurs group f → IfToggle (λ n. n ≤ last) f → MatchOption (offer_told group f.seen.told) (Unit {0}) (λ o. o.sequence ≤ last)
below_some group last f c e readable ours is =
    let tells = subst (λ (x : Option Contents). MatchOption x ⊥ (λ d. Unit {0})) (sym e) tt in
    subst (λ b. IfOffer (λ n. n ≤ last) (cond b (offer_told group f.seen.told) None)) readable (offer_if_toggle group (λ n. n ≤ last) f ours tells is)

-- a device is its own front
pub own_front : (told : Option Contents) → IsPartTold 0 2048 told told
own_front None = tt
own_front (Some c) = λ k lt. let here : 0 + k ≡ k = omega arith in sym (ap c here)

module _ {P : Type 0} (see : P → Seen) (group : Word) (f : GroupDevice P) (private : Seen) (wide : 2048 ≤ private.sectors) (front : IsPartTold 0 2048 (see f.piece).told private.told) where
  -- what the device offers
  pub offer_kept : offer_told group private.told ≡ offer_told group (see f.piece).told
  offer_kept = told_same group (see f.piece).told private.told front

  module _ (of : IsOf group (looked see f)) (read : HasReading (looked see f)) (readable : f.readable ≡ true) (good : Bool) (device : Word) where
    -- it can take part in a commit
    pub ready : IsReady (disk_of good device (looked see f) private)
    ready = record {
      slot = f.header.slot_below;
      half = half_below f.reading;
      sectors = wide;
      names = λ is. names_half f.reading (see f.piece).told private.told (read readable) front;
    }

    -- its header says what the disk says
    pub member_of : IsMemberOf group (disk_of good device (looked see f) private)
    member_of = λ is. subst (λ g. Says (record { group = g; disk = f.header.disk; slot = f.header.slot; sectors = f.header.sectors }) private.told) of.group_is (says_label (label_of f.header) (see f.piece).told private.told of.headed front)

    -- it offers nothing above what was chosen
    pub below : (last : ℕ) → IfToggle (λ n. n ≤ last) (looked see f) → IsBelow group last (disk_of good device (looked see f) private)
    below last is = subst (λ (x : Option Offer). MatchOption x (Unit {0}) (λ o. o.sequence ≤ last)) (sym offer_kept) (by (see f.piece).told refl)
      where
        by : (o : Option Contents) → (see f.piece).told ≡ o → MatchOption (offer_told group (see f.piece).told) (Unit {0}) (λ o. o.sequence ≤ last)
        by None e = below_none group last (see f.piece).told e
        by (Some c) e = below_some group last (looked see f) c e readable (record { group_is = of.group_is; headed = of.headed; reads = read }) is

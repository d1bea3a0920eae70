-- Contents of whole devices that have the same rest behind their fronts.
use Rattle.std.proofs.Common.{◌≡◌, ◌∙◌, ◌⊎◌, inl, inr, ℕ, ◌+◌, ◌-◌, ◌<◌, ◌≤◌, Bool, true, false, cond, nat_lt, List, length, Option, Some, None, refl, sym, ap, subst, arith}
use Rattle.std.specs.Prelude.{MatchOption}
use Rattle.std.proofs.lemmas.Bool.{cond-true, cond-false, lt-ltb, ltb-true}
use Rattle.vx_base.specs.Blocks.{Contents, is_in, blocks_in, block_at}
use Rattle.vx_base.specs.Named.{Word}
use Rattle.vx_header.specs.Said.{Said, toggle_of}
use Rattle.vx_header.proofs.Toggles.{said_spells}
use Rattle.vx_copies.specs.Image.{toggle_at, offer_of, offer_in, half_start, filled, sectors_for}
use Rattle.vx_copies.specs.Disks.{SameOffer, RestStays, IsNew, Offers}
use Rattle.vx_copies.specs.Written.{Holds, HalfStays, IsTurned, in_both}
use Rattle.vx_copies.proofs.Halves.{offer_same, blocks_same, few_sectors}
use Rattle.vx_copies.proofs.InGroup.{in_same}
use Rattle.vx_fronts.specs.Fronts.{with_rest}

-- the first sectors are those of the front, and the others those of the rest
pub in_front : (n : ℕ) (c r : Contents) (k : ℕ) → k < n → with_rest n c r k ≡ c k
in_front n c r k lt = cond-true _ _ _ (lt-ltb k n lt)

-- what is asked of each sector alone holds of the whole device where it holds of the front and of what stays
pub each_sector : (n : ℕ) (c d r : Contents) (Q : ℕ → List ℕ → List ℕ → Type 0) → ((k : ℕ) (x : List ℕ) → Q k x x) → (k : ℕ) → Q k (c k) (d k) → Q k (with_rest n c r k) (with_rest n d r k)
each_sector n c d r Q stays k q = by (nat_lt k n)
  where
    by : (b : Bool) → Q k (cond b (c k) (r k)) (cond b (d k) (r k))
    by true = q
    by false = stays k (r k)

-- contents that agree on the private region offer the same
module _ (c d : Contents) (same : (k : ℕ) → k < 2048 → d k ≡ c k) where
  offers_by : (o : Option Said) → toggle_of (c 1) ≡ o → offer_of d ≡ offer_of c
  unfolding toggle_at
  offers_by None e = offer_same 0 c d (subst (λ (x : Option Said). MatchOption x (Unit {0}) (λ t. t.half ≡ 0)) (sym e) tt) (same 1 (omega arith)) (λ k le lt. same k (omega (arith, lt)))
  offers_by (Some t) e =
      let half = (said_spells (c 1) t e).fits.half in
      offer_same t.half c d (subst (λ (x : Option Said). MatchOption x (Unit {0}) (λ s. s.half ≡ t.half)) (sym e) refl) (same 1 (omega arith)) (λ k le lt. same k (omega (arith, lt, half)))

  pub offer_stays : offer_of d ≡ offer_of c
  offer_stays = offers_by (toggle_of (c 1)) refl

  pub offer_in_stays : (group : Word) → offer_in group d ≡ offer_in group c
  offer_in_stays group = in_same group c d (same 0 (omega arith)) offer_stays

  pub toggle_stays : toggle_at d ≡ toggle_at c
  unfolding toggle_at
  toggle_stays = ap toggle_of (same 1 (omega arith))

module _ (n : ℕ) (wide : 2048 ≤ n) (r : Contents) where
  abbrev whole : Contents → Contents
  whole c = with_rest n c r

  pub private : (c : Contents) (k : ℕ) → k < 2048 → whole c k ≡ c k
  private c k lt = in_front n c r k (omega (arith, wide, lt))

  pub whole_offer : (c : Contents) → offer_of (whole c) ≡ offer_of c
  whole_offer c = offer_stays c (whole c) (private c)

  pub whole_offer_in : (c : Contents) (group : Word) → offer_in group (whole c) ≡ offer_in group c
  whole_offer_in c group = offer_in_stays c (whole c) (private c) group

  pub whole_toggle : (c : Contents) → toggle_at (whole c) ≡ toggle_at c
  whole_toggle c = toggle_stays c (whole c) (private c)

  -- a sector of the private region that stays, or gets other bytes
  pub sector_same : (c d : Contents) (k : ℕ) → k < 2048 → d k ≡ c k → whole d k ≡ whole c k
  sector_same c d k lt e = private d k lt ∙ e ∙ sym (private c k lt)

  -- a stretch of sectors that stay
  pub stretch_stays : (from to : ℕ) (c d : Contents) → ((k : ℕ) → from ≤ k → k < to → d k ≡ c k) → (k : ℕ) → from ≤ k → k < to → whole d k ≡ whole c k
  stretch_stays from to c d same k le lt = each_sector n c d r (λ _ x y. y ≡ x) (λ _ x. refl) k (same k le lt)

  pub half_stays : (half : ℕ) (c d : Contents) → HalfStays half c d → HalfStays half (whole c) (whole d)
  half_stays half c d same = stretch_stays (half_start half) (half_start half + 1020) c d same

  keeps_named : (c d : Contents) (o : Option Said) → toggle_at c ≡ o → MatchOption o (Unit {0}) (λ t. HalfStays t.half c d) → MatchOption o (Unit {0}) (λ t. HalfStays t.half (whole c) (whole d))
  keeps_named c d None e stays = tt
  keeps_named c d (Some t) e stays = half_stays t.half c d stays

  pub same_offer : (c d : Contents) → SameOffer c d → SameOffer (whole c) (whole d)
  same_offer c d same = (
    sector_same c d 1 (omega arith) same.0,
    whole_offer d ∙ same.1 ∙ sym (whole_offer c),
    subst (λ (o : Option Said). MatchOption o (Unit {0}) (λ t. HalfStays t.half (whole c) (whole d))) (sym (whole_toggle c)) (keeps_named c d (toggle_at c) refl same.2),
  )

  pub rest_stays : (c d : Contents) → RestStays c d → RestStays (whole c) (whole d)
  rest_stays c d stays k le = each_sector n c d r (λ _ x y. y ≡ x) (λ _ x. refl) k (stays k le)

  pub offers : (first last : ℕ) (text : List ℕ) (c d : Contents) → Offers first last text (Some c) (Some d) → Offers first last text (Some (whole c)) (Some (whole d))
  offers first last text c d is = (sector_same c d 0 (omega arith) is.0, by is.1, rest_stays c d is.2)
    where
      by : SameOffer c d ⊎ IsNew first last text (offer_of d) → SameOffer (whole c) (whole d) ⊎ IsNew first last text (offer_of (whole d))
      by (inl same) = inl (same_offer c d same)
      by (inr new) = inr (subst (IsNew first last text) (sym (whole_offer d)) new)

  -- the text stands in a half of the private region
  pub holds : (text : List ℕ) (half : ℕ) (c : Contents) → half < 2 → length text ≤ 522240 → Holds text half c → Holds text half (whole c)
  holds text half c low short held =
      blocks_same (sectors_for (length text)) (half_start half) c (whole c) (λ k le lt. private c k (let few = few_sectors (length text) short in omega (arith, low, lt, few))) ∙ held

  -- what a toggle that is there names fits into a half
  pub said_fits : (c : Contents) (t : Said) → toggle_at c ≡ Some t → (t.half < 2) × (t.length ≤ 522240)
  unfolding toggle_at
  said_fits c t e = let fits = (said_spells (c 1) t e).fits in (fits.half, fits.text)

  pub turned : (first last : ℕ) (text : List ℕ) (Masks Masks' : ℕ → Type 0) → ((mask : ℕ) → Masks mask → Masks' mask) → (half : ℕ) (d : Contents) → IsTurned first last text Masks half d → IsTurned first last text Masks' half (whole d)
  turned first last text Masks Masks' masks half d is =
      let fits = said_fits d (record { sequence = is.sequence; half = half; length = length text; good = is.mask }) is.says in
      record {
        sequence = is.sequence;
        mask = is.mask;
        from = is.from;
        up_to = is.up_to;
        masks = masks is.mask is.masks;
        says = whole_toggle d ∙ is.says;
        holds = holds text half d fits.0 fits.1 is.holds;
      }

  -- a sector that is as it was, or the one of the text
  text_sector : (text : List ℕ) (c : Contents) (k : ℕ) → k < n → in_both text (whole c) k ≡ in_both text c k
  text_sector text c k lt = ap (λ x. cond (is_in (half_start 1) (blocks_in (filled text)) k) (block_at (filled text) (k - half_start 1)) (cond (is_in (half_start 0) (blocks_in (filled text)) k) (block_at (filled text) (k - half_start 0)) x)) (in_front n c r k lt)

  pub old_or_text : (text : List ℕ) (c d : Contents) (k : ℕ) → (d k ≡ c k) ⊎ (d k ≡ in_both text c k) → (whole d k ≡ whole c k) ⊎ (whole d k ≡ in_both text (whole c) k)
  old_or_text text c d k is = by (nat_lt k n) refl is
    where
      by : (b : Bool) → nat_lt k n ≡ b → (d k ≡ c k) ⊎ (d k ≡ in_both text c k) → (whole d k ≡ whole c k) ⊎ (whole d k ≡ in_both text (whole c) k)
      by true e (inl old) = inl (each_sector n c d r (λ _ x y. y ≡ x) (λ _ x. refl) k old)
      by true e (inr new) = let lt : k < n = ltb-true k n e in inr (in_front n d r k lt ∙ new ∙ sym (text_sector text c k lt))
      by false e is = inl (cond-false _ _ _ e ∙ sym (cond-false _ _ _ e))

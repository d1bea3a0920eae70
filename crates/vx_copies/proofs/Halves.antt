-- What a write of a half or of a toggle does to what a disk offers.
use Rattle.std.proofs.Common.{◌≡◌, ◌⊎◌, ℕ, zero, suc, ◌+◌, ◌-◌, ◌*◌, ◌^◌, ◌<◌, ◌≤◌, true, false, List, [], ◌∷◌, ◌++◌, length, take, drop, Option, Some, None, Result, Ok, Err, refl, sym, ap, ◌∙◌, subst, arith, inl, inr}
use Rattle.std.specs.Prelude.{IsTrue, MatchOption}
use Rattle.std.proofs.lemmas.List.{drop-drop, length-drop, take-append-drop, take_all}
use Rattle.vx_base.specs.Blocks.{Contents, block_at, blocks_in, is_in, written, IsTorn}
use Rattle.vx_piece.specs.Seen.{Seen, IsInside, Writes}
use Rattle.vx_base.proofs.BlockLemmas.{written_in, written_out, is_in-before, is_in-after}
use Rattle.vx_header.specs.Said.{Said, toggle_of}
use Rattle.vx_header.specs.Sectors.{toggle_sector}
use Rattle.vx_header.proofs.Toggles.{said_spells, said_back}
use Rattle.vx_copies.specs.Image.{blocks_from, sectors_for, filled, half_start, text_in, toggle_at, offer_by, offer_of}
use Rattle.vx_copies.specs.Disks.{DiskSeen, NamesHalf, HasText, StaysTold, OffersJust, KeepsNamed, SameOffer}
use Rattle.vx_copies.specs.Pass.{IsPadded}
use Rattle.vx_copies.specs.Written.{BothTell, Holds, HalfStays, OldOrText}
use Rattle.vx_copies.specs.Steps.{HalfLeaves, ToggleLeaves, Says}
use Rattle.vx_copies.proofs.StepLaws.{same_toggle}
use Rattle.vx_copies.proofs.WriteCounts.{torn_only}

pub blocks_same : (n at : ℕ) (c d : Contents) → ((k : ℕ) → at ≤ k → k < at + n → d k ≡ c k) → blocks_from n at d ≡ blocks_from n at c
blocks_same zero at c d same = refl
blocks_same (suc n) at c d same =
    let head : d at ≡ c at = same at (omega arith) (omega arith) in
    let rest = blocks_same n (at + 1) c d (λ k le lt. same k (omega arith) (omega arith)) in
    cc

empty : (xs : List ℕ) → length xs ≡ 0 → [] ≡ xs
empty [] e = refl
empty (x ∷ xs) e = absurd (omega (arith, e))

pub blocks_are : (m n at : ℕ) (bytes : List ℕ) (d : Contents) → length bytes ≡ m * n → ((k : ℕ) → k < n → d (at + k) ≡ take m (drop (m * k) bytes)) → blocks_from n at d ≡ bytes
blocks_are m zero at bytes d len is = empty bytes (omega (arith, len))
blocks_are m (suc n) at bytes d len is =
    let zero_place : m * 0 ≡ 0 = omega arith in
    let here : at + 0 ≡ at = omega arith in
    let head : d at ≡ take m bytes = ap d (sym here) ∙ is 0 (omega arith) ∙ ap (λ i. take m (drop i bytes)) zero_place in
    let fewer : length (drop m bytes) ≡ m * n = omega (arith, len, length-drop m bytes) in
    let rest : blocks_from n (at + 1) d ≡ drop m bytes = blocks_are m n (at + 1) (drop m bytes) d fewer (λ k lt.
    let place : at + 1 + k ≡ at + suc k = omega arith in
    let offset : m * suc k ≡ m + m * k = omega arith in
    ap d place ∙ is (suc k) (omega arith) ∙ ap (λ i. take m (drop i bytes)) offset ∙ ap (take m) (sym (drop-drop (m * k) m bytes))) in
    ap (λ xs. xs ++ blocks_from n (at + 1) d) head ∙ ap (λ ys. take m bytes ++ ys) rest ∙ take-append-drop m bytes

-- the sectors that differ lie in the written ones
pub torn_out : (at : ℕ) (bytes : List ℕ) (c d : Contents) → IsTorn at bytes c d → (k : ℕ) → (k < at) ⊎ (at + blocks_in bytes ≤ k) → d k ≡ c k
torn_out at bytes c d torn k out =
    let not_in : is_in at (blocks_in bytes) k ≡ false = elim out [ inl lt ↦ is_in-before at _ k lt | inr le ↦ is_in-after at _ k le ] in
    elim (torn k) [ inl e ↦ e | inr e ↦ e ∙ written_out at bytes c k not_in ]

pub written_torn : (at : ℕ) (bytes : List ℕ) (c d : Contents) → ((k : ℕ) → d k ≡ written at bytes c k) → IsTorn at bytes c d
written_torn at bytes c d is k = inr (is k)

pub few_sectors : (n : ℕ) → n ≤ 522240 → sectors_for n ≤ 1020
unfolding sectors_for
few_sectors n le = omega (arith, le)

-- the sectors of a text fit into a half
pub few_text : (text padded : List ℕ) → IsPadded text padded → blocks_in (filled text) ≤ 1020
few_text text padded fills = let few : blocks_in padded ≤ 1020 = omega (arith, fills.size, fills.fits, few_sectors (length text) fills.fits) in subst (λ p. blocks_in p ≤ 1020) fills.zeros few

-- a text is the same where its half is
pub text_same : (half len : ℕ) (c d : Contents) → ((k : ℕ) → half_start half ≤ k → k < half_start half + sectors_for len → d k ≡ c k) → text_in half len d ≡ text_in half len c
unfolding text_in
text_same half len c d same = ap (take len) (blocks_same (sectors_for len) (half_start half) c d same)

-- the offer stays where the toggle and the half that it names stay
pub offer_same : (half : ℕ) (c d : Contents) → NamesHalf half (Some c) → d 1 ≡ c 1 → ((k : ℕ) → half_start half ≤ k → k < half_start half + 1020 → d k ≡ c k) → offer_of d ≡ offer_of c
unfolding toggle_at offer_of
offer_same half c d names toggle same = ap (λ b. offer_by (toggle_of b) d) toggle ∙ by (toggle_of (c 1)) refl names
  where
    by : (o : Option Said) → toggle_of (c 1) ≡ o → MatchOption o (Unit {0}) (λ t. t.half ≡ half) → offer_by o d ≡ offer_by o c
    by None e is = refl
    by (Some t) e is =
        let few = few_sectors t.length (said_spells (c 1) t e).fits.text in
        let text = text_same t.half t.length c d (λ k le lt. same k (omega (arith, is, le)) (omega (arith, is, lt, few))) in
        ap (λ x. Some (record { sequence = t.sequence; good = t.good; text = x })) text

-- the half that is named stays
named_stays : (half : ℕ) (c d : Contents) → NamesHalf half (Some c) → ((k : ℕ) → half_start half ≤ k → k < half_start half + 1020 → d k ≡ c k) → KeepsNamed c d
named_stays half c d names same = by (toggle_at c) names
  where
    by : (o : Option Said) → MatchOption o (Unit {0}) (λ t. t.half ≡ half) → MatchOption o (Unit {0}) (λ t. (k : ℕ) → half_start t.half ≤ k → k < half_start t.half + 1020 → d k ≡ c k)
    by None is = tt
    by (Some t) is = λ k le lt. same k (omega (arith, is, le)) (omega (arith, is, lt))

same_offer : (half : ℕ) (c d : Contents) → NamesHalf half (Some c) → d 1 ≡ c 1 → ((k : ℕ) → half_start half ≤ k → k < half_start half + 1020 → d k ≡ c k) → SameOffer c d
same_offer half c d names toggle same = (toggle, offer_same half c d names toggle same, named_stays half c d names same)

module _ (half : ℕ) (text padded : List ℕ) (c d : Contents) (is_half : half < 2) (fills : IsPadded text padded) where
  few : blocks_in padded ≤ 1020
  few = omega (arith, fills.size, fills.fits, few_sectors (length text) fills.fits)

  halves : (h : ℕ) → h < 2 → (h ≡ 0) ⊎ (h ≡ 1)
  halves zero lt = inl refl
  halves (suc zero) lt = inr refl
  halves (suc (suc h)) lt = absurd (omega (arith, lt))

  -- a write of the spare half leaves the other half
  pub half_left : IsTorn (half_start (1 - half)) padded c d → HalfStays half c d
  half_left torn k le lt = torn_out (half_start (1 - half)) padded c d torn k (elim (halves half is_half) [ inl h ↦ inl (omega (arith, h, le, lt)) | inr h ↦ inr (omega (arith, h, le, lt, few)) ])

  -- a write of the spare half, torn or not, leaves the offer
  pub half_stays : NamesHalf half (Some c) → IsTorn (half_start (1 - half)) padded c d → StaysTold (Some c) (Some d)
  half_stays names torn =
      let out = torn_out (half_start (1 - half)) padded c d torn in
      let one = out 1 (inl (omega arith)) in
      (out 0 (inl (omega arith)), same_offer half c d names one (half_left torn), λ k le. out k (inr (omega (arith, is_half, le, few))))

  -- once it is done the half holds the text with what fills its last sector
  pub half_blocks : ((k : ℕ) → d k ≡ written (half_start (1 - half)) padded c k) → blocks_from (sectors_for (length text)) (half_start (1 - half)) d ≡ padded
  half_blocks is =
      blocks_are 512 (sectors_for (length text)) (half_start (1 - half)) padded d fills.size (λ k lt.
      let n : blocks_in padded ≡ sectors_for (length text) = omega (arith, fills.size) in
      let back : half_start (1 - half) + k - half_start (1 - half) ≡ k = omega arith in
      is (half_start (1 - half) + k) ∙ written_in (half_start (1 - half)) padded c (half_start (1 - half) + k) (omega arith) (omega (arith, n, lt)) ∙ ap (block_at padded) back)

  pub half_has : ((k : ℕ) → d k ≡ written (half_start (1 - half)) padded c k) → text_in (1 - half) (length text) d ≡ text
  unfolding text_in
  half_has is = ap (take (length text)) (half_blocks is) ∙ fills.front

  -- each sector is as before, or the text's in a half
  pub half_only : IsTorn (half_start (1 - half)) padded c d → OldOrText text c d
  half_only torn = torn_only text (1 - half) c d (few_text text padded fills) (omega (arith, is_half)) (subst (λ p. IsTorn (half_start (1 - half)) p c d) fills.zeros torn)

  pub half_leaves : IsTorn (half_start (1 - half)) padded c d → HalfLeaves half text c d
  half_leaves torn = record { toggle = torn_out (half_start (1 - half)) padded c d torn 1 (inl (omega arith)); named = half_left torn; only = half_only torn }

pub one_sector : (n : ℕ) → 1 ≤ sectors_for n
unfolding sectors_for
one_sector n = omega arith

-- a piece that keeps its sectors has a private region as before
pub wide_on : (m n : ℕ) → n ≡ m → 2048 ≤ m → 2048 ≤ n
wide_on m n same wide = let more : 2048 ≤ n = omega (arith, same, wide) in more

pub half_inside : (piece : Seen) (half : ℕ) (text padded : List ℕ) → half < 2 → 2048 ≤ piece.sectors → IsPadded text padded → IsInside piece (half_start (1 - half)) (length padded)
half_inside piece half text padded lt size fills = record {
  some = omega (arith, fills.size, one_sector (length text));
  whole = omega (arith, fills.size);
  inside = omega (arith, fills.size, few_sectors (length text) fills.fits, size);
}

module _ {T E : Type 0} (half : ℕ) (text padded : List ℕ) (is_half : half < 2) (fills : IsPadded text padded) where
  pub half_told : (told after : Option Contents) (result : Result T E) → NamesHalf half told → Writes (half_start (1 - half)) padded told after result → StaysTold told after
  half_told None None result names writes = tt
  half_told None (Some d) result names writes = absurd writes
  half_told (Some c) None result names writes = absurd writes
  half_told (Some c) (Some d) (Ok u) names writes = half_stays half text padded c d is_half fills names (written_torn _ _ _ _ writes)
  half_told (Some c) (Some d) (Err e) names writes = half_stays half text padded c d is_half fills names writes

  pub half_text : (told after : Option Contents) (result : Result T E) (u : T) → result ≡ Ok u → Writes (half_start (1 - half)) padded told after result → HasText (1 - half) text after
  half_text None None result u is writes = tt
  half_text None (Some d) result u is writes = absurd writes
  half_text (Some c) None result u is writes = absurd writes
  half_text (Some c) (Some d) (Ok v) u is writes = half_has half text padded c d is_half fills writes
  half_text (Some c) (Some d) (Err e) u is writes = cc

  -- the same sector by sector
  pub half_put : (told after : Option Contents) (result : Result T E) → Writes (half_start (1 - half)) padded told after result → BothTell (HalfLeaves half text) told after
  half_put None None result writes = tt
  half_put None (Some d) result writes = absurd writes
  half_put (Some c) None result writes = absurd writes
  half_put (Some c) (Some d) (Ok u) writes = half_leaves half text padded c d is_half fills (written_torn _ _ _ _ writes)
  half_put (Some c) (Some d) (Err e) writes = half_leaves half text padded c d is_half fills writes

  pub half_holds : (told after : Option Contents) (result : Result T E) (u : T) → result ≡ Ok u → Writes (half_start (1 - half)) padded told after result → MatchOption after (Unit {0}) (Holds text (1 - half))
  half_holds None None result u is writes = tt
  half_holds None (Some d) result u is writes = absurd writes
  half_holds (Some c) None result u is writes = absurd writes
  half_holds (Some c) (Some d) (Ok v) u is writes = half_blocks half text padded c d is_half fills writes ∙ fills.zeros
  half_holds (Some c) (Some d) (Err e) u is writes = cc

-- the toggle's half stays named
pub names_on : (half : ℕ) (told after : Option Contents) → StaysTold told after → NamesHalf half told → NamesHalf half after
names_on half None None stays names = tt
names_on half None (Some d) stays names = absurd stays
names_on half (Some c) None stays names = absurd stays
names_on half (Some c) (Some d) stays names = let P : Option Said → Type 0 = λ o. MatchOption o (Unit {0}) (λ t. t.half ≡ half) in subst P (sym (same_toggle c d stays.1.0)) names

-- the offer of a toggle and its text
new_offer : (d : Contents) (t : Said) (text : List ℕ) → toggle_of (d 1) ≡ Some t → text_in t.half t.length d ≡ text → offer_of d ≡ Some (record { sequence = t.sequence; good = t.good; text = text })
unfolding toggle_at offer_of
new_offer d t text is here = ap (λ o. offer_by o d) is ∙ ap (λ x. Some (record { sequence = t.sequence; good = t.good; text = x })) here

module _ (half sequence mask : ℕ) (text sector : List ℕ) (is_half : half < 2) (size : length sector ≡ 512) (is : toggle_of sector ≡ Some (record { sequence = sequence; half = 1 - half; length = length text; good = mask })) where
  -- a sector's write is of that sector alone
  others : (c d : Contents) → IsTorn 1 sector c d → (k : ℕ) → 2 ≤ k → d k ≡ c k
  others c d torn k le = torn_out 1 sector c d torn k (inr (omega (arith, size)))

  text_stays : (c d : Contents) → IsTorn 1 sector c d → text_in (1 - half) (length text) c ≡ text → text_in (1 - half) (length text) d ≡ text
  text_stays c d torn has = text_same (1 - half) (length text) c d (λ k le lt. others c d torn k (omega (arith, le))) ∙ has

  there : (c : Contents) → written 1 sector c 1 ≡ sector
  there c = written_in 1 sector c 1 (omega arith) (omega (arith, size)) ∙ take_all 512 sector (omega (arith, size))

  toggle_done : (c d : Contents) → text_in (1 - half) (length text) c ≡ text → ((k : ℕ) → d k ≡ written 1 sector c k) → offer_of d ≡ Some (record { sequence = sequence; good = mask; text = text })
  toggle_done c d has all = new_offer d (record { sequence = sequence; half = 1 - half; length = length text; good = mask }) text (ap toggle_of (all 1 ∙ there c) ∙ is) (text_stays c d (written_torn 1 sector c d all) has)

  toggle_torn : (c d : Contents) → NamesHalf half (Some c) → text_in (1 - half) (length text) c ≡ text → IsTorn 1 sector c d → OffersJust sequence mask text true (Some c) (Some d)
  toggle_torn c d names has torn = (
    torn_out 1 sector c d torn 0 (inl (omega arith)),
    elim (torn 1) [
      | inl same ↦ inl (same_offer half c d names same (λ k le lt. others c d torn k (omega (arith, le))))
      | inr new ↦ inr (refl, new_offer d (record { sequence = sequence; half = 1 - half; length = length text; good = mask }) text (ap toggle_of (new ∙ there c) ∙ is) (text_stays c d torn has))
    ],
    λ k le. others c d torn k (omega (arith, le)),
  )

  toggle_names : (c d : Contents) → ((k : ℕ) → d k ≡ written 1 sector c k) → NamesHalf (1 - half) (Some d)
  unfolding toggle_at
  toggle_names c d all = let P : Option Said → Type 0 = λ o. MatchOption o (Unit {0}) (λ t. t.half ≡ 1 - half) in subst P (sym (ap toggle_of (all 1 ∙ there c) ∙ is)) refl

  module _ {T E : Type 0} where
    pub toggle_told : (told after : Option Contents) (result : Result T E) → NamesHalf half told → HasText (1 - half) text told → Writes 1 sector told after result → OffersJust sequence mask text true told after
    toggle_told None None result names has writes = tt
    toggle_told None (Some d) result names has writes = absurd writes
    toggle_told (Some c) None result names has writes = absurd writes
    toggle_told (Some c) (Some d) (Ok u) names has writes = toggle_torn c d names has (written_torn 1 sector c d writes)
    toggle_told (Some c) (Some d) (Err e) names has writes = toggle_torn c d names has writes

    pub toggle_offer : (told after : Option Contents) (result : Result T E) (u : T) → result ≡ Ok u → HasText (1 - half) text told → Writes 1 sector told after result → MatchOption after (Unit {0}) (λ contents. offer_of contents ≡ Some (record { sequence = sequence; good = mask; text = text }))
    toggle_offer None None result u e has writes = tt
    toggle_offer None (Some d) result u e has writes = absurd writes
    toggle_offer (Some c) None result u e has writes = absurd writes
    toggle_offer (Some c) (Some d) (Ok v) u e has writes = toggle_done c d has writes
    toggle_offer (Some c) (Some d) (Err w) u e has writes = cc

    pub toggle_named : (told after : Option Contents) (result : Result T E) (u : T) → result ≡ Ok u → Writes 1 sector told after result → NamesHalf (1 - half) after
    toggle_named None None result u e writes = tt
    toggle_named None (Some d) result u e writes = absurd writes
    toggle_named (Some c) None result u e writes = absurd writes
    toggle_named (Some c) (Some d) (Ok v) u e writes = toggle_names c d writes
    toggle_named (Some c) (Some d) (Err w) u e writes = cc

    pub toggle_says : (told after : Option Contents) (result : Result T E) (u : T) → result ≡ Ok u → Writes 1 sector told after result → MatchOption after (Unit {0}) (Says sequence mask text (1 - half))
    unfolding toggle_at
    toggle_says None None result u e writes = tt
    toggle_says None (Some d) result u e writes = absurd writes
    toggle_says (Some c) None result u e writes = absurd writes
    toggle_says (Some c) (Some d) (Ok v) u e writes = ap toggle_of (writes 1 ∙ there c) ∙ is
    toggle_says (Some c) (Some d) (Err w) u e writes = cc

  -- the sector of the toggle alone changes, and says the new toggle where it does
  toggle_only : (c d : Contents) → IsTorn 1 sector c d → (k : ℕ) → (k ≡ 1 → ⊥) → d k ≡ c k
  toggle_only c d torn k not = by k not
    where
      by : (j : ℕ) → (j ≡ 1 → ⊥) → d j ≡ c j
      by zero n = torn_out 1 sector c d torn zero (inl (omega arith))
      by (suc zero) n = absurd (n refl)
      by (suc (suc j)) n = others c d torn (suc (suc j)) (omega arith)

  toggle_new : (c d : Contents) → d 1 ≡ written 1 sector c 1 → Says sequence mask text (1 - half) d
  unfolding toggle_at
  toggle_new c d new = ap toggle_of (new ∙ there c) ∙ is

  module _ (old new : DiskSeen) (names : old.half ≡ half) (was : IsTrue old.good) where
    leaves : (c d : Contents) → IsTorn 1 sector c d → ((d 1 ≡ c 1) → IsTrue new.good → new.half ≡ old.half) → ToggleLeaves sequence mask text old new c d
    leaves c d torn same = record {
      toggle = elim (torn 1) [ inl e ↦ inl (e, same e) | inr e ↦ inr (was, subst (λ h. Says sequence mask text (1 - h) d) (sym names) (toggle_new c d e)) ];
      others = toggle_only c d torn;
    }

    -- a write that failed: the half of the disk is as before, or it is not good any more
    pub toggle_failed : {T E : Type 0} (told after : Option Contents) (result : Result T E) → (IsTrue new.good → new.half ≡ old.half) → Writes 1 sector told after result → BothTell (ToggleLeaves sequence mask text old new) told after
    toggle_failed None None result same writes = tt
    toggle_failed None (Some d) result same writes = absurd writes
    toggle_failed (Some c) None result same writes = absurd writes
    toggle_failed (Some c) (Some d) (Ok u) same writes = leaves c d (written_torn 1 sector c d writes) (λ e. same)
    toggle_failed (Some c) (Some d) (Err e) same writes = leaves c d writes (λ e. same)

    pub toggle_there : {T E : Type 0} (told after : Option Contents) (result : Result T E) (u : T) → result ≡ Ok u → Writes 1 sector told after result → BothTell (ToggleLeaves sequence mask text old new) told after
    toggle_there None None result u e writes = tt
    toggle_there None (Some d) result u e writes = absurd writes
    toggle_there (Some c) None result u e writes = absurd writes
    toggle_there (Some c) (Some d) (Ok v) u e writes = record { toggle = inr (was, subst (λ h. Says sequence mask text (1 - h) d) (sym names) (toggle_new c d (writes 1))); others = toggle_only c d (written_torn 1 sector c d writes) }
    toggle_there (Some c) (Some d) (Err w) u e writes = cc

-- the sector that was put says the toggle
pub said_there : (sequence half len mask : ℕ) (out : List ℕ) → out ≡ toggle_sector sequence half len mask → 0 < sequence → sequence < 2 ^ 64 → half < 2 → len ≤ 522240 → mask < 2 ^ 32 → toggle_of out ≡ Some (record { sequence = sequence; half = half; length = len; good = mask })
said_there sequence half len mask out is some fits half_fits len_fits mask_fits = ap toggle_of is ∙ said_back (record { sequence = sequence; half = half; length = len; good = mask }) (record { some = some; sequence = fits; half = half_fits; text = len_fits; good = mask_fits })

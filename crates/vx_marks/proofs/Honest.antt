-- A log that claims no more than its copies show goes on so.
use Rattle.std.proofs.Common.{◌≡◌, ℕ, ◌⊎◌, inl, inr, Bool, true, false, refl, sym, ◌∙◌}
use Rattle.std.specs.Prelude.{◌&&◌, ◌||◌, not, Ok, Err}
use Rattle.vx_mask.specs.Mask.{has}
use Rattle.vx_mask.specs.Marks.{Marks, AllGain, AllLose, MayGain, MayLose}
use Rattle.vx_mask.proofs.MarkLemmas.{tidied_shows, tidied_loose, tidied_still}
use Rattle.vx_mask.proofs.Tests.{not_both, true_or_false, or_from_right, or_cases, and_not, and_not_parts, never_true}
use Rattle.vx_marks.specs.Log.{IsHonest, MayUnclaim}
use Rattle.vx_marks.specs.Laws.{MarkStaysHonest, UnmarkStaysHonest, OthersStayHonest}
use Rattle.vx_marks.specs.declared.marker.MarkFault.TheVariants.{Failed, PowerLost, Busy}

-- ---- one map on one copy: it was shown or not (x), loose (l) and claimed (c)

-- what is claimed stays shown once the loose marks go
swept : (x l c : Bool) → (c ≡ true → x ≡ true) → (l ≡ true → c ≡ false) → c ≡ true → (x && not l) ≡ true
swept x l c shown apart h = and_not x l (shown h) (never_true l c (λ there. apart there) h)

-- what is still shown once the loose marks are gone is claimed
left_claimed : (x l c : Bool) → (x ≡ true → (c ≡ true) ⊎ (l ≡ true)) → (x && not l) ≡ true → c ≡ true
left_claimed x l c bounded h =
    let parts = and_not_parts x l h in
    elim (bounded parts.0) [ inl there ↦ there | inr loose ↦ not_both loose parts.1 ]

pub others_stay : OthersStayHonest
others_stay copies claims old new tidy honest =
    record {
      shown = λ n k inside h.
          elim (tidied_shows old new tidy n k) [
            | inl same ↦ same ∙ honest.shown n k inside h
            | inr gone ↦ not_both h (honest.apart k gone.0)
          ];
      bounded = λ n k inside h.
          elim (tidied_shows old new tidy n k) [
            | inl same ↦ elim (honest.bounded n k inside (sym same ∙ h)) [ inl there ↦ inl there | inr loose ↦ inr (tidied_still old new tidy n k h loose) ]
            | inr gone ↦ not_both h gone.1
          ];
      apart = λ k h. honest.apart k (tidied_loose old new tidy k h);
    }

-- ---- a mark

gained : (copies bits : ℕ) (claims : ℕ → Bool) (old new : Marks) → AllGain bits old new → IsHonest copies claims old → IsHonest copies (λ k. claims k || has bits k) new
gained copies bits claims old new gain honest =
    record {
      shown = λ n k inside h.
          gain.shows n k ∙ elim (or_cases _ _ h) [
            | inl there ↦ or_left _ _ (swept _ _ _ (honest.shown n k inside) (honest.apart k) there)
            | inr there ↦ or_from_right _ _ there
          ];
      bounded = λ n k inside h.
          inl (elim (or_cases _ _ (sym (gain.shows n k) ∙ h)) [
            | inl there ↦ or_left _ _ (left_claimed _ _ _ (honest.bounded n k inside) there)
            | inr there ↦ or_from_right _ _ there
          ]);
      apart = λ k h. not_both h (gain.loose k);
    }
  where
    or_left : (x y : Bool) → x ≡ true → (x || y) ≡ true
    or_left x y h = rw h refl

may_gain : (copies bits : ℕ) (claims : ℕ → Bool) (old new : Marks) → ((k : ℕ) → has bits k ≡ true → claims k ≡ false) →
    MayGain bits old new → IsHonest copies claims old → IsHonest copies claims new
may_gain copies bits claims old new fresh (inl some) honest = others_stay copies claims old new (inl some) honest
may_gain copies bits claims old new fresh (inr some) honest =
    record {
      shown = λ n k inside h.
          elim (some.shows n k) [
            | inl same ↦ same ∙ swept _ _ _ (honest.shown n k inside) (honest.apart k) h
            | inr gains ↦ gains.1
          ];
      bounded = λ n k inside h.
          elim (some.shows n k) [
            | inl same ↦ inl (left_claimed _ _ _ (honest.bounded n k inside) (sym same ∙ h))
            | inr gains ↦ inr (some.loose k ∙ gains.0)
          ];
      apart = λ k h. fresh k (sym (some.loose k) ∙ h);
    }

-- what is claimed counts, map by map
same_claims : (copies : ℕ) (claims claims' : ℕ → Bool) (marks : Marks) → ((k : ℕ) → claims' k ≡ claims k) → IsHonest copies claims marks → IsHonest copies claims' marks
same_claims copies claims claims' marks same honest =
    record {
      shown = λ n k inside h. honest.shown n k inside (sym (same k) ∙ h);
      bounded = λ n k inside h. elim (honest.bounded n k inside h) [ inl there ↦ inl (same k ∙ there) | inr loose ↦ inr loose ];
      apart = λ k h. same k ∙ honest.apart k h;
    }

still_claimed : (bits : ℕ) (claims claims' : ℕ → Bool) → ((k : ℕ) → has bits k ≡ true → claims k ≡ false) → MayUnclaim bits claims claims' → (k : ℕ) → claims' k ≡ claims k
still_claimed bits claims claims' fresh may k =
    elim (true_or_false (has bits k)) [
      | inl asked ↦ none_more _ _ (fresh k asked) (may.fewer k)
      | inr other ↦ may.others k other
    ]
  where
    none_more : (c c' : Bool) → c ≡ false → (c' ≡ true → c ≡ true) → c' ≡ c
    none_more c true none fewer = sym (fewer refl)
    none_more c false none fewer = sym none

mark_fails : (copies bits : ℕ) (claims claims' : ℕ → Bool) (old new : Marks) → ((k : ℕ) → has bits k ≡ true → claims k ≡ false) →
    MayGain bits old new → MayUnclaim bits claims claims' → IsHonest copies claims old → IsHonest copies claims' new
mark_fails copies bits claims claims' old new fresh gain may honest =
    same_claims copies claims claims' new (still_claimed bits claims claims' fresh may) (may_gain copies bits claims old new fresh gain honest)

pub mark_stays : MarkStaysHonest
mark_stays copies bits (Ok u) claims claims' old new fresh gain is honest = same_claims copies _ claims' new is (gained copies bits claims old new gain honest)
mark_stays copies bits (Err (Failed copy device)) claims claims' old new fresh gain may honest = mark_fails copies bits claims claims' old new fresh gain may honest
mark_stays copies bits (Err PowerLost) claims claims' old new fresh gain may honest = mark_fails copies bits claims claims' old new fresh gain may honest
mark_stays copies bits (Err Busy) claims claims' old new fresh same is honest = rw same (same_claims copies claims claims' old is honest)

-- ---- an unmark

lost : (copies bits : ℕ) (claims : ℕ → Bool) (old new : Marks) → AllLose bits old new → IsHonest copies claims old → IsHonest copies (λ k. claims k && not (has bits k)) new
lost copies bits claims old new lose honest =
    record {
      shown = λ n k inside h.
          let parts = and_not_parts _ _ h in
          lose.shows n k ∙ and_not _ _ (swept _ _ _ (honest.shown n k inside) (honest.apart k) parts.0) parts.1;
      bounded = λ n k inside h.
          let parts = and_not_parts _ _ (sym (lose.shows n k) ∙ h) in
          inl (and_not _ _ (left_claimed _ _ _ (honest.bounded n k inside) parts.0) parts.1);
      apart = λ k h. not_both h (lose.loose k);
    }

-- the mark stays claimed, or it is one of those that go
kept_or_going : (c b : Bool) → c ≡ true → ((c && not b) ≡ true) ⊎ (b ≡ true)
kept_or_going c true h = inr refl
kept_or_going c false h = inl (rw h refl)

not_claimed : (c b : Bool) → (b ≡ true) ⊎ (c ≡ false) → (c && not b) ≡ false
not_claimed true b (inl h) = rw h refl
not_claimed false b (inl h) = refl
not_claimed c b (inr h) = rw h refl

may_lose : (copies bits : ℕ) (claims : ℕ → Bool) (old new : Marks) → MayLose bits old new → IsHonest copies claims old →
    IsHonest copies (λ k. claims k && not (has bits k)) new
may_lose copies bits claims old new (inl some) honest =
    record {
      shown = λ n k inside h.
          let parts = and_not_parts _ _ h in
          elim (some.shows n k) [
            | inl same ↦ same ∙ honest.shown n k inside parts.0
            | inr gone ↦ not_both parts.0 (honest.apart k gone.0)
          ];
      bounded = λ n k inside h.
          elim (some.shows n k) [
            | inl same ↦ elim (honest.bounded n k inside (sym same ∙ h)) [
              | inl there ↦ elim (kept_or_going _ _ there) [ inl stays ↦ inl stays | inr goes ↦ inr (some.loose k ∙ or_from_right _ _ goes) ]
              | inr loose ↦ inr (some.loose k ∙ or_left _ _ loose)
            ]
            | inr gone ↦ not_both h gone.1
          ];
      apart = λ k h.
          not_claimed _ _ (elim (or_cases _ _ (sym (some.loose k) ∙ h)) [ inl was ↦ inr (honest.apart k was) | inr goes ↦ inl goes ]);
    }
  where
    or_left : (x y : Bool) → x ≡ true → (x || y) ≡ true
    or_left x y h = rw h refl
may_lose copies bits claims old new (inr some) honest =
    record {
      shown = λ n k inside h.
          let parts = and_not_parts _ _ h in
          elim (some.shows n k) [
            | inl same ↦ same ∙ swept _ _ _ (honest.shown n k inside) (honest.apart k) parts.0
            | inr goes ↦ not_both goes.0 parts.1
          ];
      bounded = λ n k inside h.
          elim (some.shows n k) [
            | inl same ↦
                let there = left_claimed _ _ _ (honest.bounded n k inside) (sym same ∙ h) in
                elim (kept_or_going _ _ there) [ inl stays ↦ inl stays | inr goes ↦ inr (some.loose k ∙ goes) ]
            | inr goes ↦ not_both h goes.1
          ];
      apart = λ k h. not_claimed _ _ (inl (sym (some.loose k) ∙ h));
    }

pub unmark_stays : UnmarkStaysHonest
unmark_stays copies bits (Ok u) claims claims' old new lose is honest = same_claims copies _ claims' new is (lost copies bits claims old new lose honest)
unmark_stays copies bits (Err (Failed copy device)) claims claims' old new lose is honest = same_claims copies _ claims' new is (may_lose copies bits claims old new lose honest)
unmark_stays copies bits (Err PowerLost) claims claims' old new lose is honest = same_claims copies _ claims' new is (may_lose copies bits claims old new lose honest)
unmark_stays copies bits (Err Busy) claims claims' old new same is honest = rw same (same_claims copies claims claims' old is honest)

-- A log that claims no more than its copies show goes on so when a map is set.
use Rattle.std.proofs.Common.{◌≡◌, ◌⊎◌, inl, inr, ℕ, Bool, true, false, sym, ◌∙◌, ap, subst}
use Rattle.std.specs.Prelude.{◌==◌, ◌&&◌, not, if◌then◌else◌}
use Rattle.std.proofs.lemmas.Bool.{eq-eqb}
use Rattle.std.proofs.lemmas.Bool.Decides.{eqb_tells}
use Rattle.vx_mask.specs.Marks.{Marks}
use Rattle.vx_mask.proofs.Tests.{and_not, and_not_parts, both_parts, never_true, not_both}
use Rattle.vx_marks.specs.Log.{IsHonest}
use Rattle.vx_marks.proofs.Honest.{others_stay}
use Rattle.vx_pages.specs.Setting.{Done, Torn, Begun, Still, differ}
use Rattle.vx_pages.proofs.Sets.{same_either}
use Rattle.vx_volume.specs.MapLaws.{SettingStaysHonest}

-- ---- one map on one copy: it was claimed (c), shown (x) and loose (l); `here` says whether it is the one that is set, and `on` to what

swept : (c x l : Bool) → (c ≡ true → x ≡ true) → (l ≡ true → c ≡ false) → c ≡ true → (x && not l) ≡ true
swept c x l shown apart h = and_not x l (shown h) (never_true l c apart h)

left_claimed : (c x l : Bool) → (x ≡ true → (c ≡ true) ⊎ (l ≡ true)) → (x && not l) ≡ true → c ≡ true
left_claimed c x l bounded h =
    let parts = and_not_parts x l h in
    elim (bounded parts.0) [ inl there ↦ there | inr loose ↦ not_both loose parts.1 ]

done_shown : (here on c x l c' x' : Bool) → (c ≡ true → x ≡ true) → (l ≡ true → c ≡ false) → c' ≡ (if here then on else c) → x' ≡ (if here then on else (x && not l)) → c' ≡ true → x' ≡ true
done_shown true on c x l c' x' shown apart claims shows h = shows ∙ sym claims ∙ h
done_shown false on c x l c' x' shown apart claims shows h = shows ∙ swept c x l shown apart (sym claims ∙ h)

done_bounded : (here on c x l c' x' : Bool) → (x ≡ true → (c ≡ true) ⊎ (l ≡ true)) → c' ≡ (if here then on else c) → x' ≡ (if here then on else (x && not l)) → x' ≡ true → c' ≡ true
done_bounded true on c x l c' x' bounded claims shows h = claims ∙ sym shows ∙ h
done_bounded false on c x l c' x' bounded claims shows h = claims ∙ left_claimed c x l bounded (sym shows ∙ h)

torn_shown : (here on c x l c' x' : Bool) → (c ≡ true → x ≡ true) → (l ≡ true → c ≡ false) → c' ≡ (if here then (c && on) else c) → (x' ≡ (x && not l)) ⊎ ((here ≡ true) × (x' ≡ on)) → c' ≡ true → x' ≡ true
torn_shown true on c x l c' x' shown apart claims (inl is) h = is ∙ swept c x l shown apart (both_parts c on (sym claims ∙ h)).0
torn_shown true on c x l c' x' shown apart claims (inr is) h = is.1 ∙ (both_parts c on (sym claims ∙ h)).1
torn_shown false on c x l c' x' shown apart claims (inl is) h = is ∙ swept c x l shown apart (sym claims ∙ h)
torn_shown false on c x l c' x' shown apart claims (inr is) h = cc

either_way : (on c c' l' : Bool) → c' ≡ (c && on) → l' ≡ differ c on → (c ≡ true) ⊎ (on ≡ true) → (c' ≡ true) ⊎ (l' ≡ true)
either_way true true c' l' claims loose some = inl claims
either_way true false c' l' claims loose some = inr loose
either_way false true c' l' claims loose some = inr loose
either_way false false c' l' claims loose (inl there) = cc
either_way false false c' l' claims loose (inr there) = cc

torn_bounded : (here on c x l c' x' l' : Bool) → (x ≡ true → (c ≡ true) ⊎ (l ≡ true)) → c' ≡ (if here then (c && on) else c) → (x' ≡ (x && not l)) ⊎ ((here ≡ true) × (x' ≡ on)) → l' ≡ (here && differ c on) → x' ≡ true →
    (c' ≡ true) ⊎ (l' ≡ true)
torn_bounded true on c x l c' x' l' bounded claims (inl is) loose h = either_way on c c' l' claims loose (inl (left_claimed c x l bounded (sym is ∙ h)))
torn_bounded true on c x l c' x' l' bounded claims (inr is) loose h = either_way on c c' l' claims loose (inr (sym is.1 ∙ h))
torn_bounded false on c x l c' x' l' bounded claims (inl is) loose h = inl (claims ∙ left_claimed c x l bounded (sym is ∙ h))
torn_bounded false on c x l c' x' l' bounded claims (inr is) loose h = cc

torn_apart : (here on c c' l' : Bool) → c' ≡ (if here then (c && on) else c) → l' ≡ (here && differ c on) → l' ≡ true → c' ≡ false
torn_apart true true true c' l' claims loose h = cc
torn_apart true false true c' l' claims loose h = claims
torn_apart true on false c' l' claims loose h = claims
torn_apart false on c c' l' claims loose h = cc

-- what is claimed counts, map by map
same_claims : (copies : ℕ) (claims claims' : ℕ → Bool) (marks : Marks) → ((k : ℕ) → claims' k ≡ claims k) → IsHonest copies claims marks → IsHonest copies claims' marks
same_claims copies claims claims' marks same honest =
    record {
      shown = λ n k inside h. honest.shown n k inside (sym (same k) ∙ h);
      bounded = λ n k inside h. elim (honest.bounded n k inside h) [ inl there ↦ inl (same k ∙ there) | inr loose ↦ inr loose ];
      apart = λ k h. same k ∙ honest.apart k h;
    }

pub setting_stays : SettingStaysHonest
setting_stays copies map Done on claims claims' old new is marks honest =
    record {
      shown = λ n k inside h. done_shown (k == map) on (claims k) (old.shows n k) (old.loose k) _ _ (honest.shown n k inside) (honest.apart k) (is k) (marks.shows n k) h;
      bounded = λ n k inside h. inl (done_bounded (k == map) on (claims k) (old.shows n k) (old.loose k) _ _ (honest.bounded n k inside) (is k) (marks.shows n k) h);
      apart = λ k h. not_both h (marks.loose k);
    }
setting_stays copies map Torn on claims claims' old new is marks honest =
    record {
      shown = λ n k inside h. torn_shown (k == map) on (claims k) (old.shows n k) (old.loose k) _ _ (honest.shown n k inside) (honest.apart k) (is k) (shows n k) h;
      bounded = λ n k inside h. torn_bounded (k == map) on (claims k) (old.shows n k) (old.loose k) _ _ _ (honest.bounded n k inside) (is k) (shows n k) (loose k) h;
      apart = λ k h. torn_apart (k == map) on (claims k) _ _ (is k) (loose k) h;
    }
  where
    shows : (n k : ℕ) → (new.shows n k ≡ (old.shows n k && not (old.loose k))) ⊎ (((k == map) ≡ true) × (new.shows n k ≡ on))
    shows n k = elim (marks.shows n k) [ inl same ↦ inl same | inr set ↦ inr (eq-eqb k map set.0, set.1) ]

    loose : (k : ℕ) → new.loose k ≡ ((k == map) && differ (claims k) on)
    loose k =
        marks.loose k
        ∙ elim (eqb_tells k map) [
          | inl same ↦ ap (λ (j : ℕ). (k == map) && differ (claims j) on) (sym same.1)
          | inr other ↦ ap (λ (b : Bool). b && differ (claims map) on) other.0 ∙ sym (ap (λ (b : Bool). b && differ (claims k) on) other.0)
        ]
setting_stays copies map Begun on claims claims' old new is marks honest =
    same_claims copies claims claims' new (λ k. is k ∙ sym (same_either (k == map) (claims k))) (others_stay copies claims old new (inl marks) honest)
setting_stays copies map Still on claims claims' old new is marks honest =
    same_claims copies claims claims' new (λ k. is k ∙ sym (same_either (k == map) (claims k))) (subst (λ (m : Marks). IsHonest copies claims m) (sym marks) honest)

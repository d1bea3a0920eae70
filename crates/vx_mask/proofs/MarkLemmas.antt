-- What follows of marks that change.
use Rattle.std.proofs.Common.{◌≡◌, ℕ, ◌⊎◌, inl, inr, Bool, true, false, refl, sym, ◌∙◌}
use Rattle.std.specs.Prelude.{◌&&◌, ◌||◌, not}
use Rattle.vx_mask.specs.Mask.{has}
use Rattle.vx_mask.specs.Marks.{Marks, AllGain, AllLose, SomeLoseLoose, MayTidy}
use Rattle.vx_mask.proofs.MaskLemmas.{has-zero}
use Rattle.vx_mask.proofs.Tests.{not_both, or_from_left, or_cases, and_not_parts}

or_zero : (b z : Bool) → z ≡ false → b ≡ (b || z)
or_zero true z none = refl
or_zero false z none = sym none

-- nothing changes
pub lose_none : (m : Marks) → SomeLoseLoose 0 m m
lose_none m = record { shows = λ n k. inl refl; loose = λ k. or_zero (m.loose k) (has 0 k) (has-zero k) }

pub tidy_same : (m : Marks) → MayTidy m m
tidy_same m = inl (lose_none m)

-- what is tidied shows no more than before, ..
pub tidied_shows : (a b : Marks) → MayTidy a b → (n k : ℕ) → (b.shows n k ≡ a.shows n k) ⊎ ((a.loose k ≡ true) × (b.shows n k ≡ false))
tidied_shows a b (inl some) n k = some.shows n k
tidied_shows a b (inr all) n k = lost (a.shows n k) (a.loose k) (has 0 k) (b.shows n k) (has-zero k) (all.shows n k)
  where
    lost : (x l z now : Bool) → z ≡ false → now ≡ ((x && not l) && not z) → (now ≡ x) ⊎ ((l ≡ true) × (now ≡ false))
    lost true true z now none is = inr (refl, is)
    lost true false true now none is = cc
    lost true false false now none is = inl is
    lost false l z now none is = inl is

-- .. has no more loose marks, ..
pub tidied_loose : (a b : Marks) → MayTidy a b → (k : ℕ) → b.loose k ≡ true → a.loose k ≡ true
tidied_loose a b (inl some) k h = elim (or_cases _ _ (sym (some.loose k) ∙ h)) [ inl was ↦ was | inr never ↦ not_both never (has-zero k) ]
tidied_loose a b (inr all) k h = not_both h (all.loose k)

-- .. and a mark that was loose and is still shown is still loose
pub tidied_still : (a b : Marks) → MayTidy a b → (n k : ℕ) → b.shows n k ≡ true → a.loose k ≡ true → b.loose k ≡ true
tidied_still a b (inl some) n k h was = some.loose k ∙ or_from_left _ _ was
tidied_still a b (inr all) n k h was = not_both was (and_not_parts _ _ (and_not_parts _ _ (sym (all.shows n k) ∙ h)).0).1

now_loose : (x y z : Bool) → z ≡ false → x ≡ (y || z) → x ≡ y
now_loose x true z none is = is
now_loose x false z none is = is ∙ none

still_loose : (a b : Marks) (k : ℕ) → SomeLoseLoose 0 a b → b.loose k ≡ a.loose k
still_loose a b k h = now_loose _ _ _ (has-zero k) (h.loose k)

-- marks that are tidied twice are tidied
pub tidy_more : (a b c : Marks) → MayTidy a b → MayTidy b c → MayTidy a c
tidy_more a b c (inl first) (inl last) =
    inl (record {
      shows = λ n k.
          elim (last.shows n k) [
            | inl kept ↦ elim (first.shows n k) [ inl was ↦ inl (kept ∙ was) | inr gone ↦ inr (gone.0, kept ∙ gone.1) ]
            | inr gone ↦ inr (sym (still_loose a b k first) ∙ gone.0, gone.1)
          ];
      loose = λ k. still_loose b c k last ∙ still_loose a b k first ∙ or_zero (a.loose k) (has 0 k) (has-zero k);
    })
tidy_more a b c (inl first) (inr last) =
    inr (record {
      shows = λ n k. last.shows n k ∙ swept (a.shows n k) (b.shows n k) (a.loose k) (b.loose k) (has 0 k) (first.shows n k) (still_loose a b k first);
      loose = last.loose;
    })
  where
    swept : (x y l m z : Bool) → (y ≡ x) ⊎ ((l ≡ true) × (y ≡ false)) → m ≡ l → ((y && not m) && not z) ≡ ((x && not l) && not z)
    swept true true l m z (inl kept) same = rw same refl
    swept true false l m z (inl kept) same = cc
    swept false true l m z (inl kept) same = cc
    swept false false l m z (inl kept) same = refl
    swept true true l m z (inr gone) same = cc
    swept true false l m z (inr gone) same = rw gone.0 refl
    swept false true l m z (inr gone) same = cc
    swept false false l m z (inr gone) same = refl
tidy_more a b c (inr first) (inl last) =
    inr (record {
      shows = λ n k. elim (last.shows n k) [ inl kept ↦ kept ∙ first.shows n k | inr gone ↦ not_both gone.0 (first.loose k) ];
      loose = λ k. still_loose b c k last ∙ first.loose k;
    })
tidy_more a b c (inr first) (inr last) =
    inr (record {
      shows = λ n k. last.shows n k ∙ twice (a.shows n k && not (a.loose k)) (b.shows n k) (b.loose k) (has 0 k) (has-zero k) (first.loose k) (first.shows n k);
      loose = last.loose;
    })
  where
    twice : (x y m z : Bool) → z ≡ false → m ≡ false → y ≡ (x && not z) → ((y && not m) && not z) ≡ (x && not z)
    twice x y m true none clean is = cc
    twice x y true false none clean is = cc
    twice true true false false none clean is = refl
    twice true false false false none clean is = cc
    twice false true false false none clean is = cc
    twice false false false false none clean is = refl

-- a mark that was answered well is on every copy, ..
pub gained_shows : (b : ℕ) (old now : Marks) → AllGain b old now → (n k : ℕ) → has b k ≡ true → now.shows n k ≡ true
gained_shows b old now gain n k there = gain.shows n k ∙ or_last _ _ there
  where
    or_last : (x y : Bool) → y ≡ true → (x || y) ≡ true
    or_last true y h = refl
    or_last false y h = h

-- .. and an unmark on none
pub lost_shows : (b : ℕ) (old now : Marks) → AllLose b old now → (n k : ℕ) → has b k ≡ true → now.shows n k ≡ false
lost_shows b old now lost n k there = lost.shows n k ∙ and_last _ _ there
  where
    and_last : (x y : Bool) → y ≡ true → (x && not y) ≡ false
    and_last true y h = rw h refl
    and_last false y h = refl

-- Entries in the order of their numbers keep the order of a history.
use Rattle.std.proofs.Common.{◌++◌}
use Rattle.std.proofs.lemmas.List.{reverse-append}
use Rattle.std.specs.Prelude.{reverse}
use Rattle.vx_life.specs.Candidates.{Candidates}
use Rattle.vx_life.specs.Entry.{IsHistory, IsLegal, ReadsAmong, candidates_after, candidates_of}
use Rattle.std.proofs.Common.{◌≡◌, ◌≢◌, ℕ, ◌+◌, ◌<◌, ◌≤◌, ◌⊎◌, inl, inr, Bool, refl, sym, ◌∙◌, ap, subst, arith, List, [], ◌∷◌}
use Rattle.std.specs.Prelude.{◌&&◌, ◌==◌}
use Rattle.vx_life.specs.Entry.{Entry}
use Rattle.vx_mask.proofs.Sets.{same_or_not}
use Rattle.vx_core.specs.History.{AreCounted, AreOrdered, AllOf, MayPrecede}
use Rattle.std.proofs.lemmas.Bool.Decides.{nat_tests}
use Rattle.std.proofs.lemmas.List.Elements.{Contains-append_cases, Contains-push_cases}
use Rattle.std.proofs.lemmas.List.Sums.{sum_by-cons}
use Rattle.std.specs.Prelude.{◌-◌, Contains, if◌then◌else◌}
use Rattle.vx_life.specs.Order.{entries_in, entries_at, is_counted, AreNumbered, AreInOrder, IsInOrder}

in_none : (e : Entry) → Contains [] e → ⊥
in_none e there = omega (arith, there.1)

in_cons : (x : Entry) (xs : List Entry) (e : Entry) → Contains (x ∷ xs) e → (x ≡ e) ⊎ Contains xs e
in_cons x xs e there =
    elim (Contains-append_cases (x ∷ []) xs e there) [
      | inl head ↦ elim (Contains-push_cases [] x e head) [ inl none ↦ absurd (in_none e none) | inr same ↦ inl same ]
      | inr rest ↦ inr rest
    ]

-- no number of the entries passes the last
at_most : (region from last : ℕ) (es : List Entry) → AreCounted region from es last → AllOf (λ e. e.part.number ≤ last) es
at_most region from last [] h = tt
at_most region from last (e ∷ es) h = (omega (arith, h.1), more last es (at_most region from (last - 1) es h.3))
  where
    more : (last : ℕ) (es : List Entry) → AllOf (λ e. e.part.number ≤ last - 1) es → AllOf (λ e. e.part.number ≤ last) es
    more last [] h = tt
    more last (e ∷ es) h = (omega (arith, h.0), more last es h.1)

-- ---- how many there are

-- one where the test holds
abbrev one_if : Bool → ℕ
one_if b = if b then 1 else 0

in_one_more : (region : ℕ) (e : Entry) (es : List Entry) → entries_in region (e ∷ es) ≡ one_if (e.part.region == region) + entries_in region es
in_one_more region e es = sum_by-cons (λ x. one_if (x.part.region == region)) e es

at_one_more : (region number : ℕ) (e : Entry) (es : List Entry) → entries_at region number (e ∷ es) ≡ one_if ((e.part.region == region) && (e.part.number == number)) + entries_at region number es
at_one_more region number e es = sum_by-cons (λ x. one_if ((x.part.region == region) && (x.part.number == number))) e es

-- the region has as many entries as the last number says
all_here : (region last : ℕ) (es : List Entry) → AreCounted region 0 es last → entries_in region es ≡ last
all_here region last [] h = sym h
all_here region last (e ∷ es) h = in_one_more region e es ∙ one_more e.part.region region (entries_in region es) last h.0 (all_here region (last - 1) es h.3) h.2
  where
    one_more : (r region n last : ℕ) → r ≡ region → n ≡ last - 1 → 0 < last → one_if (r == region) + n ≡ last
    one_more r region n last here is some = grind (arith, nat_tests)

-- and another region has none
none_there : (region other last : ℕ) (es : List Entry) → other ≢ region → AreCounted region 0 es last → entries_in other es ≡ 0
none_there region other last [] apart h = refl
none_there region other last (e ∷ es) apart h =
    in_one_more other e es ∙ no_more e.part.region other (entries_in other es) (λ is. apart (sym is ∙ h.0)) (none_there region other (last - 1) es apart h.3)
  where
    no_more : (r other n : ℕ) → r ≢ other → n ≡ 0 → one_if (r == other) + n ≡ 0
    no_more r other n apart none = grind (arith, nat_tests)

-- each number from 1 to the last stands once
once : (region last number : ℕ) (es : List Entry) → AreCounted region 0 es last → entries_at region number es ≡ one_if (is_counted last number)
once region last number [] h = none_of last number h
  where
    none_of : (last number : ℕ) → last ≡ 0 → 0 ≡ one_if (is_counted last number)
    none_of last number e = grind (arith, nat_tests)
once region last number (e ∷ es) h =
    at_one_more region number e es ∙ once_more e.part.region region e.part.number number last (entries_at region number es) h.0 h.1 h.2 (once region (last - 1) number es h.3)
  where
    once_more : (r region n number last rest : ℕ) → r ≡ region → n ≡ last → 0 < last → rest ≡ one_if (is_counted (last - 1) number) →
        one_if ((r == region) && (n == number)) + rest ≡ one_if (is_counted last number)
    once_more r region n number last rest here at some is = grind (arith, nat_tests)

never_there : (region other last number : ℕ) (es : List Entry) → other ≢ region → AreCounted region 0 es last → entries_at other number es ≡ 0
never_there region other last number [] apart h = refl
never_there region other last number (e ∷ es) apart h =
    at_one_more other number e es ∙ no_more e.part.region other e.part.number number (entries_at other number es) (λ is. apart (sym is ∙ h.0)) (never_there region other (last - 1) number es apart h.3)
  where
    no_more : (r other n number rest : ℕ) → r ≢ other → rest ≡ 0 → one_if ((r == other) && (n == number)) + rest ≡ 0
    no_more r other n number rest apart none = grind (arith, nat_tests)

none_counted : (n number : ℕ) → n ≡ 0 → one_if (is_counted n number) ≡ 0
none_counted n number e = grind (arith, nat_tests)

numbered : (region last : ℕ) (es : List Entry) → AreCounted region 0 es last → AreNumbered es
numbered region last es h other number =
    elim (same_or_not region other) [
      | inl here ↦
          subst (λ (r : ℕ). entries_at r number es ≡ one_if (is_counted (entries_in r es) number)) (sym here)
          (once region last number es h ∙ ap (λ n. one_if (is_counted n number)) (sym (all_here region last es h)))
      | inr apart ↦
          never_there region other last number es apart h ∙ sym (none_counted (entries_in other es) number (none_there region other last es apart h))
    ]

-- ---- the order of two

-- the first entry stands before the second in their region
abbrev IsEarlier : Entry → Entry → Type 0
IsEarlier d e = (d.part.region ≡ e.part.region) × (d.part.number < e.part.number) × MayPrecede e.session e.place e.part.epoch d

all_at : (fact : Entry → Type 0) (es : List Entry) (e : Entry) → AllOf fact es → Contains es e → fact e
all_at fact [] e all there = absurd (in_none e there)
all_at fact (x ∷ xs) e all there = elim (in_cons x xs e there) [ inl same ↦ subst fact same all.0 | inr rest ↦ all_at fact xs e all.1 rest ]

in_region : (region from last : ℕ) (es : List Entry) → AreCounted region from es last → AllOf (λ e. e.part.region ≡ region) es
in_region region from last [] h = tt
in_region region from last (e ∷ es) h = (h.0, in_region region from (last - 1) es h.3)

-- an entry behind the newest is earlier than it
behind : (region from last : ℕ) (x : Entry) (xs : List Entry) → AreCounted region from (x ∷ xs) last → AreOrdered (x ∷ xs) → (e : Entry) → Contains xs e → IsEarlier e x
behind region from last x xs counted ordered e there = (
  all_at (λ y. y.part.region ≡ region) xs e (in_region region from (last - 1) xs counted.3) there ∙ sym counted.0,
  less e.part.number x.part.number last (all_at (λ y. y.part.number ≤ last - 1) xs e (at_most region from (last - 1) xs counted.3) there) counted.1 (some from last counted.2),
  all_at (MayPrecede x.session x.place x.part.epoch) xs e ordered.0 there,
)
  where
    less : (n m last : ℕ) → n ≤ last - 1 → m ≡ last → 0 < last → n < m
    less n m last le e some = omega (arith, le, e, some)

    some : (from last : ℕ) → from < last → 0 < last
    some from last h = omega (arith, h)

-- two of the entries are one, or one of them is earlier
pair : (region from last : ℕ) (es : List Entry) → AreCounted region from es last → AreOrdered es → (d e : Entry) → Contains es d → Contains es e →
    (d ≡ e) ⊎ (IsEarlier d e ⊎ IsEarlier e d)
pair region from last [] counted ordered d e in_d in_e = absurd (in_none d in_d)
pair region from last (x ∷ xs) counted ordered d e in_d in_e =
    elim (in_cons x xs d in_d) [
      | inl d_new ↦
          elim (in_cons x xs e in_e) [
            | inl e_new ↦ inl (sym d_new ∙ e_new)
            | inr e_old ↦ inr (inr (subst (λ (y : Entry). IsEarlier e y) d_new (behind region from last x xs counted ordered e e_old)))
          ]
      | inr d_old ↦
          elim (in_cons x xs e in_e) [
            | inl e_new ↦ inr (inl (subst (λ (y : Entry). IsEarlier d y) e_new (behind region from last x xs counted ordered d d_old)))
            | inr e_old ↦ pair region from (last - 1) xs counted.3 ordered.1 d e d_old e_old
          ]
    ]

not_before_itself : {A : Type 0} (place region : ℕ) → (place < place) ⊎ ((place ≡ place) × (region < region)) → A
not_before_itself place region (inl h) = absurd (omega (arith, h))
not_before_itself place region (inr h) = absurd (omega (arith, h.1))

itself : (e : Entry) → AreInOrder e e
itself e =
    record {
      in_region = λ here less. omega arith;
      epochs = λ same before. omega arith;
      numbers = λ same before here. not_before_itself e.place e.part.region before;
    }

not_after : {A : Type 0} (d e d_region e_region : ℕ) → (d < e) ⊎ ((d ≡ e) × (d_region < e_region)) → e < d → A
not_after d e d_region e_region (inl h) less = absurd (omega (arith, h, less))
not_after d e d_region e_region (inr h) less = absurd (omega (arith, h.0, less))

not_less : {A : Type 0} (n m : ℕ) → n < m → m < n → A
not_less n m h less = absurd (omega (arith, h, less))

of_pair : (d e : Entry) → (d ≡ e) ⊎ (IsEarlier d e ⊎ IsEarlier e d) → AreInOrder d e
of_pair d e (inl same) = subst (λ (y : Entry). AreInOrder d y) same (itself d)
of_pair d e (inr (inl h)) = record { in_region = λ here less. h.2.0; epochs = λ same before. h.2.0; numbers = λ same before here. h.1 }
of_pair d e (inr (inr h)) =
    record {
      in_region = λ here less. not_less d.part.number e.part.number less h.1;
      epochs = λ same before. not_after d.place e.place d.part.region e.part.region before (h.2.1 (sym same));
      numbers = λ same before here. not_after d.place e.place d.part.region e.part.region before (h.2.1 (sym same));
    }

-- entries that are numbered from 1 on, and each of which may come after those before it, keep the order of a history
pub in_order : (region last : ℕ) (es : List Entry) → AreCounted region 0 es last → AreOrdered es → IsInOrder es
in_order region last es counted ordered =
    record { numbered = numbered region last es counted; pairs = λ d e in_d in_e. of_pair d e (pair region 0 last es counted ordered d e in_d in_e) }

-- ---- the oldest first

-- the candidates after these entries, the oldest first
abbrev forward : Candidates → List Entry → Candidates
forward first [] = first
forward first (e ∷ es) = forward (candidates_after e first) es

forward_push : (first : Candidates) (xs : List Entry) (e : Entry) → forward first (xs ++ e ∷ []) ≡ candidates_after e (forward first xs)
forward_push first [] e = refl
forward_push first (x ∷ xs) e = forward_push (candidates_after x first) xs e

forward_reverse : (first : Candidates) (es : List Entry) → forward first (reverse es) ≡ candidates_of first es
forward_reverse first [] = refl
forward_reverse first (e ∷ es) =
    ap (forward first) (reverse-append (e ∷ []) es) ∙ forward_push first (reverse es) e ∙ ap (candidates_after e) (forward_reverse first es)

legal_push : (first : Candidates) (xs : List Entry) (e : Entry) → IsLegal first xs → ReadsAmong e.kind (forward first xs) e → IsLegal first (xs ++ e ∷ [])
legal_push first [] e h reads = (reads, tt)
legal_push first (x ∷ xs) e h reads = (h.0, legal_push (candidates_after x first) xs e h.1 reads)

-- a history told with the newest entry first is legal in its order
pub history_legal : (first : Candidates) (es : List Entry) → IsHistory first es → IsLegal first (reverse es)
history_legal first [] h = tt
history_legal first (e ∷ es) h =
    subst (λ (xs : List Entry). IsLegal first xs) (sym (reverse-append (e ∷ []) es))
    (legal_push first (reverse es) e (history_legal first es h.1) (subst (λ (c : Candidates). ReadsAmong e.kind c e) (sym (forward_reverse first es)) h.0))

-- The order of names, byte by byte.
use Rattle.std.proofs.Common.{◌≡◌, true, false, Ordering, Less, Equal, Greater, sym, ap, ◌∙◌, is_lt, nat_cmp, refl, subst, inl, inr}
use Rattle.std.specs.Ordering.{ordering_reverse}
use Rattle.std.specs.Cmp.Lexicographic.{slice_cmp}
use Rattle.std.proofs.lemmas.Bool.{false≢true, false_from_ne_true, cases_Bool}
use Rattle.std.proofs.lemmas.Cmp.{nat_list_cmp_total, tied_itself}
use Rattle.std.proofs.lemmas.Map.Lookups.{exact_bytes}
use Rattle.vx_base.specs.Named.{Word}
use Rattle.vx_config_parts.specs.Objects.{comes_before}

is_less : (o : Ordering) → is_lt o ≡ true → o ≡ Less
is_less Less h = refl
is_less Equal h = absurd (false≢true h)
is_less Greater h = absurd (false≢true h)

pub before_itself : (a : Word) → comes_before a a ≡ false
before_itself a = ap is_lt (tied_itself nat_list_cmp_total a)

pub before_later : (a b c : Word) → comes_before a b ≡ true → comes_before b c ≡ true → comes_before a c ≡ true
before_later a b c h k = ap is_lt (nat_list_cmp_total.trans a b c (is_less (slice_cmp nat_cmp a b) h) (is_less (slice_cmp nat_cmp b c) k))

-- not one behind the other
pub not_before : (a b : Word) → comes_before a b ≡ true → comes_before b a ≡ false
not_before a b h = false_from_ne_true _ (λ k. false≢true (sym (before_itself a) ∙ before_later a b a h k))

tied_by : (o r : Ordering) → o ≡ ordering_reverse r → is_lt o ≡ false → is_lt r ≡ false → o ≡ Equal
tied_by Less r e h k = absurd (false≢true (sym h))
tied_by Equal r e h k = refl
tied_by Greater Less e h k = absurd (false≢true (sym k))
tied_by Greater Equal e h k = absurd (cc)
tied_by Greater Greater e h k = absurd (cc)

-- two of which none comes before the other are one
pub same_place : (a b : Word) → comes_before a b ≡ false → comes_before b a ≡ false → a ≡ b
same_place a b h k = exact_bytes a b (tied_by (slice_cmp nat_cmp a b) (slice_cmp nat_cmp b a) (nat_list_cmp_total.antisymm a b) h k)

-- what is not before one that comes before a third comes before it too
pub up_to_before : (a b c : Word) → comes_before b a ≡ false → comes_before b c ≡ true → comes_before a c ≡ true
up_to_before a b c h k =
    elim (cases_Bool (comes_before a b)) [
      | inl first ↦ before_later a b c first k
      | inr other ↦ subst (λ n. comes_before n c ≡ true) (same_place b a h other) k
    ]

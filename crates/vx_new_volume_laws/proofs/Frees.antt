-- Free extents: no two have one sector.
use Rattle.std.proofs.Common.{◌≡◌, ◌⊎◌, ℕ, ◌+◌, ◌<◌, ◌≤◌, nat_le, nat_lt, Bool, true, false, cond, ◌&&◌, List, [], ◌∷◌, refl, sym, ◌∙◌, subst, inl, inr, arith}
use Rattle.std.specs.Str.{bytes_eq}
use Rattle.std.proofs.lemmas.Bool.{false≢true, and_from, and_parts, false_from_ne_true, leb-true, lt-ltb, ltb-true, or_cases, or_left, or_right}
use Rattle.vx_base.specs.Named.{Word}
use Rattle.vx_base.proofs.NamedLemmas.{bytes_eq_self, bytes_eq_same}
use Rattle.vx_config_parts.specs.Objects.{comes_before}
use Rattle.vx_rules.proofs.ListTests.{any_count, count_none}
use Rattle.vx_rules.proofs.NameOrder.{before_itself, before_later}
use Rattle.vx_image.proofs.PlexMembers.{IsIn}
use Rattle.vx_space.specs.declared.extent.Extent.{Extent}
use Rattle.vx_space.specs.Extents.{are_in_order, comes_behind, has_sector, is_listed, next_is_behind}
use Rattle.vx_new_volume_laws.proofs.Lists.{none_any}
use Rattle.vx_new_volume_laws.proofs.Hits.{hits, hits_one}

pub same_eq : (a b : Word) → a ≡ b → bytes_eq a b ≡ true
same_eq a b e = subst (λ (w : Word). bytes_eq a w ≡ true) e (bytes_eq_self a)

-- on the same disk behind the end
on_same : (e f : Extent) → e.disk ≡ f.disk → e.start + e.count < f.start → comes_behind e f ≡ true
on_same e f same lt = or_right (comes_before e.disk f.disk) (bytes_eq e.disk f.disk && nat_lt (e.start + e.count) f.start) (and_from (bytes_eq e.disk f.disk) (nat_lt (e.start + e.count) f.start) (same_eq e.disk f.disk same) (lt-ltb (e.start + e.count) f.start lt))

on_later : (e f : Extent) → comes_before e.disk f.disk ≡ true → comes_behind e f ≡ true
on_later e f h = or_left (comes_before e.disk f.disk) (bytes_eq e.disk f.disk && nat_lt (e.start + e.count) f.start) h

-- the second is on a later disk, or behind on the same
pub behind_cases : (e f : Extent) → comes_behind e f ≡ true → (comes_before e.disk f.disk ≡ true) ⊎ ((e.disk ≡ f.disk) × (e.start + e.count < f.start))
behind_cases e f h = elim (or_cases (comes_before e.disk f.disk) (bytes_eq e.disk f.disk && nat_lt (e.start + e.count) f.start) h) [
  | inl before ↦ inl before
  | inr same ↦ let parts = and_parts (bytes_eq e.disk f.disk) (nat_lt (e.start + e.count) f.start) same in inr (bytes_eq_same e.disk f.disk parts.0, ltb-true (e.start + e.count) f.start parts.1)
]

behind_later : (e f g : Extent) → comes_behind e f ≡ true → comes_behind f g ≡ true → comes_behind e g ≡ true
behind_later e f g h k = elim (behind_cases e f h) [
  | inl a ↦ elim (behind_cases f g k) [
    | inl b ↦ on_later e g (before_later e.disk f.disk g.disk a b)
    | inr b ↦ on_later e g (subst (λ (w : Word). comes_before e.disk w ≡ true) b.0 a)
  ]
  | inr a ↦ elim (behind_cases f g k) [
    | inl b ↦ on_later e g (subst (λ (w : Word). comes_before w g.disk ≡ true) (sym a.0) b)
    | inr b ↦ let x = a.1 in let y = b.1 in on_same e g (a.0 ∙ b.0) (omega (arith, x, y))
  ]
]

pub all_behind : (e : Extent) (es : List Extent) → next_is_behind e es ≡ true → are_in_order es ≡ true → (f : Extent) → IsIn es f → comes_behind e f ≡ true
all_behind e [] next order f there = absurd there
all_behind e (g ∷ es) next order f (inl same) = subst (λ (x : Extent). comes_behind e x ≡ true) (sym same) next
all_behind e (g ∷ es) next order f (inr there) =
    let parts = and_parts (nat_lt 0 g.count) (next_is_behind g es && are_in_order es) order in
    let more = and_parts (next_is_behind g es) (are_in_order es) parts.1 in
    behind_later e g f next (all_behind g es more.0 more.1 f there)

-- where the sector lies in the extent
record HasIt (d : Word) (x : ℕ) (e : Extent) : Type 0 where
  disk : e.disk ≡ d
  from : e.start ≤ x
  below : x < e.start + e.count

has_it : (d : Word) (x : ℕ) (e : Extent) → has_sector d x e ≡ true → HasIt d x e
has_it d x e h =
    let parts = and_parts (bytes_eq e.disk d) (nat_le e.start x && nat_lt x (e.start + e.count)) h in
    let more = and_parts (nat_le e.start x) (nat_lt x (e.start + e.count)) parts.1 in
    record { disk = bytes_eq_same e.disk d parts.0; from = leb-true e.start x more.0; below = ltb-true x (e.start + e.count) more.1 }

not_both : (d : Word) (x : ℕ) (e f : Extent) → comes_behind e f ≡ true → has_sector d x e ≡ true → has_sector d x f ≡ true → ⊥
not_both d x e f h own other =
    let a = has_it d x e own in
    let b = has_it d x f other in
    elim (behind_cases e f h) [
      | inl before ↦ false≢true (sym (before_itself d) ∙ subst (λ (w : Word). comes_before d w ≡ true) b.disk (subst (λ (w : Word). comes_before w f.disk ≡ true) a.disk before))
      | inr behind ↦ let lt = behind.1 in let p = a.below in let q = b.from in absurd (omega (arith, lt, p, q))
    ]

-- each sector is in one extent at most
pub hits_once : (d : Word) (x : ℕ) (es : List Extent) → are_in_order es ≡ true → hits d x es ≤ 1
hits_once d x [] order = omega arith
hits_once d x (e ∷ es) order = by (has_sector d x e) refl (hits_one d x e es) (λ more. hits_once d x es more)
  where
    parts : (nat_lt 0 e.count ≡ true) × ((next_is_behind e es && are_in_order es) ≡ true)
    parts = and_parts (nat_lt 0 e.count) (next_is_behind e es && are_in_order es) order

    more : (next_is_behind e es ≡ true) × (are_in_order es ≡ true)
    more = and_parts (next_is_behind e es) (are_in_order es) parts.1

    by : (b : Bool) → has_sector d x e ≡ b → hits d x (e ∷ es) ≡ cond b 1 0 + hits d x es → (are_in_order es ≡ true → hits d x es ≤ 1) → hits d x (e ∷ es) ≤ 1
    by true here sum on =
        let none = count_none (has_sector d x) es (none_any (has_sector d x) es (λ f there. false_from_ne_true (has_sector d x f) (λ other. not_both d x e f (all_behind e es more.0 more.1 f there) here other))) in
        omega (arith, sum, none)
    by false here sum on = let rest = on more.1 in omega (arith, sum, rest)

-- a sector that is hit is listed
pub hit_listed : (d : Word) (x : ℕ) (es : List Extent) → 1 ≤ hits d x es → is_listed es d x ≡ true
hit_listed d x es some = any_count (has_sector d x) es ∙ lt-ltb 0 (hits d x es) (omega (arith, some))

-- Extents in order are told by their sectors.
use Rattle.std.proofs.Common.{◌≡◌, ℕ, ◌+◌, ◌<◌, ◌≤◌, ◌⊎◌, nat_le, nat_lt, Bool, true, false, List, [], ◌∷◌, refl, sym, ap, ◌∙◌, subst, inl, inr, arith, ◌&&◌, ◌||◌}
use Rattle.std.specs.Str.{bytes_eq}
use Rattle.std.proofs.lemmas.Bool.{false≢true, and_parts, and_from, or_cases, or_left, cases_lt, cases_Bool, leb-true, le-leb, lt-ltb, ltb-true, false_from_ne_true}
use Rattle.vx_base.specs.Named.{Word}
use Rattle.vx_base.proofs.NamedLemmas.{bytes_eq_self, bytes_eq_same}
use Rattle.vx_config_parts.specs.Objects.{comes_before}
use Rattle.vx_rules.proofs.NameOrder.{before_itself, before_later, not_before}
use Rattle.vx_space.specs.declared.extent.Extent.{Extent}
use Rattle.vx_space.specs.Extents.{has_sector, is_listed, comes_behind, next_is_behind, are_in_order}

-- a sector of the extent
record Has (e : Extent) (d : Word) (x : ℕ) : Type 0 where
  disk : e.disk ≡ d
  from : e.start ≤ x
  to : x < e.start + e.count

has : (e : Extent) (d : Word) (x : ℕ) → has_sector d x e ≡ true → Has e d x
has e d x h =
    let a = and_parts (bytes_eq e.disk d) (nat_le e.start x && nat_lt x (e.start + e.count)) h in
    let b = and_parts (nat_le e.start x) (nat_lt x (e.start + e.count)) a.1 in
    record { disk = bytes_eq_same e.disk d a.0; from = leb-true e.start x b.0; to = ltb-true x (e.start + e.count) b.1 }

has_own : (e : Extent) (x : ℕ) → e.start ≤ x → x < e.start + e.count → has_sector e.disk x e ≡ true
has_own e x from to = and_from _ _ (bytes_eq_self e.disk) (and_from _ _ (le-leb e.start x from) (lt-ltb x (e.start + e.count) to))

-- on a later disk, or from a sector of the same disk on
abbrev Begins : Word → ℕ → Word → ℕ → Type 0
Begins d x e y = (comes_before d e ≡ true) ⊎ ((d ≡ e) × (x ≤ y))

-- what comes behind the end of an extent
abbrev Behind : Extent → Word → ℕ → Type 0
Behind e d x = (comes_before e.disk d ≡ true) ⊎ ((e.disk ≡ d) × (e.start + e.count < x))

next : (e f : Extent) → comes_behind e f ≡ true → Behind e f.disk f.start
next e f h = elim (or_cases (comes_before e.disk f.disk) (bytes_eq e.disk f.disk && nat_lt (e.start + e.count) f.start) h) [
  | inl later ↦ inl later
  | inr same ↦
      let parts = and_parts (bytes_eq e.disk f.disk) (nat_lt (e.start + e.count) f.start) same in
      inr (bytes_eq_same e.disk f.disk parts.0, ltb-true (e.start + e.count) f.start parts.1)
]

-- behind a sector that is behind it
further : (e : Extent) (d n : Word) (x y : ℕ) → Behind e d x → Begins d x n y → Behind e n y
further e d n x y (inl a) (inl b) = inl (before_later e.disk d n a b)
further e d n x y (inl a) (inr b) = inl (subst (λ m. comes_before e.disk m ≡ true) b.0 a)
further e d n x y (inr a) (inl b) = inl (subst (λ m. comes_before m n ≡ true) (sym a.0) b)
further e d n x y (inr a) (inr b) = inr (a.0 ∙ b.0, omega (arith, a.1, b.1))

starts : (e : Extent) (d : Word) (x : ℕ) → Behind e d x → Begins e.disk e.start d x
starts e d x (inl a) = inl a
starts e d x (inr a) = inr (a.0, omega (arith, a.1))

record Ordered (e : Extent) (es : List Extent) : Type 0 where
  some : 0 < e.count
  next : next_is_behind e es ≡ true
  rest : are_in_order es ≡ true

ordered : (e : Extent) (es : List Extent) → are_in_order (e ∷ es) ≡ true → Ordered e es
ordered e es h =
    let a = and_parts (nat_lt 0 e.count) (next_is_behind e es && are_in_order es) h in
    let b = and_parts (next_is_behind e es) (are_in_order es) a.1 in
    record { some = ltb-true 0 e.count a.0; next = b.0; rest = b.1 }

-- what later extents have comes behind the first
behind : (e : Extent) (es : List Extent) → are_in_order (e ∷ es) ≡ true → (d : Word) (x : ℕ) → is_listed es d x ≡ true → Behind e d x
behind e [] h d x listed = absurd (false≢true listed)
behind e (f ∷ fs) h d x listed =
    let o = ordered e (f ∷ fs) h in
    further e f.disk d f.start x (next e f o.next) (elim (or_cases (has_sector d x f) (is_listed fs d x) listed) [
      | inl here ↦ let k = has f d x here in inr (k.disk, k.from)
      | inr later ↦ starts f d x (behind f fs o.rest d x later)
    ])

-- all that is listed begins with the first extent
first : (e : Extent) (es : List Extent) → are_in_order (e ∷ es) ≡ true → (d : Word) (x : ℕ) → is_listed (e ∷ es) d x ≡ true → Begins e.disk e.start d x
first e es h d x listed = elim (or_cases (has_sector d x e) (is_listed es d x) listed) [
  | inl here ↦ let k = has e d x here in inr (k.disk, k.from)
  | inr later ↦ starts e d x (behind e es h d x later)
]

own_first : (e : Extent) (es : List Extent) → are_in_order (e ∷ es) ≡ true → is_listed (e ∷ es) e.disk e.start ≡ true
own_first e es h = let o = ordered e es h in or_left _ _ (has_own e e.start (omega arith) (omega (arith, o.some)))

-- the sector at its end is not listed
not_at_end : (e : Extent) (es : List Extent) → are_in_order (e ∷ es) ≡ true → is_listed (e ∷ es) e.disk (e.start + e.count) ≡ true → ⊥
not_at_end e es h listed = elim (or_cases (has_sector e.disk (e.start + e.count) e) (is_listed es e.disk (e.start + e.count)) listed) [
  | inl here ↦ let k = has e e.disk (e.start + e.count) here in omega (arith, k.to)
  | inr later ↦ elim (behind e es h e.disk (e.start + e.count) later) [
    | inl a ↦ false≢true (sym (before_itself e.disk) ∙ a)
    | inr a ↦ omega (arith, a.1)
  ]
]

-- no sector is in the first extent and in a later one
parted : (e : Extent) (es : List Extent) → are_in_order (e ∷ es) ≡ true → (d : Word) (x : ℕ) → has_sector d x e ≡ true → is_listed es d x ≡ false
parted e es h d x here = false_from_ne_true _ (λ later.
    let k = has e d x here in
    elim (behind e es h d x later) [
      | inl a ↦ false≢true (sym (before_itself e.disk) ∙ subst (λ m. comes_before e.disk m ≡ true) (sym k.disk) a)
      | inr a ↦ omega (arith, k.to, a.1)
    ])

-- two that begin with one another begin at one sector
meet : (d e : Word) (x y : ℕ) → Begins d x e y → Begins e y d x → (d ≡ e) × (x ≡ y)
meet d e x y (inl a) (inl b) = absurd (false≢true (sym (not_before d e a) ∙ b))
meet d e x y (inl a) (inr b) = absurd (false≢true (sym (before_itself d) ∙ subst (λ m. comes_before d m ≡ true) b.0 a))
meet d e x y (inr a) (inl b) = absurd (false≢true (sym (before_itself e) ∙ subst (λ m. comes_before e m ≡ true) a.0 b))
meet d e x y (inr a) (inr b) = (a.0, omega (arith, a.1, b.1))

abbrev Alike : List Extent → List Extent → Type 0
Alike es fs = (d : Word) (x : ℕ) → is_listed es d x ≡ is_listed fs d x

-- of two such lists the first extent of the one is not longer than that of the other
not_longer : (e f : Extent) (es fs : List Extent) → are_in_order (f ∷ fs) ≡ true → Alike (e ∷ es) (f ∷ fs) → e.disk ≡ f.disk → e.start ≡ f.start → e.count ≤ f.count
not_longer e f es fs h alike disk start = elim (cases_lt f.count e.count) [
  | inl lt ↦
      let here : has_sector e.disk (f.start + f.count) e ≡ true = has_own e (f.start + f.count) (omega (arith, start)) (omega (arith, start, lt)) in
      let there = sym (alike e.disk (f.start + f.count)) ∙ or_left _ _ here in
      absurd (not_at_end f fs h (subst (λ m. is_listed (f ∷ fs) m (f.start + f.count) ≡ true) disk there))
  | inr le ↦ le
]

same_extent : (e f : Extent) → e.disk ≡ f.disk → e.start ≡ f.start → e.count ≡ f.count → e ≡ f
same_extent e f disk start count =
    ap (λ (m : Word). record { disk = m; start = e.start; count = e.count }) disk
    ∙ ap (λ (n : ℕ). record { disk = f.disk; start = n; count = e.count }) start
    ∙ ap (λ (n : ℕ). record { disk = f.disk; start = f.start; count = n }) count

swap : (es fs : List Extent) → Alike es fs → Alike fs es
swap es fs alike d x = sym (alike d x)

first_same : (e f : Extent) (es fs : List Extent) → are_in_order (e ∷ es) ≡ true → are_in_order (f ∷ fs) ≡ true → Alike (e ∷ es) (f ∷ fs) → e ≡ f
first_same e f es fs h k alike =
    let met = meet e.disk f.disk e.start f.start
    (first e es h f.disk f.start (alike f.disk f.start ∙ own_first f fs k))
    (first f fs k e.disk e.start (sym (alike e.disk e.start) ∙ own_first e es h)) in
    let le = not_longer e f es fs k alike met.0 met.1 in
    let ge = not_longer f e fs es h (swap (e ∷ es) (f ∷ fs) alike) (sym met.0) (sym met.1) in
    same_extent e f met.0 met.1 (omega (arith, le, ge))

-- what is behind the same first extent is alike
rest_alike : (e : Extent) (es fs : List Extent) → are_in_order (e ∷ es) ≡ true → are_in_order (e ∷ fs) ≡ true → Alike (e ∷ es) (e ∷ fs) → Alike es fs
rest_alike e es fs h k alike d x = elim (cases_Bool (has_sector d x e)) [
  | inl here ↦ parted e es h d x here ∙ sym (parted e fs k d x here)
  | inr not_here ↦ subst (λ (b : Bool). (b || is_listed es d x) ≡ (b || is_listed fs d x)) not_here (alike d x)
]

pub one_list : (es fs : List Extent) → are_in_order es ≡ true → are_in_order fs ≡ true → ((d : Word) (x : ℕ) → is_listed es d x ≡ is_listed fs d x) → es ≡ fs
one_list [] [] h k alike = refl
one_list [] (f ∷ fs) h k alike = absurd (false≢true (alike f.disk f.start ∙ own_first f fs k))
one_list (e ∷ es) [] h k alike = absurd (false≢true (sym (alike e.disk e.start) ∙ own_first e es h))
one_list (e ∷ es) (f ∷ fs) h k alike =
    let same = first_same e f es fs h k alike in
    let k' : are_in_order (e ∷ fs) ≡ true = subst (λ (g : Extent). are_in_order (g ∷ fs) ≡ true) (sym same) k in
    let alike' : Alike (e ∷ es) (e ∷ fs) = subst (λ (g : Extent). Alike (e ∷ es) (g ∷ fs)) (sym same) alike in
    let rest = one_list es fs (ordered e es h).rest (ordered e fs k').rest (rest_alike e es fs h k' alike') in
    ap (λ (l : List Extent). e ∷ l) rest ∙ ap (λ (g : Extent). g ∷ fs) same

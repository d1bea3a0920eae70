-- Taking goes by sectors: the first ones are taken, and the others stay.
use Rattle.std.proofs.Common.{◌≡◌, ℕ, zero, suc, ◌+◌, ◌-◌, ◌≤◌, min, nat_lt, Bool, true, false, cond, List, [], ◌∷◌, ◌++◌, length, take, drop, refl, sym, ap, ◌∙◌, inl, inr, arith, append_assoc, append-nil}
use Rattle.std.specs.Str.{bytes_eq}
use Rattle.std.proofs.lemmas.Bool.{cases_lt, ltb-false}
use Rattle.std.proofs.lemmas.List.{take_at, drop_at, length-append}
use Rattle.vx_base.specs.Named.{Word}
use Rattle.vx_base.proofs.NamedLemmas.{bytes_eq_self, bytes_eq_same}
use Rattle.vx_space.specs.declared.extent.Extent.{Extent}
use Rattle.vx_space.specs.Extents.{total, between, taken, left}
use Rattle.vx_space.specs.Taking.{run, sectors, TakesTheFirst}

-- ---- runs

run_length : (a n : ℕ) → length (run a n) ≡ n
run_length a zero = refl
run_length a (suc n) = ap suc (run_length (a + 1) n)

run_parts : (a m n : ℕ) → run a (m + n) ≡ run a m ++ run (a + m) n
run_parts a zero n = let x : 0 + n ≡ n = omega arith in let y : a ≡ a + 0 = omega arith in ap (λ (k : ℕ). run a k) x ∙ ap (λ (b : ℕ). run b n) y
run_parts a (suc m) n =
    let x : suc m + n ≡ suc (m + n) = omega arith in
    let y : a + 1 + m ≡ a + suc m = omega arith in
    ap (λ (k : ℕ). run a k) x ∙ ap (λ (l : List ℕ). a ∷ l) (run_parts (a + 1) m n ∙ ap (λ (b : ℕ). run (a + 1) m ++ run b n) y)

sectors_append : (d : Word) (xs ys : List Extent) → sectors d (xs ++ ys) ≡ sectors d xs ++ sectors d ys
sectors_append d [] ys = refl
sectors_append d (x ∷ xs) ys = by (bytes_eq x.disk d) (sectors_append d xs ys) where
  by : (b : Bool) → sectors d (xs ++ ys) ≡ sectors d xs ++ sectors d ys → cond b (run x.start x.count ++ sectors d (xs ++ ys)) (sectors d (xs ++ ys)) ≡ cond b (run x.start x.count ++ sectors d xs) (sectors d xs) ++ sectors d ys
  by true h = ap (λ (l : List ℕ). run x.start x.count ++ l) h ∙ sym (append_assoc (run x.start x.count) (sectors d xs) (sectors d ys))
  by false h = h

own_between : (d : Word) (a b n : ℕ) → b ≡ a + n → sectors d (between d a b) ≡ run a n
own_between d a b n e = by (nat_lt a b) refl where
  by : (t : Bool) → nat_lt a b ≡ t → sectors d (cond t (record { disk = d; start = a; count = b - a } ∷ []) []) ≡ run a n
  by true h =
      let same : b - a ≡ n = omega (arith, e) in
      ap (λ (t : Bool). cond t (run a (b - a) ++ []) []) (bytes_eq_self d) ∙ append-nil (run a (b - a)) ∙ ap (λ (k : ℕ). run a k) same
  by false h = let le = ltb-false a b h in let none : 0 ≡ n = omega (arith, e, le) in ap (λ (k : ℕ). run a k) none

other_between : (d m : Word) (a b : ℕ) → bytes_eq d m ≡ false → sectors m (between d a b) ≡ []
other_between d m a b other = by (nat_lt a b) where
  by : (t : Bool) → sectors m (cond t (record { disk = d; start = a; count = b - a } ∷ []) []) ≡ []
  by true = ap (λ (t : Bool). cond t (run a (b - a) ++ []) []) other
  by false = refl

-- ---- lists

take_past : (xs ys : List ℕ) (k m : ℕ) → k ≡ length xs + m → take k (xs ++ ys) ≡ xs ++ take m ys
take_past [] ys k m e = let x : k ≡ m = omega (arith, e) in ap (λ (i : ℕ). take i ys) x
take_past (x ∷ xs) ys k m e =
    let is : k ≡ suc (length xs + m) = omega (arith, e) in
    ap (λ (i : ℕ). take i (x ∷ (xs ++ ys))) is ∙ ap (λ (l : List ℕ). x ∷ l) (take_past xs ys (length xs + m) m refl)

drop_past : (xs ys : List ℕ) (k m : ℕ) → k ≡ length xs + m → drop k (xs ++ ys) ≡ drop m ys
drop_past [] ys k m e = let x : k ≡ m = omega (arith, e) in ap (λ (i : ℕ). drop i ys) x
drop_past (x ∷ xs) ys k m e =
    let is : k ≡ suc (length xs + m) = omega (arith, e) in
    ap (λ (i : ℕ). drop i (x ∷ (xs ++ ys))) is ∙ drop_past xs ys (length xs + m) m refl

-- the front of a run, and what is behind it
split_run : (s c p : ℕ) (rest : List ℕ) → p ≤ c → run s c ++ rest ≡ run s p ++ (run (s + p) (c - p) ++ rest)
split_run s c p rest le =
    let whole : c ≡ p + (c - p) = omega (arith, le) in
    ap (λ (l : List ℕ). l ++ rest) (ap (λ (k : ℕ). run s k) whole ∙ run_parts s p (c - p)) ∙ append_assoc (run s p) (run (s + p) (c - p)) rest

front : (k s c : ℕ) (rest : List ℕ) → run s (min k c) ++ take (k - min k c) rest ≡ take k (run s c ++ rest)
front k s c rest = elim (cases_lt k c) [
  | inl lt ↦
      let p : min k c ≡ k = omega (arith, lt) in
      let none : k - k ≡ 0 = omega arith in
      ap (λ (m : ℕ). run s m ++ take (k - m) rest) p ∙ ap (λ (m : ℕ). run s k ++ take m rest) none ∙ append-nil (run s k)
      ∙ sym (take_at (run s k) (run (s + k) (c - k) ++ rest) k (run_length s k)) ∙ ap (λ (l : List ℕ). take k l) (sym (split_run s c k rest (omega (arith, lt))))
  | inr le ↦
      let p : min k c ≡ c = omega (arith, le) in
      let long = run_length s c in
      ap (λ (m : ℕ). run s m ++ take (k - m) rest) p ∙ sym (take_past (run s c) rest k (k - c) (omega (arith, long, le)))
]

back : (k s c : ℕ) (rest : List ℕ) → run (s + min k c) (c - min k c) ++ drop (k - min k c) rest ≡ drop k (run s c ++ rest)
back k s c rest = elim (cases_lt k c) [
  | inl lt ↦
      let p : min k c ≡ k = omega (arith, lt) in
      let none : k - k ≡ 0 = omega arith in
      ap (λ (m : ℕ). run (s + m) (c - m) ++ drop (k - m) rest) p ∙ ap (λ (m : ℕ). run (s + k) (c - k) ++ drop m rest) none
      ∙ sym (drop_at (run s k) (run (s + k) (c - k) ++ rest) k (run_length s k)) ∙ ap (λ (l : List ℕ). drop k l) (sym (split_run s c k rest (omega (arith, lt))))
  | inr le ↦
      let p : min k c ≡ c = omega (arith, le) in
      let none : c - c ≡ 0 = omega arith in
      let long = run_length s c in
      ap (λ (m : ℕ). run (s + m) (c - m) ++ drop (k - m) rest) p ∙ ap (λ (m : ℕ). run (s + c) m ++ drop (k - c) rest) none ∙ sym (drop_past (run s c) rest k (k - c) (omega (arith, long, le)))
]

-- ---- taking

first_is : (d : Word) (k : ℕ) (es : List Extent) → sectors d (taken d k es) ≡ take k (sectors d es)
first_is d k [] = sym (none k) where
  none : (n : ℕ) → take {A = ℕ} n [] ≡ []
  none zero = refl
  none (suc n) = refl
first_is d k (e ∷ es) = by (first_is d (k - min k e.count) es) (first_is d k es) (bytes_eq e.disk d) where
  by : sectors d (taken d (k - min k e.count) es) ≡ take (k - min k e.count) (sectors d es) → sectors d (taken d k es) ≡ take k (sectors d es) → (b : Bool) →
      sectors d (cond b (between d e.start (e.start + min k e.count) ++ taken d (k - min k e.count) es) (taken d k es)) ≡ take k (cond b (run e.start e.count ++ sectors d es) (sectors d es))
  by cut all true =
      sectors_append d (between d e.start (e.start + min k e.count)) (taken d (k - min k e.count) es)
      ∙ ap (λ (l : List ℕ). l ++ sectors d (taken d (k - min k e.count) es)) (own_between d e.start (e.start + min k e.count) (min k e.count) refl)
      ∙ ap (λ (l : List ℕ). run e.start (min k e.count) ++ l) cut
      ∙ front k e.start e.count (sectors d es)
  by cut all false = all

rest_is : (d : Word) (k : ℕ) (es : List Extent) → sectors d (left d k es) ≡ drop k (sectors d es)
rest_is d k [] = sym (none k) where
  none : (n : ℕ) → drop {A = ℕ} n [] ≡ []
  none zero = refl
  none (suc n) = refl
rest_is d k (e ∷ es) = by (rest_is d (k - min k e.count) es) (rest_is d k es) (bytes_eq e.disk d) refl where
  end : e.start + e.count ≡ e.start + min k e.count + (e.count - min k e.count)
  end = omega arith

  by : sectors d (left d (k - min k e.count) es) ≡ drop (k - min k e.count) (sectors d es) → sectors d (left d k es) ≡ drop k (sectors d es) → (b : Bool) → bytes_eq e.disk d ≡ b →
      sectors d (cond b (between d (e.start + min k e.count) (e.start + e.count) ++ left d (k - min k e.count) es) (e ∷ left d k es)) ≡ drop k (cond b (run e.start e.count ++ sectors d es) (sectors d es))
  by cut all true h =
      sectors_append d (between d (e.start + min k e.count) (e.start + e.count)) (left d (k - min k e.count) es)
      ∙ ap (λ (l : List ℕ). l ++ sectors d (left d (k - min k e.count) es)) (own_between d (e.start + min k e.count) (e.start + e.count) (e.count - min k e.count) end)
      ∙ ap (λ (l : List ℕ). run (e.start + min k e.count) (e.count - min k e.count) ++ l) cut
      ∙ back k e.start e.count (sectors d es)
  by cut all false h = ap (λ (t : Bool). cond t (run e.start e.count ++ sectors d (left d k es)) (sectors d (left d k es))) h ∙ all

others_are : (d m : Word) (k : ℕ) (es : List Extent) → bytes_eq d m ≡ false → sectors m (left d k es) ≡ sectors m es
others_are d m k [] other = refl
others_are d m k (e ∷ es) other = by (others_are d m (k - min k e.count) es other) (others_are d m k es other) (bytes_eq e.disk d) refl where
  by : sectors m (left d (k - min k e.count) es) ≡ sectors m es → sectors m (left d k es) ≡ sectors m es → (b : Bool) → bytes_eq e.disk d ≡ b →
      sectors m (cond b (between d (e.start + min k e.count) (e.start + e.count) ++ left d (k - min k e.count) es) (e ∷ left d k es)) ≡ cond (bytes_eq e.disk m) (run e.start e.count ++ sectors m es) (sectors m es)
  by cut all true h =
      sectors_append m (between d (e.start + min k e.count) (e.start + e.count)) (left d (k - min k e.count) es)
      ∙ ap (λ (l : List ℕ). l ++ sectors m (left d (k - min k e.count) es)) (other_between d m (e.start + min k e.count) (e.start + e.count) other)
      ∙ cut
      ∙ sym (ap (λ (t : Bool). cond t (run e.start e.count ++ sectors m es) (sectors m es)) (ap (λ (n : Word). bytes_eq n m) (bytes_eq_same e.disk d h) ∙ other))
  by cut all false h = ap (λ (l : List ℕ). cond (bytes_eq e.disk m) (run e.start e.count ++ l) l) all

counted_is : (d : Word) (es : List Extent) → total d es ≡ length (sectors d es)
counted_is d [] = refl
counted_is d (e ∷ es) = by (bytes_eq e.disk d) (counted_is d es) where
  by : (b : Bool) → total d es ≡ length (sectors d es) → cond b e.count 0 + total d es ≡ length (cond b (run e.start e.count ++ sectors d es) (sectors d es))
  by true h = let sum = length-append (run e.start e.count) (sectors d es) in let long = run_length e.start e.count in omega (arith, h, sum, long)
  by false h = omega (arith, h)

pub takes_the_first : (d : Word) (k : ℕ) (es : List Extent) → TakesTheFirst d k es
takes_the_first d k es = record { first = first_is d k es; rest = rest_is d k es; others = λ m other. others_are d m k es other; counted = counted_is d es }

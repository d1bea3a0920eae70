-- Sums of counts: those of some places of a list are among those of all.
use Rattle.std.proofs.Common.{◌≡◌, ℕ, zero, suc, ◌+◌, ◌-◌, ◌*◌, ◌^◌, ◌<◌, ◌≤◌, min, List, [], ◌∷◌, refl, sym, ◌∙◌, ap, arith}
use Rattle.std.specs.Prelude.{length}
use Rattle.std.specs.List.{sum_by}
use Rattle.std.proofs.lemmas.List.Sums.{sum_by-cons}
use Rattle.vx_piece.specs.Seen.{Seen}
use Rattle.vx_pages.specs.Items.{item_at}
use Rattle.vx_maps.specs.Slots.{place_of}

-- the sum of the first so many
abbrev pub total : (ℕ → ℕ) → ℕ → ℕ
total f zero = 0
total f (suc n) = total f n + f n

pub total_same : (f g : ℕ → ℕ) (n : ℕ) → ((k : ℕ) → k < n → f k ≡ g k) → total f n ≡ total g n
total_same f g zero same = refl
total_same f g (suc n) same = let a = total_same f g n (λ k lt. same k (omega (arith, lt))) in let b = same n (omega arith) in omega (arith, a, b)

pub total_more : (f : ℕ → ℕ) (n m : ℕ) → total f (n + m) ≡ total f n + total (λ k. f (n + k)) m
total_more f n zero = let e : n + 0 ≡ n = omega arith in ap (total f) e ∙ omega arith
total_more f n (suc m) = let e : n + suc m ≡ suc (n + m) = omega arith in let rest = total_more f n m in ap (total f) e ∙ omega (arith, rest)

pub total_grows : (f : ℕ → ℕ) (n m : ℕ) → n ≤ m → total f n ≤ total f m
total_grows f n m le =
    let e : n + (m - n) ≡ m = omega (arith, le) in
    let all : total f (n + (m - n)) ≡ total f m = ap (total f) e in
    let parts = total_more f n (m - n) in
    omega (arith, all, parts)

pub total_first : (f : ℕ → ℕ) (n : ℕ) → total f (suc n) ≡ f 0 + total (λ k. f (suc k)) n
total_first f zero = omega arith
total_first f (suc n) = let rest = total_first f n in omega (arith, rest)

pub total_none : (n : ℕ) → total (λ k. 0) n ≡ 0
total_none zero = refl
total_none (suc n) = let rest = total_none n in omega (arith, rest)

pub total_both : (f g : ℕ → ℕ) (n : ℕ) → total (λ k. f k + g k) n ≡ total f n + total g n
total_both f g zero = refl
total_both f g (suc n) = let rest = total_both f g n in omega (arith, rest)

-- rows first, or columns first
pub total_turned : (f : ℕ → ℕ → ℕ) (n m : ℕ) → total (λ i. total (f i) m) n ≡ total (λ j. total (λ i. f i j) n) m
total_turned f zero m = sym (total_none m)
total_turned f (suc n) m =
    let rest = total_turned f n m in
    let both = total_both (λ j. total (λ i. f i j) n) (f n) m in
    omega (arith, rest, both)

-- what the one has more than the other
pub total_rest : (f g : ℕ → ℕ) (n : ℕ) → ((k : ℕ) → k < n → f k ≤ g k) → total (λ k. g k - f k) n + total f n ≡ total g n
total_rest f g zero less = refl
total_rest f g (suc n) less = let rest = total_rest f g n (λ k lt. less k (omega (arith, lt))) in let here = less n (omega arith) in omega (arith, rest, here)

-- ---- the places of pages in a copy

-- the sum over the places of so many pages' sectors of the first maps
abbrev pub placed : (ℕ → ℕ) → (size pages maps : ℕ) → ℕ
placed h size pages maps = total (λ m. total (λ i. h (place_of size m i)) pages) maps

next_slot : (n size : ℕ) → (3 + suc n) * size ≡ (3 + n) * size + size
next_slot n size = omega arith

pub placed_among : (h : ℕ → ℕ) (size pages : ℕ) → 1 + pages ≤ size → (n : ℕ) → placed h size pages n ≤ total h ((3 + n) * size)
placed_among h size pages fits zero = omega arith
placed_among h size pages fits (suc n) =
    let before = placed_among h size pages fits n in
    let slot = next_slot n size in
    let head = total_grows h ((3 + n) * size) ((3 + n) * size + 1) (omega arith) in
    let here = total_more h ((3 + n) * size + 1) pages in
    let same = total_same (λ i. h (place_of size n i)) (λ k. h ((3 + n) * size + 1 + k)) pages (λ k lt. let e : place_of size n k ≡ (3 + n) * size + 1 + k = omega arith in ap h e) in
    let up = total_grows h ((3 + n) * size + 1 + pages) ((3 + suc n) * size) (omega (arith, slot, fits)) in
    omega (arith, before, head, here, same, up)

module _ (f g : ℕ → ℕ) (size pages long : ℕ) (fits : 1 + pages ≤ size) (room : 35 * size ≤ long) where
  all_placed : (h : ℕ → ℕ) → placed h size pages 32 ≤ total h long
  all_placed h =
      let a = placed_among h size pages fits 32 in
      let b = total_grows h (35 * size) long room in
      let e : (3 + 32) * size ≡ 35 * size = omega arith in
      let c : total h ((3 + 32) * size) ≡ total h (35 * size) = ap (total h) e in
      omega (arith, a, b, c)

  placed_rest : ((k : ℕ) → f k ≤ g k) → placed (λ k. g k - f k) size pages 32 + placed f size pages 32 ≡ placed g size pages 32
  placed_rest less =
      let outer = total_both (λ m. total (λ i. g (place_of size m i) - f (place_of size m i)) pages) (λ m. total (λ i. f (place_of size m i)) pages) 32 in
      let inner = total_same (λ m. total (λ i. g (place_of size m i) - f (place_of size m i)) pages + total (λ i. f (place_of size m i)) pages) (λ m. total (λ i. g (place_of size m i)) pages) 32
      (λ m lt. total_rest (λ i. f (place_of size m i)) (λ i. g (place_of size m i)) pages (λ i low. less (place_of size m i))) in
      sym outer ∙ inner

  -- where the sum over the places of pages rises, that over all places does
  pub rose_among : ((k : ℕ) → f k ≤ g k) → min (placed f size pages 32 + 1) (2 ^ 64 - 1) ≤ placed g size pages 32 → min (total f long + 1) (2 ^ 64 - 1) ≤ total g long
  rose_among less rose =
      let all = total_rest f g long (λ k lt. less k) in
      let some = placed_rest less in
      let more = all_placed (λ k. g k - f k) in
      let least = all_placed f in
      rose_of _ _ _ _ _ _ some all more least rose
    where
      rose_of : (d s s' e t t' : ℕ) → d + s ≡ s' → e + t ≡ t' → d ≤ e → s ≤ t → min (s + 1) (2 ^ 64 - 1) ≤ s' → min (t + 1) (2 ^ 64 - 1) ≤ t'
      rose_of d s s' e t t' some all more least rose = omega (arith, some, all, more, least, rose)

-- ---- the counts of a list

pub sum_items : (f : Seen → ℕ) (none : Seen) (xs : List Seen) → sum_by f xs ≡ total (λ k. f (item_at none xs k)) (length xs)
sum_items f none [] = refl
sum_items f none (x ∷ xs) =
    let sum = sum_by-cons f x xs in
    let rest = sum_items f none xs in
    let first = total_first (λ k. f (item_at none (x ∷ xs) k)) (length xs) in
    omega (arith, sum, rest, first)

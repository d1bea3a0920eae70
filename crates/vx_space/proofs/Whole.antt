-- The runs of all good disks are the free space.
use Rattle.std.proofs.Common.{◌≡◌, ℕ, ◌+◌, ◌-◌, ◌≤◌, ◌^◌, nat_lt, Bool, true, false, not, List, [], ◌∷◌, ◌++◌, refl, sym, ap, ◌∙◌, subst, inl, inr, arith, ◌&&◌, ◌||◌}
use Rattle.std.specs.List.{list_all, list_any}
use Rattle.std.specs.List.Sorted.{IsPermutation, IsNonDecreasingBy}
use Rattle.std.specs.Str.{bytes_eq}
use Rattle.std.proofs.lemmas.Bool.{false≢true, and_parts, and_from, and_left, or_left, ltb-true, false_from_ne_true, cond-false}
use Rattle.std.proofs.lemmas.List.Folds.{list_any-append}
use Rattle.std.proofs.lemmas.List.Sorted.{list_any-IsPermutation}
use Rattle.vx_base.specs.Named.{Word}
use Rattle.vx_base.proofs.NamedLemmas.{bytes_eq_self, bytes_eq_same, name_cases}
use Rattle.vx_config_parts.specs.declared.disk.Disk.{Disk}
use Rattle.vx_config_parts.specs.declared.subdisk.Subdisk.{Subdisk}
use Rattle.vx_config_parts.specs.Objects.{comes_before}
use Rattle.vx_rules.proofs.NameOrder.{before_itself}
use Rattle.vx_rules.proofs.ListTests.{none_of_all}
use Rattle.vx_objects.specs.declared.config.Config.{Config}
use Rattle.vx_image.proofs.Plexes.{IsValid}
use Rattle.vx_space.specs.declared.extent.Extent.{Extent}
use Rattle.vx_space.specs.Extents.{has_sector, is_listed, comes_behind, are_in_order, total}
use Rattle.vx_space.specs.Disks.{is_good, names_rise, AreGoodDisks}
use Rattle.vx_space.specs.Free.{has_public, covers, AreFree}
use Rattle.vx_space.specs.Gaps.{gaps, all_gaps}
use Rattle.vx_space.specs.Small.{AreSmall}
use Rattle.vx_space.proofs.Tests.{shared, from_zero, all_append, all_weaker}
use Rattle.vx_space.proofs.Runs.{fits, ascend, gaps_listed, gaps_order, gaps_on, gaps_end, gaps_total, total_append}
use Rattle.vx_space.proofs.GoodDisks.{all_good, later}
use Rattle.vx_space.proofs.Subdisks.{fit, short, ascends}

-- the subdisks fit on each of the disks
abbrev all_fit : List Subdisk → List Disk → Bool
all_fit ss ds = list_all (λ d. list_all (fits d) ss) ds

-- ---- other disks

differs : (a b n : Word) → a ≡ b → bytes_eq b n ≡ false → bytes_eq a n ≡ false
differs a b n e h = ap (λ k. bytes_eq k n) e ∙ h

other_listed : (n d : Word) (x : ℕ) (es : List Extent) → bytes_eq d n ≡ false → list_all (λ e. bytes_eq e.disk d) es ≡ true → is_listed es n x ≡ false
other_listed n d x es other on = none_of_all (λ e. bytes_eq e.disk d) (has_sector n x) es (λ e k. and_left _ _ (differs e.disk d n (bytes_eq_same e.disk d k) other)) on

other_total : (n d : Word) (es : List Extent) → bytes_eq d n ≡ false → list_all (λ e. bytes_eq e.disk d) es ≡ true → total n es ≡ 0
other_total n d [] other on = refl
other_total n d (e ∷ es) other on =
    let parts = and_parts (bytes_eq e.disk d) (list_all (λ f. bytes_eq f.disk d) es) on in
    let here = cond-false (bytes_eq e.disk n) e.count 0 (differs e.disk d n (bytes_eq_same e.disk d parts.0) other) in
    let rest = other_total n d es other parts.1 in
    omega (arith, here, rest)

before_differs : (n m : Word) → comes_before n m ≡ true → bytes_eq m n ≡ false
before_differs n m h = false_from_ne_true _ (λ same. false≢true (sym (before_itself n) ∙ subst (λ k. comes_before n k ≡ true) (bytes_eq_same m n same) h))

-- ---- the sectors

own : (d : Disk) (p q : Bool) → (p && q) ≡ ((bytes_eq d.name d.name && p) && q)
own d p q = ap (λ b. (b && p) && q) (sym (bytes_eq_self d.name))

one_disk : (n : Word) (x : ℕ) (ss : List Subdisk) (d : Disk) → ascend ss ≡ true → list_all (fits d) ss ≡ true → is_listed (gaps d 0 ss) n x ≡ (has_public n x d && not (list_any (covers n x) ss))
one_disk n x ss d up h = elim (name_cases d.name n) [
  | inl same ↦ subst (λ k. is_listed (gaps d 0 ss) k x ≡ (has_public k x d && not (list_any (covers k x) ss))) same
      (gaps_listed d 0 x ss up h ∙ ap (λ b. b && not (list_any (covers d.name x) ss)) (from_zero x (nat_lt x d.publen)) ∙ own d (nat_lt x d.publen) (not (list_any (covers d.name x) ss)))
  | inr other ↦ other_listed n d.name x (gaps d 0 ss) other (gaps_on d 0 ss h) ∙ sym (and_left _ _ (and_left _ _ other))
]

all_listed : (n : Word) (x : ℕ) (ss : List Subdisk) (ds : List Disk) → ascend ss ≡ true → all_fit ss ds ≡ true → is_listed (all_gaps ss ds) n x ≡ (list_any (has_public n x) ds && not (list_any (covers n x) ss))
all_listed n x ss [] up h = refl
all_listed n x ss (d ∷ ds) up h =
    let parts = and_parts (list_all (fits d) ss) (all_fit ss ds) h in
    list_any-append (has_sector n x) (gaps d 0 ss) (all_gaps ss ds)
    ∙ ap (λ b. b || is_listed (all_gaps ss ds) n x) (one_disk n x ss d up parts.0)
    ∙ ap (λ b. (has_public n x d && not (list_any (covers n x) ss)) || b) (all_listed n x ss ds up parts.1)
    ∙ shared (has_public n x d) (list_any (has_public n x) ds) (not (list_any (covers n x) ss))

-- ---- the order

-- extents of a disk, and then those of later disks
join : (n : Word) (xs ys : List Extent) → are_in_order xs ≡ true → list_all (λ e. bytes_eq e.disk n) xs ≡ true → are_in_order ys ≡ true → list_all (λ e. comes_before n e.disk) ys ≡ true → are_in_order (xs ++ ys) ≡ true
join n [] ys a on b behind = b
join n (x ∷ []) [] a on b behind = a
join n (x ∷ []) (y ∷ ys) a on b behind =
    let some = and_parts (nat_lt 0 x.count) true a in
    let first = and_parts (comes_before n y.disk) (list_all (λ e. comes_before n e.disk) ys) behind in
    let here = and_parts (bytes_eq x.disk n) true on in
    and_from _ _ some.0 (and_from _ _ (or_left _ _ (subst (λ k. comes_before k y.disk ≡ true) (sym (bytes_eq_same x.disk n here.0)) first.0)) b)
join n (x ∷ z ∷ xs) ys a on b behind =
    let some = and_parts (nat_lt 0 x.count) (comes_behind x z && are_in_order (z ∷ xs)) a in
    let next = and_parts (comes_behind x z) (are_in_order (z ∷ xs)) some.1 in
    let rest = and_parts (bytes_eq x.disk n) (list_all (λ e. bytes_eq e.disk n) (z ∷ xs)) on in
    and_from _ _ some.0 (and_from _ _ next.0 (join n (z ∷ xs) ys next.1 rest.1 b behind))

-- the extents of later disks are on later disks
all_later : (n : Word) (ss : List Subdisk) (ds : List Disk) → all_fit ss ds ≡ true → list_all (λ e. comes_before n e.name) ds ≡ true → list_all (λ (e : Extent). comes_before n e.disk) (all_gaps ss ds) ≡ true
all_later n ss [] h up = refl
all_later n ss (d ∷ ds) h up =
    let parts = and_parts (list_all (fits d) ss) (all_fit ss ds) h in
    let ups = and_parts (comes_before n d.name) (list_all (λ e. comes_before n e.name) ds) up in
    all_append (λ e. comes_before n e.disk) (gaps d 0 ss) (all_gaps ss ds)
    (all_weaker (λ e. bytes_eq e.disk d.name) (λ e. comes_before n e.disk) (gaps d 0 ss) (λ e on. subst (λ k. comes_before n k ≡ true) (sym (bytes_eq_same e.disk d.name on)) ups.0) (gaps_on d 0 ss parts.0))
    (all_later n ss ds parts.1 ups.1)

tail_rises : (d : Disk) (ds : List Disk) → names_rise (d ∷ ds) ≡ true → names_rise ds ≡ true
tail_rises d ds h = (and_parts _ (names_rise ds) h).1

all_order : (ss : List Subdisk) (ds : List Disk) → all_fit ss ds ≡ true → names_rise ds ≡ true → are_in_order (all_gaps ss ds) ≡ true
all_order ss [] h up = refl
all_order ss (d ∷ ds) h up =
    let parts = and_parts (list_all (fits d) ss) (all_fit ss ds) h in
    join d.name (gaps d 0 ss) (all_gaps ss ds) (gaps_order d 0 ss parts.0) (gaps_on d 0 ss parts.0) (all_order ss ds parts.1 (tail_rises d ds up)) (all_later d.name ss ds parts.1 (later d ds up))

pub free_is : (c : Config) → IsValid c → (good : ℕ) (ds : List Disk) (ss : List Subdisk) → AreGoodDisks c good ds → IsPermutation c.subdisks ss → IsNonDecreasingBy (λ (s : Subdisk). s.off) ss → AreFree c good (all_gaps ss ds)
free_is c v good ds ss are same up =
    let fitting = all_good c good ds (λ d. list_all (fits d) ss) are (fit c v ss same) in
    record {
      sectors = λ disk x.
          all_listed disk x ss ds (ascends ss up) fitting
          ∙ ap (λ b. b && not (list_any (covers disk x) ss)) (are.there (has_public disk x))
          ∙ ap (λ b. list_any (λ d. is_good good d && has_public disk x d) c.disks && not b) (sym (list_any-IsPermutation (covers disk x) c.subdisks ss same));
      order = all_order ss ds fitting are.order;
    }

-- ---- the counts

none_total : (n : Word) (ss : List Subdisk) (ds : List Disk) → all_fit ss ds ≡ true → list_all (λ e. comes_before n e.name) ds ≡ true → total n (all_gaps ss ds) ≡ 0
none_total n ss [] h up = refl
none_total n ss (d ∷ ds) h up =
    let parts = and_parts (list_all (fits d) ss) (all_fit ss ds) h in
    let ups = and_parts (comes_before n d.name) (list_all (λ e. comes_before n e.name) ds) up in
    let sum = total_append n (gaps d 0 ss) (all_gaps ss ds) in
    let here = other_total n d.name (gaps d 0 ss) (before_differs n d.name ups.0) (gaps_on d 0 ss parts.0) in
    let rest = none_total n ss ds parts.1 ups.1 in
    omega (arith, sum, here, rest)

all_total : (n : Word) (ss : List Subdisk) (ds : List Disk) → all_fit ss ds ≡ true → list_all (λ d. nat_lt d.publen (2 ^ 40)) ds ≡ true → names_rise ds ≡ true → total n (all_gaps ss ds) ≤ 2 ^ 40
all_total n ss [] h few up = omega arith
all_total n ss (d ∷ ds) h few up =
    let parts = and_parts (list_all (fits d) ss) (all_fit ss ds) h in
    let shorts = and_parts (nat_lt d.publen (2 ^ 40)) (list_all (λ e. nat_lt e.publen (2 ^ 40)) ds) few in
    let sum = total_append n (gaps d 0 ss) (all_gaps ss ds) in
    elim (name_cases d.name n) [
      | inl same ↦
          let own = subst (λ k. total k (gaps d 0 ss) ≤ d.publen - 0) same (gaps_total d 0 ss parts.0) in
          let rest = subst (λ k. total k (all_gaps ss ds) ≡ 0) same (none_total d.name ss ds parts.1 (later d ds up)) in
          let less = ltb-true d.publen (2 ^ 40) shorts.0 in
          omega (arith, sum, own, rest, less)
      | inr other ↦
          let here = other_total n d.name (gaps d 0 ss) other (gaps_on d 0 ss parts.0) in
          let rest = all_total n ss ds parts.1 shorts.1 (tail_rises d ds up) in
          omega (arith, sum, here, rest)
    ]

all_end : (ss : List Subdisk) (ds : List Disk) → all_fit ss ds ≡ true → list_all (λ d. nat_lt d.publen (2 ^ 40)) ds ≡ true → list_all (λ (e : Extent). nat_lt (e.start + e.count) (2 ^ 64)) (all_gaps ss ds) ≡ true
all_end ss [] h few = refl
all_end ss (d ∷ ds) h few =
    let parts = and_parts (list_all (fits d) ss) (all_fit ss ds) h in
    let shorts = and_parts (nat_lt d.publen (2 ^ 40)) (list_all (λ e. nat_lt e.publen (2 ^ 40)) ds) few in
    all_append (λ (e : Extent). nat_lt (e.start + e.count) (2 ^ 64)) (gaps d 0 ss) (all_gaps ss ds) (gaps_end d 0 ss (ltb-true d.publen (2 ^ 40) shorts.0) parts.0) (all_end ss ds parts.1 shorts.1)

pub small_is : (c : Config) → IsValid c → (good : ℕ) (ds : List Disk) (ss : List Subdisk) → AreGoodDisks c good ds → IsPermutation c.subdisks ss → AreSmall (all_gaps ss ds)
small_is c v good ds ss are same =
    let fitting = all_good c good ds (λ d. list_all (fits d) ss) are (fit c v ss same) in
    let few = all_good c good ds (λ d. nat_lt d.publen (2 ^ 40)) are (short c v) in
    record {
      ends = all_end ss ds fitting few;
      totals = λ n. all_total n ss ds fitting few are.order;
    }

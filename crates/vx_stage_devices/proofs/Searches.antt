-- Devices that are sought one after the other.
use Rattle.std.proofs.Common.{◌≡◌, ◌∙◌, ◌||◌, ◌≤◌, ◌<◌, ◌+◌, ℕ, zero, suc, Bool, true, false, List, [], ◌∷◌, ◌++◌, length, take, get_or, Option, Some, None, Err, refl, sym, ap, subst, arith, inl, inr}
use Rattle.std.specs.Prelude.{IsSome, IfSome}
use Rattle.std.specs.List.{AllByRecursion}
use Rattle.std.specs.List.Sorted.{IsStrictlySortedBy}
use Rattle.std.specs.Str.{bytes_eq}
use Rattle.std.specs.declared.cmp.Ordering.TheVariants.{Less}
use Rattle.std.specs.Ordering.{is_eq, nat_cmp}
use Rattle.std.specs.Cmp.Lexicographic.{slice_cmp}
use Rattle.std.proofs.lemmas.Map.Text.{is_eq-slice_cmp}
use Rattle.vx_base.specs.Counts.{Rose}
use Rattle.vx_base.specs.Named.{Word}
use Rattle.vx_base.proofs.NamedLemmas.{bytes_eq_self, bytes_eq_same}
use Rattle.vx_base.specs.Blocks.{Contents}
use Rattle.vx_header.specs.Named.{header_of}
use Rattle.vx_copies.specs.Image.{names_group}
use Rattle.vx_piece.specs.Seen.{Seen}
use Rattle.vx_shelf.specs.Listed.{IsRising}
use Rattle.vx_answers.specs.declared.answer.End.{End}
use Rattle.vx_moments.specs.Holding.{is_among}
use Rattle.vx_house.specs.Scene.{Shelved}
use Rattle.vx_stage_devices.specs.Seeks.{NamesSeen, IsSeenOnly, IsSoughtOnce, IsPlace, ArePlaces, IsOnlySought, Seeks, SeekCause, SeekEnds, SeeksUnder, SeeksThrough}
use Rattle.vx_house.specs.declared.stop.Stop.{Stop}
use Rattle.vx_house.specs.declared.stop.Stop.TheVariants.{Ended, OutOfMemory}
use Rattle.std.proofs.lemmas.List.{take_more}
use Rattle.vx_stage_devices.proofs.Seeks.{place_self, among_one}

-- nothing is sought
pub seeks_none : (dg : Word) (s : Shelved) → Seeks dg [] s s
seeks_none dg s = record { held = λ name. refl; told = none_told s.free; counted = λ name. omega arith; same = λ some name. refl; quiet = refl }
  where
    none_told : (o : Option (Word → Option Seen)) → ArePlaces (IsSoughtOnce dg) [] o o
    none_told None = tt
    none_told (Some devices) = λ name. refl

-- a shelf that was asked for its names alone
pub seeks_same : (dg : Word) (old new : Shelved) → ((name : Word) → new.held name ≡ old.held name) → new.free ≡ old.free → ((name : Word) → new.counted name ≡ old.counted name) → new.faults ≡ old.faults → Seeks dg [] old new
seeks_same dg old new held free counts quiet = record { held = held; told = subst (ArePlaces (IsSoughtOnce dg) [] old.free) (sym free) (seeks_none dg old).told; counted = λ name. let e = counts name in omega (arith, e); same = λ some name. counts name; quiet = quiet }

place_of : (dg : Word) (b : Bool) (o p : Option Seen) → IsPlace (IsSoughtOnce dg) b o p → IsPlace IsSeenOnly b o p
place_of dg false o p same = same
place_of dg true None None sought = tt
place_of dg true None (Some t) sought = absurd sought
place_of dg true (Some s) None sought = absurd sought
place_of dg true (Some s) (Some t) sought = sought.seen

places_of : (dg : Word) (names : List Word) (o p : Option (Word → Option Seen)) → ArePlaces (IsSoughtOnce dg) names o p → ArePlaces IsSeenOnly names o p
places_of dg names None None sought = tt
places_of dg names None (Some p) sought = absurd sought
places_of dg names (Some o) None sought = absurd sought
places_of dg names (Some o) (Some p) sought = λ name. place_of dg (is_among name names) (o name) (p name) (sought name)

pub seeks_only : (dg : Word) (names : List Word) (a b : Shelved) → Seeks dg names a b → IsOnlySought names a b
seeks_only dg names a b seeks = record { held = seeks.held; told = places_of dg names a.free b.free seeks.told; counted = seeks.counted; later = let e = seeks.quiet in omega (arith, e) }

-- names of two lists
among_append : (name : Word) (xs ys : List Word) → is_among name (xs ++ ys) ≡ (is_among name xs || is_among name ys)
among_append name [] ys = refl
among_append name (x ∷ xs) ys = ap (λ b. bytes_eq x name || b) (among_append name xs ys) ∙ assoc (bytes_eq x name) (is_among name xs) (is_among name ys)
  where
    assoc : (a b c : Bool) → (a || (b || c)) ≡ ((a || b) || c)
    assoc true b c = refl
    assoc false b c = refl

-- places of two lists that have no name in common
module _ (Became : Seen → Seen → Type 0) where
  both : (x y : Bool) (o p q : Option Seen) → (x ≡ true → y ≡ false) → IsPlace Became x o p → IsPlace Became y p q → IsPlace Became (x || y) o q
  both false false o p q apart first next = next ∙ first
  both false true o p q apart first next = subst (λ z. IsPlace Became true z q) first next
  both true false o p q apart first next = subst (IsPlace Became true o) (sym next) first
  both true true o p q apart first next = let no : true ≡ false = apart refl in cc

  module _ (xs ys : List Word) (apart : (name : Word) → is_among name xs ≡ true → is_among name ys ≡ false) where
    pub places_then : (o p q : Option (Word → Option Seen)) → ArePlaces Became xs o p → ArePlaces Became ys p q → ArePlaces Became (xs ++ ys) o q
    places_then None None None first next = tt
    places_then None None (Some u) first next = absurd next
    places_then None (Some t) q first next = absurd first
    places_then (Some s) None q first next = absurd first
    places_then (Some s) (Some t) None first next = absurd next
    places_then (Some s) (Some t) (Some u) first next = λ name.
        subst (λ b. IsPlace Became b (s name) (u name)) (sym (among_append name xs ys)) (both (is_among name xs) (is_among name ys) (s name) (t name) (u name) (apart name) (first name) (next name))

-- what names the group then named it before
named_before : (dg name : Word) (names : List Word) (o p : Option (Word → Option Seen)) → ArePlaces IsSeenOnly names o p → IfSome p (λ devices. (s : Seen) × (devices name ≡ Some s) × NamesSeen dg true s) → IfSome o (λ devices. (s : Seen) × (devices name ≡ Some s) × NamesSeen dg true s)
named_before dg name names None p seen named = tt
named_before dg name names (Some o) None seen named = absurd seen
named_before dg name names (Some o) (Some p) seen named = by_place (is_among name names) (o name) (p name) refl (seen name) named.1
  where
    by_place : (b : Bool) (x y : Option Seen) → o name ≡ x → IsPlace IsSeenOnly b x y → y ≡ Some named.0 → (s : Seen) × (o name ≡ Some s) × NamesSeen dg true s
    by_place false x y e place is = (named.0, e ∙ sym place ∙ is, named.2)
    by_place true None None e place is = cc
    by_place true None (Some t) e place is = absurd place
    by_place true (Some s) None e place is = absurd place
    by_place true (Some s) (Some t) e place is =
        let same : t ≡ named.0 = cc in
        (s, e, subst (λ (x : Option Contents). IfSome x (λ c. names_group dg (header_of (c 0)) ≡ true)) (ap (λ (x : Seen). x.told) (sym same) ∙ place.same.told) named.2)

rose_then : (a b c : ℕ) → a ≤ b → Rose b c → Rose a c
rose_then a b c le rose = omega (arith, le, rose)

module _ (dg : Word) (xs ys : List Word) (apart : (name : Word) → is_among name xs ≡ true → is_among name ys ≡ false) where
  some_then : (o p : Option (Word → Option Seen)) → ArePlaces (IsSoughtOnce dg) xs o p → IsSome o → IsSome p
  some_then None p sought some = cc
  some_then (Some o) None sought some = absurd sought
  some_then (Some o) (Some p) sought some = refl

  pub seeks_then : (a b c : Shelved) → Seeks dg xs a b → Seeks dg ys b c → Seeks dg (xs ++ ys) a c
  seeks_then a b c p q = record {
    held = λ name. q.held name ∙ p.held name;
    told = places_then (IsSoughtOnce dg) xs ys apart a.free b.free c.free p.told q.told;
    counted = λ name. let x = p.counted name in let y = q.counted name in omega (arith, x, y);
    same = λ some name. q.same (some_then a.free b.free p.told some) name ∙ p.same some name;
    quiet = q.quiet ∙ p.quiet;
  }

  -- others were sought, and then the search ended
  module _ (a b c : Shelved) (seeks : Seeks dg xs a b) where
    pub only_then : IsOnlySought ys b c → IsOnlySought (xs ++ ys) a c
    only_then q = record {
      held = λ name. q.held name ∙ seeks.held name;
      told = places_then IsSeenOnly xs ys apart a.free b.free c.free (places_of dg xs a.free b.free seeks.told) q.told;
      counted = λ name. let x = seeks.counted name in let y = q.counted name in omega (arith, x, y);
      later = let x = seeks.quiet in let y = q.later in omega (arith, x, y);
    }

    pub ends_then : (name : Word) (end : End) → SeekEnds dg ys name b end c → SeekEnds dg (xs ++ ys) name a end c
    ends_then name end q = record { only = only_then q.only; none = sym (seeks.held name) ∙ q.none; cause = by_cause q.cause }
      where
        by_cause : SeekCause dg name b end c → SeekCause dg name a end c
        by_cause (inl (is, named)) = inl (is, named_before dg name xs a.free b.free (places_of dg xs a.free b.free seeks.told) named)
        by_cause (inr (inl (is, inl rose))) = inr (inl (is, inl (rose_then (a.counted name) (b.counted name) (c.counted name) (seeks.counted name) rose)))
        by_cause (inr (inl (is, inr rose))) = inr (inl (is, inr (let e = seeks.quiet in omega (arith, e, rose))))
        by_cause (inr (inr cut)) = inr (inr cut)

-- a name that stands behind others is none of them
not_equal : (key other : Word) → slice_cmp nat_cmp key other ≡ Less → bytes_eq key other ≡ false
not_equal key other less = sym (is_eq-slice_cmp key other) ∙ ap is_eq less

all_get : {X : Type 0} (Q : X → Type 0) (xs : List X) (i : ℕ) (d : X) → AllByRecursion Q xs → i < length xs → Q (get_or xs i d)
all_get Q [] i d all less = absurd (omega arith)
all_get Q (x ∷ xs) zero d all less = all.0
all_get Q (x ∷ xs) (suc i) d all less = all_get Q xs i d all.1 (omega (arith, less))

either_false : (a b : Bool) → a ≡ false → b ≡ false → (a || b) ≡ false
either_false false b e f = f
either_false true b e f = cc

rising_new : (names : List Word) (i : ℕ) (d : Word) → IsRising names → i < length names → is_among (get_or names i d) (take i names) ≡ false
unfolding IsStrictlySortedBy
rising_new [] i d rising less = absurd (omega arith)
rising_new (x ∷ xs) zero d rising less = refl
rising_new (x ∷ xs) (suc i) d rising less =
    either_false (bytes_eq x (get_or xs i d)) (is_among (get_or xs i d) (take i xs))
    (not_equal x (get_or xs i d) (all_get (λ y. slice_cmp nat_cmp x y ≡ Less) xs i d rising.0 (omega (arith, less))))
    (rising_new xs i d rising.1 (omega (arith, less)))

or_true : (a b : Bool) → b ≡ true → (a || b) ≡ true
or_true true b e = refl
or_true false b e = e

among_get : (names : List Word) (i : ℕ) (d : Word) → i < length names → is_among (get_or names i d) names ≡ true
among_get [] i d less = absurd (omega arith)
among_get (x ∷ xs) zero d less = ap (λ b. b || is_among x xs) (bytes_eq_self x)
among_get (x ∷ xs) (suc i) d less = or_true (bytes_eq x (get_or xs i d)) (is_among (get_or xs i d) xs) (among_get xs i d (omega (arith, less)))

-- the next name is new
next_apart : (xs : List Word) (name : Word) → is_among name xs ≡ false → (other : Word) → is_among other xs ≡ true → is_among other (name ∷ []) ≡ false
next_apart xs name new other among = by_test (bytes_eq name other) refl
  where
    by_test : (b : Bool) → bytes_eq name other ≡ b → is_among other (name ∷ []) ≡ false
    by_test false e = among_one name other false e
    by_test true e = let same : is_among name xs ≡ is_among other xs = ap (λ n. is_among n xs) (bytes_eq_same name other e) in cc

-- more names
weaker : (xs ys : List Word) → ((name : Word) → is_among name xs ≡ true → is_among name ys ≡ true) → (o p : Option (Word → Option Seen)) → ArePlaces IsSeenOnly xs o p → ArePlaces IsSeenOnly ys o p
weaker xs ys more None None seen = tt
weaker xs ys more None (Some p) seen = absurd seen
weaker xs ys more (Some o) None seen = absurd seen
weaker xs ys more (Some o) (Some p) seen = λ name. by (is_among name xs) (is_among name ys) (more name) (o name) (p name) (seen name)
  where
    by : (x y : Bool) → (x ≡ true → y ≡ true) → (a b : Option Seen) → IsPlace IsSeenOnly x a b → IsPlace IsSeenOnly y a b
    by false y on a b same = subst (IsPlace IsSeenOnly y a) (sym same) (place_self y a)
    by true y on a b place = subst (λ z. IsPlace IsSeenOnly z a b) (sym (on refl)) place

among_take : (names : List Word) (i : ℕ) (name : Word) → is_among name (take i names) ≡ true → is_among name names ≡ true
among_take [] zero name is = is
among_take [] (suc i) name is = is
among_take (n ∷ names) zero name is = cc
among_take (n ∷ names) (suc i) name is = by (bytes_eq n name) (among_take names i name) is
  where
    by : (b : Bool) → (is_among name (take i names) ≡ true → is_among name names ≡ true) → (b || is_among name (take i names)) ≡ true → (b || is_among name names) ≡ true
    by true rest is = refl
    by false rest is = rest is

module _ (dg : Word) (names : List Word) (rising : IsRising names) (i : ℕ) (name : Word) (less : i < length names) (is : name ≡ get_or names i name) (a b c : Shelved) (seeks : Seeks dg (take i names) a b) where
  apart : (other : Word) → is_among other (take i names) ≡ true → is_among other (name ∷ []) ≡ false
  apart = next_apart (take i names) name (ap (λ n. is_among n (take i names)) is ∙ rising_new names i name rising less)

  all_names : take i names ++ name ∷ [] ≡ take (i + 1) names
  all_names = ap (λ n. take i names ++ n ∷ []) is ∙ sym (take_more names i name less)

  -- one more is sought
  pub next_seeks : Seeks dg (name ∷ []) b c → Seeks dg (take (i + 1) names) a c
  next_seeks next = subst (λ ns. Seeks dg ns a c) all_names (seeks_then dg (take i names) (name ∷ []) apart a b c seeks next)

  only_all : IsOnlySought (take i names ++ name ∷ []) a c → IsOnlySought names a c
  only_all only = record {
    held = only.held;
    told = weaker (take (i + 1) names) names (among_take names (i + 1)) a.free c.free (subst (λ ns. ArePlaces IsSeenOnly ns a.free c.free) all_names only.told);
    counted = only.counted;
    later = only.later;
  }

  -- the next ends the search, or memory is wanting
  pub next_ends : (stop : Stop) → SeeksUnder {T = Unit {0}} dg name b (Err stop) c → SeeksThrough {T = Unit {0}} dg names a (Err stop) c
  next_ends (Ended end) ends =
      let all = ends_then dg (take i names) (name ∷ []) apart a b c seeks name end ends in
      (name, ap (λ n. is_among n names) is ∙ among_get names i name less, record { only = only_all all.only; none = all.none; cause = all.cause })
  next_ends OutOfMemory only = only_all (only_then dg (take i names) (name ∷ []) apart a b c seeks only)

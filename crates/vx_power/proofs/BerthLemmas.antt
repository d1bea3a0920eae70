-- The berth of a name, and what the berths keep once one of them has changed.
use Rattle.std.proofs.Common.{◌≡◌, ◌∙◌, ℕ, ◌+◌, ◌<◌, suc, zero, Bool, true, false, cond, ◌||◌, List, [], ◌∷◌, ◌++◌, length, get_or, map, Option, Some, None, MatchOption, sym, ap, refl, arith}
use Rattle.std.proofs.Math.ListN.{set}
use Rattle.std.specs.Str.{bytes_eq}
use Rattle.std.specs.List.{position, position_from}
use Rattle.std.proofs.lemmas.Slice.Eq.{bytes_eq-Decides}
use Rattle.std.proofs.lemmas.Bool.{cond-true, cond-false, both_ways}
use Rattle.std.proofs.lemmas.Iterator.Adapters.{position_from-zero}
use Rattle.std.proofs.lemmas.List.Quantifiers.{position-Some}
use Rattle.vx_base.specs.Named.{Word, put}
use Rattle.vx_base.proofs.NamedLemmas.{bytes_eq_self}
use Rattle.vx_shelf.specs.Listed.{is_listed}
use Rattle.vx_power.specs.declared.board.Wire.{Wire}
use Rattle.vx_power.specs.Berths.{Berth, is_at, has_berth, gone_in, IsFirst, empty_berth}

first_from : (name : Word) (bs : List Berth) (i : ℕ) (d : Berth) → i < length bs → is_at name (get_or bs i d) ≡ true → ((k : ℕ) → k < i → is_at name (get_or bs k d) ≡ false) → IsFirst name bs i
first_from name [] i d lt here before = absurd (omega arith)
first_from name (b ∷ bs) zero d lt here before = here
first_from name (b ∷ bs) (suc i) d lt here before = (before zero (omega arith), first_from name bs i d (omega arith) here (λ k h. before (suc k) (omega (arith, h))))

missing_from : (name : Word) (bs : List Berth) (i : ℕ) → position_from (is_at name) i bs ≡ None → has_berth bs name ≡ false
missing_from name [] i none = refl
missing_from name (b ∷ bs) i none = by_test (is_at name b) (missing_from name bs (i + 1)) none
  where
    by_test : (here : Bool) → (position_from (is_at name) (i + 1) bs ≡ None → has_berth bs name ≡ false) → cond here (Some i) (position_from (is_at name) (i + 1) bs) ≡ None → (here || has_berth bs name) ≡ false
    by_test true rest none = cc
    by_test false rest none = rest none

-- what a search for the name finds
pub found_by_position : (name : Word) (bs : List Berth) (result : Option ℕ) → result ≡ position (is_at name) bs → MatchOption result (has_berth bs name ≡ false) (λ i. (i < length bs) × IsFirst name bs i)
found_by_position name bs None is = missing_from name bs 0 (sym (position_from-zero (is_at name) bs) ∙ sym is)
found_by_position name [] (Some i) is = cc
found_by_position name (b ∷ bs) (Some i) is = let at = position-Some (is_at name) (b ∷ bs) i b (sym is) in (at.0, first_from name (b ∷ bs) i b at.0 at.1 at.2)

pub or_true : (a b : Bool) → a ≡ true → (a || b) ≡ true
or_true true b e = refl
or_true false b e = cc

pub or_also : (a b : Bool) → b ≡ true → (a || b) ≡ true
or_also true b e = refl
or_also false b e = e

or_left : (a b : Bool) → (a || b) ≡ false → a ≡ false
or_left true b e = cc
or_left false b e = refl

or_right : (a b : Bool) → (a || b) ≡ false → b ≡ false
or_right true b e = cc
or_right false b e = e

pub first_has : (name : Word) (bs : List Berth) (i : ℕ) → IsFirst name bs i → has_berth bs name ≡ true
first_has name [] i first = absurd first
first_has name (b ∷ bs) zero first = or_true (is_at name b) (has_berth bs name) first
first_has name (b ∷ bs) (suc i) first = or_also (is_at name b) (has_berth bs name) (first_has name bs i first.1)

pub gone_at : (name : Word) (bs : List Berth) (i : ℕ) (d : Berth) → IsFirst name bs i → gone_in bs name ≡ (get_or bs i d).1
gone_at name [] i d first = absurd first
gone_at name (b ∷ bs) zero d first = cond-true _ _ _ first
gone_at name (b ∷ bs) (suc i) d first = cond-false _ _ _ first.0 ∙ gone_at name bs i d first.1

-- nothing is gone under a name without a berth
pub none_gone : (name : Word) (bs : List Berth) → has_berth bs name ≡ false → gone_in bs name ≡ None
none_gone name [] none = refl
none_gone name (b ∷ bs) none = cond-false _ _ _ (or_left _ (has_berth bs name) none) ∙ none_gone name bs (or_right (is_at name b) _ none)

again : (b : Bool) (x y z : Option Wire) → cond b x y ≡ cond b x (cond b z y)
again true x y z = refl
again false x y z = refl

swapped : (q name other : Word) (b c : Bool) (x y z : Option Wire) → bytes_eq q other ≡ b → bytes_eq name other ≡ c → bytes_eq q name ≡ false → cond b y (cond c x z) ≡ cond c x (cond b y z)
swapped q name other true true x y z eb ec differ = absurd (both_ways (bytes_eq q name) differ ((bytes_eq-Decides q name).1 ((bytes_eq-Decides q other).0 eb ∙ sym ((bytes_eq-Decides name other).0 ec))))
swapped q name other true false x y z eb ec differ = refl
swapped q name other false true x y z eb ec differ = refl
swapped q name other false false x y z eb ec differ = refl

-- the berth of one name keeps another wire now
pub gone_set : (bs : List Berth) (name : Word) (i : ℕ) (b d : Berth) → IsFirst name bs i → b.0 ≡ (get_or bs i d).0 → (other : Word) → gone_in (set bs i b) other ≡ put name b.1 (gone_in bs) other
gone_set [] name i b d first same other = absurd first
gone_set (q ∷ bs) name zero b d first same other =
    let is : q.0 ≡ name = (bytes_eq-Decides q.0 name).0 first in
    ap (λ n. cond (bytes_eq n other) b.1 (gone_in bs other)) (same ∙ is)
    ∙ again (bytes_eq name other) b.1 (gone_in bs other) q.1
    ∙ ap (λ n. cond (bytes_eq name other) b.1 (cond (bytes_eq n other) q.1 (gone_in bs other))) (sym is)
gone_set (q ∷ bs) name (suc i) b d first same other =
    ap (cond (bytes_eq q.0 other) q.1) (gone_set bs name i b d first.1 same other)
    ∙ swapped q.0 name other (bytes_eq q.0 other) (bytes_eq name other) b.1 q.1 (gone_in bs other) refl refl first.0

pub has_set : (bs : List Berth) (i : ℕ) (b d : Berth) → b.0 ≡ (get_or bs i d).0 → (other : Word) → has_berth (set bs i b) other ≡ has_berth bs other
has_set [] i b d same other = refl
has_set (q ∷ bs) zero b d same other = ap (λ n. bytes_eq n other || has_berth bs other) same
has_set (q ∷ bs) (suc i) b d same other = ap (λ h. bytes_eq q.0 other || h) (has_set bs i b d same other)

no_wire : (b : Bool) (w : Option Wire) → w ≡ None → cond b w w ≡ w
no_wire true w none = refl
no_wire false w none = refl

-- a new berth keeps no wire
pub gone_push : (bs : List Berth) (name other : Word) → gone_in (bs ++ (name, None) ∷ []) other ≡ gone_in bs other
gone_push [] name other = no_wire (bytes_eq name other) None refl
gone_push (q ∷ bs) name other = ap (cond (bytes_eq q.0 other) q.1) (gone_push bs name other)

pub has_push : (bs : List Berth) (name other : Word) → has_berth (bs ++ (name, None) ∷ []) other ≡ (has_berth bs other || bytes_eq name other)
has_push [] name other = or_none (bytes_eq name other)
  where
    or_none : (b : Bool) → (b || false) ≡ (false || b)
    or_none true = refl
    or_none false = refl
has_push (q ∷ bs) name other = ap (λ h. bytes_eq q.0 other || h) (has_push bs name other) ∙ or_next (bytes_eq q.0 other)
  where
    or_next : (b : Bool) → (b || (has_berth bs other || bytes_eq name other)) ≡ ((b || has_berth bs other) || bytes_eq name other)
    or_next true = refl
    or_next false = refl

pub here_push : (bs : List Berth) (name : Word) → has_berth (bs ++ (name, None) ∷ []) name ≡ true
here_push bs name = has_push bs name name ∙ or_also (has_berth bs name) _ (bytes_eq_self name)

pub more_push : (bs : List Berth) (name other : Word) → has_berth bs other ≡ true → has_berth (bs ++ (name, None) ∷ []) other ≡ true
more_push bs name other has = has_push bs name other ∙ or_true _ (bytes_eq name other) has

-- where no berth keeps a wire, nothing is gone
pub all_clear : (bs : List Berth) (d : Berth) → ((k : ℕ) → k < length bs → (get_or bs k d).1 ≡ None) → (name : Word) → gone_in bs name ≡ None
all_clear [] d each name = refl
all_clear (b ∷ bs) d each name =
    ap (λ w. cond (bytes_eq b.0 name) w (gone_in bs name)) (each 0 (omega arith))
    ∙ ap (cond (bytes_eq b.0 name) None) (all_clear bs d (λ k lt. each (suc k) (omega (arith, lt))) name)
    ∙ no_wire (bytes_eq b.0 name) None refl

-- the berths of the names that are told
pub listed_berth : (names : List Word) (name : Word) → has_berth (map empty_berth names) name ≡ is_listed name names
listed_berth [] name = refl
listed_berth (n ∷ ns) name = ap (λ h. bytes_eq n name || h) (listed_berth ns name)

pub none_listed : (names : List Word) (name : Word) → gone_in (map empty_berth names) name ≡ None
none_listed [] name = refl
none_listed (n ∷ ns) name = ap (cond (bytes_eq n name) None) (none_listed ns name) ∙ no_wire (bytes_eq n name) None refl

-- The place of a name, and what stands on the shelf once one place has changed.
use Rattle.std.proofs.Common.{◌≡◌, ◌∙◌, ℕ, ◌+◌, ◌<◌, suc, zero, Bool, true, false, cond, List, [], ◌∷◌, ◌++◌, length, get_or, Option, Some, None, MatchOption, IfSome, sym, ap, refl, arith}
use Rattle.std.proofs.Math.ListN.{set}
use Rattle.std.specs.Str.{bytes_eq}
use Rattle.std.specs.List.{position, position_from, list_all}
use Rattle.std.proofs.lemmas.Slice.Eq.{bytes_eq-Decides}
use Rattle.std.proofs.lemmas.Bool.{cond-true, cond-false, both_ways, and_parts, and_from}
use Rattle.std.proofs.lemmas.Iterator.Adapters.{position_from-zero}
use Rattle.std.proofs.lemmas.List.Folds.{list_all-append}
use Rattle.std.proofs.lemmas.List.Quantifiers.{position-Some}
use Rattle.vx_base.specs.Named.{Word, put}
use Rattle.vx_shelf.specs.MemShelf.{Place, is_under, shown_under, IsFirst, IsMissing}
use Rattle.vx_piece.specs.declared.mem_piece.MemPiece.{MemPiece}

first_from : (name : Word) (ps : List Place) (i : ℕ) (d : Place) → i < length ps → is_under name (get_or ps i d) ≡ true → ((k : ℕ) → k < i → is_under name (get_or ps k d) ≡ false) → IsFirst name ps i
first_from name [] i d lt here before = absurd (omega arith)
first_from name (p ∷ ps) zero d lt here before = here
first_from name (p ∷ ps) (suc i) d lt here before = (before zero (omega arith), first_from name ps i d (omega arith) here (λ k h. before (suc k) (omega (arith, h))))

pub first_of_position : (name : Word) (ps : List Place) (i : ℕ) (d : Place) → position (is_under name) ps ≡ Some i → IsFirst name ps i
first_of_position name ps i d found = let at = position-Some (is_under name) ps i d found in first_from name ps i d at.0 at.1 at.2

missing_from : (name : Word) (ps : List Place) (i : ℕ) → position_from (is_under name) i ps ≡ None → IsMissing name ps
missing_from name [] i none = tt
missing_from name (p ∷ ps) i none = by_test (is_under name p) refl (missing_from name ps (i + 1)) none
  where
    by_test : (b : Bool) → is_under name p ≡ b → (position_from (is_under name) (i + 1) ps ≡ None → IsMissing name ps) → cond b (Some i) (position_from (is_under name) (i + 1) ps) ≡ None → IsMissing name (p ∷ ps)
    by_test true is rest none = cc
    by_test false is rest none = (is, rest none)

pub missing_of_position : (name : Word) (ps : List Place) → position (is_under name) ps ≡ None → IsMissing name ps
missing_of_position name ps none = missing_from name ps 0 (sym (position_from-zero (is_under name) ps) ∙ none)

module _ {X : Type 0} (show : MemPiece → Option X) where
  -- no device has the name
  pub shown_none : (name : Word) (ps : List Place) → IsMissing name ps → shown_under show ps name ≡ None
  shown_none name [] none = refl
  shown_none name (p ∷ ps) none = cond-false _ _ _ none.0 ∙ shown_none name ps none.1

  pub shown_at : (name : Word) (ps : List Place) (i : ℕ) (d : Place) → IsFirst name ps i → shown_under show ps name ≡ show (get_or ps i d).1
  shown_at name [] i d first = absurd first
  shown_at name (p ∷ ps) zero d first = cond-true _ _ _ first
  shown_at name (p ∷ ps) (suc i) d first = cond-false _ _ _ first.0 ∙ shown_at name ps i d first.1

  again : (b : Bool) (x y z : Option X) → cond b x y ≡ cond b x (cond b z y)
  again true x y z = refl
  again false x y z = refl

  swapped : (q name other : Word) (b c : Bool) (x y z : Option X) → bytes_eq q other ≡ b → bytes_eq name other ≡ c → bytes_eq q name ≡ false → cond b y (cond c x z) ≡ cond c x (cond b y z)
  swapped q name other true true x y z eb ec differ = absurd (both_ways (bytes_eq q name) differ ((bytes_eq-Decides q name).1 ((bytes_eq-Decides q other).0 eb ∙ sym ((bytes_eq-Decides name other).0 ec))))
  swapped q name other true false x y z eb ec differ = refl
  swapped q name other false true x y z eb ec differ = refl
  swapped q name other false false x y z eb ec differ = refl

  -- one device is another now, and under all other names stands the same
  pub shown_set : (ps : List Place) (name : Word) (i : ℕ) (p d : Place) → IsFirst name ps i → p.0 ≡ (get_or ps i d).0 → (other : Word) → shown_under show (set ps i p) other ≡ put name (show p.1) (shown_under show ps) other
  shown_set [] name i p d first same other = absurd first
  shown_set (q ∷ ps) name zero p d first same other =
      let is : q.0 ≡ name = (bytes_eq-Decides q.0 name).0 first in
      ap (λ n. cond (bytes_eq n other) (show p.1) (shown_under show ps other)) (same ∙ is)
      ∙ again (bytes_eq name other) (show p.1) (shown_under show ps other) (show q.1)
      ∙ ap (λ n. cond (bytes_eq name other) (show p.1) (cond (bytes_eq n other) (show q.1) (shown_under show ps other))) (sym is)
  shown_set (q ∷ ps) name (suc i) p d first same other =
      ap (cond (bytes_eq q.0 other) (show q.1)) (shown_set ps name i p d first.1 same other)
      ∙ swapped q.0 name other (bytes_eq q.0 other) (bytes_eq name other) (show p.1) (show q.1) (shown_under show ps other) refl refl first.0

  -- one device more, of a name that no other has
  pub shown_push : (ps : List Place) (name : Word) (piece : MemPiece) → IsMissing name ps → (other : Word) → shown_under show (ps ++ (name, piece) ∷ []) other ≡ put name (show piece) (shown_under show ps) other
  shown_push [] name piece missing other = refl
  shown_push (q ∷ qs) name piece missing other =
      ap (cond (bytes_eq q.0 other) (show q.1)) (shown_push qs name piece missing.1 other)
      ∙ swapped q.0 name other (bytes_eq q.0 other) (bytes_eq name other) (show piece) (show q.1) (shown_under show qs other) refl refl missing.0

  -- what all devices show that pass a test
  pub shown_all : (P : X → Type 0) (test : Place → Bool) (each : (p : Place) → test p ≡ true → IfSome (show p.1) P) (ps : List Place) → list_all test ps ≡ true → (name : Word) → IfSome (shown_under show ps name) P
  shown_all P test each [] all name = tt
  shown_all P test each (p ∷ ps) all name = by_test (is_under name p) (each p (and_parts _ _ all).0) (shown_all P test each ps (and_parts _ _ all).1 name)
    where
      by_test : (b : Bool) → IfSome (show p.1) P → IfSome (shown_under show ps name) P → IfSome (cond b (show p.1) (shown_under show ps name)) P
      by_test true here rest = here
      by_test false here rest = rest

-- a test that all pass
pub list_all-get_or : {X : Type 0} (test : X → Bool) (xs : List X) (i : ℕ) (d : X) → list_all test xs ≡ true → i < length xs → test (get_or xs i d) ≡ true
list_all-get_or test [] i d all lt = absurd (omega arith)
list_all-get_or test (x ∷ xs) zero d all lt = (and_parts _ _ all).0
list_all-get_or test (x ∷ xs) (suc i) d all lt = list_all-get_or test xs i d (and_parts _ _ all).1 (omega arith)

pub list_all-set : {X : Type 0} (test : X → Bool) (xs : List X) (i : ℕ) (y : X) → list_all test xs ≡ true → test y ≡ true → list_all test (set xs i y) ≡ true
list_all-set test [] i y all new = refl
list_all-set test (x ∷ xs) zero y all new = and_from _ _ new (and_parts _ _ all).1
list_all-set test (x ∷ xs) (suc i) y all new = and_from _ _ (and_parts _ _ all).0 (list_all-set test xs i y (and_parts _ _ all).1 new)

pub list_all-push : {X : Type 0} (test : X → Bool) (xs : List X) (y : X) → list_all test xs ≡ true → test y ≡ true → list_all test (xs ++ y ∷ []) ≡ true
list_all-push test xs y all new = list_all-append test xs (y ∷ []) ∙ and_from _ _ all (and_from _ _ new refl)

-- what a search for the name finds
pub found_by_position : (name : Word) (ps : List Place) (result : Option ℕ) → result ≡ position (is_under name) ps → MatchOption result (IsMissing name ps) (λ i. (i < length ps) × IsFirst name ps i)
found_by_position name ps None is = missing_of_position name ps (sym is)
found_by_position name [] (Some i) is = cc
found_by_position name (p ∷ ps) (Some i) is = ((position-Some (is_under name) (p ∷ ps) i p (sym is)).0, first_of_position name (p ∷ ps) i p (sym is))

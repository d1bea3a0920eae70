-- The names in a list, and those that are used on a shelf.
use Rattle.std.proofs.Common.{◌≡◌, ◌⊎◌, ◌∙◌, ◌||◌, ℕ, zero, suc, Bool, true, false, cond, List, [], ◌∷◌, map, Some, None, IsSome, sym, ap, refl, inl, inr}
use Rattle.std.specs.BTreeSet.{BTreeSet, IsFromIterResult}
use Rattle.std.specs.Cmp.Lexicographic.{slice_cmp}
use Rattle.std.specs.List.{list_any}
use Rattle.std.specs.Ordering.{nat_cmp, is_eq}
use Rattle.std.specs.Str.{bytes_eq}
use Rattle.std.proofs.lemmas.Bool.{both_ways, or_left}
use Rattle.std.proofs.lemmas.Map.Text.{is_eq-slice_cmp}
use Rattle.std.proofs.lemmas.Slice.Eq.{bytes_eq-Decides}
use Rattle.vx_base.specs.Named.{Word}
use Rattle.vx_piece.specs.MemPiece.{mem_seen}
use Rattle.vx_piece.specs.declared.mem_piece.MemPiece.{MemPiece}
use Rattle.vx_shelf.specs.Listed.{is_listed, Lists}
use Rattle.vx_shelf.specs.MemShelf.{Place, is_under, is_empty, free_by, held_by, free_in, held_in, IsFirst, IsMissing}
use Rattle.vx_shelf.specs.Shelf.{Held, IsUsed}
use Rattle.vx_shelf.proofs.Holds.{not_some, nowhere}

turned : (a b : Word) → bytes_eq a b ≡ bytes_eq b a
turned a b = by_tests (bytes_eq a b) (bytes_eq b a) refl refl
  where
    same : (x y : Word) → bytes_eq x y ≡ true → bytes_eq y x ≡ true
    same x y e = (bytes_eq-Decides y x).1 (sym ((bytes_eq-Decides x y).0 e))

    by_tests : (c d : Bool) → bytes_eq a b ≡ c → bytes_eq b a ≡ d → c ≡ d
    by_tests true true e f = refl
    by_tests false false e f = refl
    by_tests true false e f = absurd (both_ways _ f (same a b e))
    by_tests false true e f = absurd (both_ways _ e (same b a f))

equal : (name other : Word) → bytes_eq other name ≡ is_eq (slice_cmp nat_cmp name other)
equal name other = turned other name ∙ sym (is_eq-slice_cmp name other)

-- a set of the names has the same names
pub listed_alike : (names : List Word) (s : BTreeSet Word) (v : List Word) → IsFromIterResult (slice_cmp nat_cmp) names s → v ≡ s.keys → (name : Word) → is_listed name v ≡ is_listed name names
listed_alike names s v made is name =
    ap (is_listed name) is
    ∙ (λ i. list_any (λ other. equal name other i) s.keys)
    ∙ made.0 name
    ∙ sym (λ i. list_any (λ other. equal name other i) names)

pub listed_under : (ps : List Place) (name : Word) → is_listed name (map (λ p. p.0) ps) ≡ list_any (is_under name) ps
listed_under [] name = refl
listed_under (p ∷ ps) name = ap (λ b. bytes_eq p.0 name || b) (listed_under ps name)

pub names_listed : (ps : List Place) (names sorted : List Word) → names ≡ map (λ p. p.0) ps → ((name : Word) → is_listed name sorted ≡ is_listed name names) → (name : Word) → is_listed name sorted ≡ list_any (is_under name) ps
names_listed ps names sorted is same name = same name ∙ ap (is_listed name) is ∙ listed_under ps name

-- a device is free or held
one_shows : (piece : MemPiece) → IsSome (free_by piece) ⊎ IsSome (held_by piece)
one_shows piece = by_test (is_empty piece)
  where
    by_test : (b : Bool) → IsSome (cond b None (Some (mem_seen piece))) ⊎ IsSome (cond b (Some (let h : Held = record { device = (mem_seen piece).device; sectors = (mem_seen piece).start } in h)) None)
    by_test true = inr refl
    by_test false = inl refl

pub used : (ps : List Place) (name : Word) → list_any (is_under name) ps ≡ true → IsUsed name (free_in ps) (held_in ps)
used [] name e = cc
used (p ∷ ps) name e = by_test (is_under name p) (used ps name) e
  where
    by_test : (b : Bool) → (list_any (is_under name) ps ≡ true → IsUsed name (free_in ps) (held_in ps)) → (b || list_any (is_under name) ps) ≡ true → IsSome (cond b (free_by p.1) (free_in ps name)) ⊎ IsSome (cond b (held_by p.1) (held_in ps name))
    by_test true rest h = one_shows p.1
    by_test false rest h = rest h

under : (ps : List Place) (name : Word) → IsUsed name (free_in ps) (held_in ps) → list_any (is_under name) ps ≡ true
under [] name h = elim h [ inl s ↦ cc | inr s ↦ cc ]
under (p ∷ ps) name h = by_test (is_under name p) (under ps name) h
  where
    by_test : (b : Bool) → (IsUsed name (free_in ps) (held_in ps) → list_any (is_under name) ps ≡ true) → IsSome (cond b (free_by p.1) (free_in ps name)) ⊎ IsSome (cond b (held_by p.1) (held_in ps name)) → (b || list_any (is_under name) ps) ≡ true
    by_test true rest h = refl
    by_test false rest h = rest h

pub lists : (ps : List Place) (names : List Word) → ((name : Word) → is_listed name names ≡ list_any (is_under name) ps) → Lists names (free_in ps) (held_in ps)
lists ps names is name = (λ e. used ps name (sym (is name) ∙ e), λ h. is name ∙ under ps name h)

pub first_used : (ps : List Place) (name : Word) (i : ℕ) → IsFirst name ps i → IsUsed name (free_in ps) (held_in ps)
first_used ps name i first = used ps name (listed ps i first)
  where
    listed : (qs : List Place) (k : ℕ) → IsFirst name qs k → list_any (is_under name) qs ≡ true
    listed [] k first = absurd first
    listed (q ∷ qs) zero first = or_left _ _ first
    listed (q ∷ qs) (suc k) first = ap (λ b. b || list_any (is_under name) qs) first.0 ∙ listed qs k first.1

pub missing_unused : (ps : List Place) (name : Word) → IsMissing name ps → IsUsed name (free_in ps) (held_in ps) → ⊥
missing_unused ps name missing h =
    let gone = nowhere ps name missing in
    elim h [ inl s ↦ not_some _ gone.not_free s | inr s ↦ not_some _ gone.not_held s ]

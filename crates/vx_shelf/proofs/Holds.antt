-- What is seen of a shelf as a device is taken from it, and as it comes back.
use Rattle.std.proofs.Common.{◌≡◌, ◌∙◌, ◌<◌, ◌==◌, ℕ, zero, suc, Bool, true, false, List, length, get_or, Option, Some, None, IsSome, sym, ap, subst, refl, arith}
use Rattle.std.proofs.Math.ListN.{set}
use Rattle.std.specs.List.{list_all}
use Rattle.std.proofs.lemmas.Bool.{cond-true, cond-false, eqb-true, eq-eqb, ne_eqb, ltb-true}
use Rattle.vx_base.specs.Named.{Word, put, SameUnder}
use Rattle.vx_shelf.specs.Shelf.{Held, held_as, IsOut, IsTaken, LeavesShelf, IsGiven, ComesToShelf, IsNowhere}
use Rattle.vx_piece.specs.MemPiece.{mem_seen}
use Rattle.vx_shelf.specs.MemShelf.{Place, is_empty, is_at_rest, is_whole_or_left, held_by, free_by, held_in, free_in, HasLeft, IsFirst, IsMissing}
use Rattle.vx_shelf.proofs.Places.{shown_none, shown_at, shown_set, list_all-get_or, list_all-set}
use Rattle.vx_piece.specs.declared.mem_piece.MemPiece.{MemPiece}

pub not_some : {X : Type 0} (o : Option X) → o ≡ None → IsSome o → ⊥
not_some o none some = let h = subst IsSome none some in cc

pub not_true : (b : Bool) → (b ≡ true → true ≡ false) → b ≡ false
not_true true h = cc (h refl)
not_true false h = refl

-- a place, by the piece that is there
module _ (piece : MemPiece) where
  pub not_held : is_empty piece ≡ false → held_by piece ≡ None
  not_held full = cond-false _ _ _ full

  pub is_free : is_empty piece ≡ false → free_by piece ≡ Some (mem_seen piece)
  is_free full = cond-false _ _ _ full

  pub is_held : is_empty piece ≡ true → held_by piece ≡ Some (record { device = (mem_seen piece).device; sectors = (mem_seen piece).start })
  is_held empty = cond-true _ _ _ empty

  pub not_free : is_empty piece ≡ true → free_by piece ≡ None
  not_free empty = cond-true _ _ _ empty

  pub whole_at_rest : is_empty piece ≡ false → is_whole_or_left piece ≡ true → (mem_seen piece).start ≡ 0
  whole_at_rest full rest = eqb-true _ _ (sym (cond-false _ _ _ full) ∙ rest)

  pub some_left : is_empty piece ≡ false → 0 < (mem_seen piece).sectors
  some_left full = above (mem_seen piece).sectors full
    where
      above : (n : ℕ) → n == 0 ≡ false → 0 < n
      above zero e = cc
      above (suc n) e = omega arith

  pub left_at_rest : is_empty piece ≡ true → is_whole_or_left piece ≡ true → 0 < (mem_seen piece).start
  left_at_rest empty rest = ltb-true _ _ (sym (cond-true _ _ _ empty) ∙ rest)

-- what is left of a whole device tells its number and its sectors
held_of_left : (piece left : MemPiece) → (mem_seen piece).start ≡ 0 → HasLeft piece left → held_by left ≡ Some (held_as (mem_seen piece))
held_of_left piece left whole has =
    is_held left has.empty
    ∙ ap (λ d. Some (let h : Held = record { device = d; sectors = (mem_seen left).start } in h)) has.number
    ∙ ap (λ n. Some (let h : Held = record { device = (mem_seen piece).device; sectors = n } in h)) (has.behind ∙ omega (arith, whole))

module _ (ps : List Place) (name : Word) (i : ℕ) (place d : Place) (rest : list_all is_at_rest ps ≡ true) (lt : i < length ps) (first : IsFirst name ps i) (is : place ≡ get_or ps i d) where
  held_here : held_in ps name ≡ held_by place.1
  held_here = shown_at held_by name ps i d first ∙ ap (λ p. held_by p.1) (sym is)

  free_here : free_in ps name ≡ free_by place.1
  free_here = shown_at free_by name ps i d first ∙ ap (λ p. free_by p.1) (sym is)

  pub rest_here : is_whole_or_left place.1 ≡ true
  rest_here = ap is_at_rest is ∙ list_all-get_or is_at_rest ps i d rest lt

  held_then : (p : MemPiece) → SameUnder (put name (held_by p) (held_in ps)) (held_in (set ps i (place.0, p)))
  held_then p = shown_set held_by ps name i (place.0, p) d first (ap (λ q. q.0) is)

  free_then : (p : MemPiece) → SameUnder (put name (free_by p) (free_in ps)) (free_in (set ps i (place.0, p)))
  free_then p = shown_set free_by ps name i (place.0, p) d first (ap (λ q. q.0) is)

  -- the device is there
  module _ (full : is_empty place.1 ≡ false) where
    pub free_under : free_in ps name ≡ Some (mem_seen place.1)
    free_under = free_here ∙ is_free place.1 full

    pub none_held : held_in ps name ≡ None
    none_held = held_here ∙ not_held place.1 full

    pub taken : (left : MemPiece) → HasLeft place.1 left → IsTaken name (mem_seen place.1) (held_in ps) (held_in (set ps i (place.0, left)))
    taken left has = record {
      whole = whole_at_rest place.1 full rest_here;
      some = some_left place.1 full;
      before = none_held;
      after = λ other. held_then left other ∙ ap (λ h. put name h (held_in ps) other) (held_of_left place.1 left (whole_at_rest place.1 full rest_here) has);
    }

    pub leaves : (left : MemPiece) → HasLeft place.1 left → LeavesShelf name (mem_seen place.1) (Some (free_in ps)) (Some (free_in (set ps i (place.0, left))))
    leaves left has = (free_under, λ other. free_then left other ∙ ap (λ h. put name h (free_in ps) other) (not_free left has.empty))

  -- the device was taken
  module _ (empty : is_empty place.1 ≡ true) where
    pub held_under : held_in ps name ≡ Some (record { device = (mem_seen place.1).device; sectors = (mem_seen place.1).start })
    held_under = held_here ∙ is_held place.1 empty

    pub free_gone : free_in ps name ≡ None
    free_gone = free_here ∙ not_free place.1 empty

  pub stays_at_rest : (p : MemPiece) → is_whole_or_left p ≡ true → list_all is_at_rest (set ps i (place.0, p)) ≡ true
  stays_at_rest p new = list_all-set is_at_rest ps i (place.0, p) rest new

-- no device has the name
pub nowhere : (ps : List Place) (name : Word) → IsMissing name ps → IsNowhere name (free_in ps) (held_in ps)
nowhere ps name missing = record { not_free = shown_none free_by name ps missing; not_held = shown_none held_by name ps missing }

-- the device comes back to the place that it was taken from
module _ (ps : List Place) (name : Word) (i : ℕ) (place d : Place) (piece : MemPiece) (rest : list_all is_at_rest ps ≡ true) (lt : i < length ps) (first : IsFirst name ps i) (is : place ≡ get_or ps i d) (whole : (mem_seen piece).start ≡ 0) (out : IsOut (held_in ps name) (mem_seen piece)) where
  out_here : held_by place.1 ≡ Some (held_as (mem_seen piece))
  out_here = sym (shown_at held_by name ps i d first ∙ ap (λ p. held_by p.1) (sym is)) ∙ out

  left_here : is_empty place.1 ≡ true
  left_here = by_test (is_empty place.1) refl
    where
      by_test : (b : Bool) → is_empty place.1 ≡ b → is_empty place.1 ≡ true
      by_test true e = e
      by_test false e = cc (not_held place.1 e, out_here)

  same_held : (a b : Held) → Some a ≡ Some b → a.sectors ≡ b.sectors
  same_held a b e = ap (λ h. h.sectors) (let p : a ≡ b = cc in p)

  some_sectors : 0 < (mem_seen piece).sectors
  some_sectors =
      let n : (mem_seen place.1).start ≡ (mem_seen piece).sectors = same_held _ _ (sym (is_held place.1 left_here) ∙ out_here) in
      omega (arith, n, left_at_rest place.1 left_here (ap is_at_rest is ∙ list_all-get_or is_at_rest ps i d rest lt))

  is_full : is_empty piece ≡ false
  is_full = ne_eqb _ _ (λ e. omega (arith, e, some_sectors))

  pub given : IsGiven name (held_in ps) (held_in (set ps i (place.0, piece)))
  given other = shown_set held_by ps name i (place.0, piece) d first (ap (λ q. q.0) is) other ∙ ap (λ h. put name h (held_in ps) other) (not_held piece is_full)

  pub comes : ComesToShelf name (mem_seen piece) (Some (free_in ps)) (Some (free_in (set ps i (place.0, piece))))
  comes other = shown_set free_by ps name i (place.0, piece) d first (ap (λ q. q.0) is) other ∙ ap (λ h. put name h (free_in ps) other) (is_free piece is_full)

  pub given_at_rest : list_all is_at_rest (set ps i (place.0, piece)) ≡ true
  given_at_rest = list_all-set is_at_rest ps i (place.0, piece) rest (cond-false _ _ _ is_full ∙ eq-eqb _ _ whole)

  same_device : (a b : Held) → Some a ≡ Some b → a.device ≡ b.device
  same_device a b e = ap (λ h. h.device) (let p : a ≡ b = cc in p)

  -- it has the number of what was left in its place
  pub given_number : (mem_seen piece).device ≡ (mem_seen place.1).device
  given_number = sym (same_device _ _ (sym (is_held place.1 left_here) ∙ out_here))

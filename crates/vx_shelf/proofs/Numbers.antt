-- Numbers that are above those of all devices on a shelf, and devices of which no two have one number.
use Rattle.std.proofs.Common.{◌≡◌, ◌∙◌, ◌+◌, ◌<◌, ◌≤◌, ◌==◌, ℕ, zero, suc, nat_lt, not, Bool, true, false, cond, List, [], ◌∷◌, ◌++◌, length, take, get_or, Some, None, IfSome, ap, refl, arith}
use Rattle.std.proofs.Math.ListN.{set}
use Rattle.std.specs.List.{list_all}
use Rattle.std.proofs.lemmas.Bool.{and_parts, and_from, ltb-true, lt-ltb, ne_eqb, not_from_false}
use Rattle.std.proofs.lemmas.List.Folds.{list_all_more}
use Rattle.vx_piece.specs.Seen.{Seen}
use Rattle.vx_piece.specs.MemPiece.{mem_seen}
use Rattle.vx_piece.specs.declared.mem_piece.MemPiece.{MemPiece}
use Rattle.vx_shelf.specs.Shelf.{Held, IsFresh}
use Rattle.vx_shelf.specs.MemShelf.{Place, is_empty, free_by, held_by, free_in, held_in, is_numbered_below, differ_in_number, are_numbered}
use Rattle.vx_shelf.proofs.Places.{shown_all, list_all-get_or, list_all-set, list_all-push}

-- a number that is no lower is above them too
pub below_more : (n m : ℕ) (ps : List Place) → n ≤ m → list_all (is_numbered_below n) ps ≡ true → list_all (is_numbered_below m) ps ≡ true
below_more n m [] le all = refl
below_more n m (p ∷ ps) le all =
    let lt : (mem_seen p.1).device < n = ltb-true _ _ (and_parts _ _ all).0 in
    and_from _ _ (lt-ltb _ _ (omega (arith, lt, le))) (below_more n m ps le (and_parts _ _ all).1)

-- a loop's step: the number is above that of one device more
pub below_next : (ps : List Place) (i n m : ℕ) (d : Place) → i < length ps → list_all (is_numbered_below n) (take i ps) ≡ true → n ≤ m → (mem_seen (get_or ps i d).1).device < m → list_all (is_numbered_below m) (take (i + 1) ps) ≡ true
below_next ps i n m d lt all le above = list_all_more (is_numbered_below m) ps i d lt ∙ and_from _ _ (below_more n m (take i ps) le all) (lt-ltb _ _ above)

-- such a number is that of no device
pub fresh : (n : ℕ) (ps : List Place) → list_all (is_numbered_below n) ps ≡ true → IsFresh n (free_in ps) (held_in ps)
fresh n ps all = record {
  not_free = shown_all free_by (λ seen. seen.device ≡ n → ⊥) (is_numbered_below n) not_free ps all;
  not_held = shown_all held_by (λ held. held.device ≡ n → ⊥) (is_numbered_below n) not_held ps all;
}
  where
    apart : (device : ℕ) → nat_lt device n ≡ true → device ≡ n → ⊥
    apart device lt e = omega (arith, e, ltb-true _ _ lt)

    free_apart : (seen : Seen) (b : Bool) → nat_lt seen.device n ≡ true → IfSome (cond b None (Some seen)) (λ seen. seen.device ≡ n → ⊥)
    free_apart seen true lt = tt
    free_apart seen false lt = apart seen.device lt

    held_apart : (held : Held) (b : Bool) → nat_lt held.device n ≡ true → IfSome (cond b (Some held) None) (λ held. held.device ≡ n → ⊥)
    held_apart held true lt = apart held.device lt
    held_apart held false lt = tt

    not_free : (p : Place) → is_numbered_below n p ≡ true → IfSome (free_by p.1) (λ seen. seen.device ≡ n → ⊥)
    not_free p lt = free_apart (mem_seen p.1) (is_empty p.1) lt

    not_held : (p : Place) → is_numbered_below n p ≡ true → IfSome (held_by p.1) (λ held. held.device ≡ n → ⊥)
    not_held p lt = held_apart (record { device = (mem_seen p.1).device; sectors = (mem_seen p.1).start }) (is_empty p.1) lt

-- the numbers stay below it where one place has another piece of its device
pub numbered_set : (n : ℕ) (ps : List Place) (i : ℕ) (place d : Place) (piece : MemPiece) → list_all (is_numbered_below n) ps ≡ true → i < length ps → place ≡ get_or ps i d → (mem_seen piece).device ≡ (mem_seen place.1).device → list_all (is_numbered_below n) (set ps i (place.0, piece)) ≡ true
numbered_set n ps i place d piece all lt is same =
    let here : is_numbered_below n place ≡ true = ap (is_numbered_below n) is ∙ list_all-get_or (is_numbered_below n) ps i d all lt in
    list_all-set (is_numbered_below n) ps i (place.0, piece) all (ap (λ device. nat_lt device n) same ∙ here)

-- no two have one number where one place has another piece of its device
pub numbers_still : (ps : List Place) (i : ℕ) (p d : Place) → are_numbered ps ≡ true → i < length ps → (mem_seen p.1).device ≡ (mem_seen (get_or ps i d).1).device → are_numbered (set ps i p) ≡ true
numbers_still [] i p d numbered lt same = absurd (omega arith)
numbers_still (q ∷ qs) zero p d numbered lt same =
    let parts = and_parts _ _ numbered in
    and_from _ _ (ap (λ device. list_all (λ r. not (device == (mem_seen r.1).device)) qs) same ∙ parts.0) parts.1
numbers_still (q ∷ qs) (suc i) p d numbered lt same =
    let parts = and_parts _ _ numbered in
    let differs : differ_in_number q p ≡ true = ap (λ device. not ((mem_seen q.1).device == device)) same ∙ list_all-get_or (differ_in_number q) qs i d parts.0 (omega arith) in
    and_from _ _ (list_all-set (differ_in_number q) qs i p parts.0 differs) (numbers_still qs i p d parts.1 (omega arith) same)

differs_above : (n : ℕ) (p q : Place) → is_numbered_below n q ≡ true → (mem_seen p.1).device ≡ n → differ_in_number q p ≡ true
differs_above n p q below is =
    let lt : (mem_seen q.1).device < n = ltb-true _ _ below in
    not_from_false _ (ne_eqb _ _ (λ e. omega (arith, e, is, lt)))

-- no two have one number where a device joins whose number is above all
pub numbers_more : (n : ℕ) (ps : List Place) (p : Place) → are_numbered ps ≡ true → list_all (is_numbered_below n) ps ≡ true → (mem_seen p.1).device ≡ n → are_numbered (ps ++ p ∷ []) ≡ true
numbers_more n [] p numbered below is = refl
numbers_more n (q ∷ qs) p numbered below is =
    let parts = and_parts _ _ numbered in
    let rest = and_parts _ _ below in
    and_from _ _ (list_all-push (differ_in_number q) qs p parts.0 (differs_above n p q rest.0 is)) (numbers_more n qs p parts.1 rest.1 is)

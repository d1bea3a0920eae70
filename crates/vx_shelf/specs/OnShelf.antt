-- What a shelf in memory tells.
use Rattle.std.specs.Prelude.{◌≡◌, ℕ, Bool, true, false, cond, List, [], ◌∷◌, Option, Some, None, IfSome, refl}
use Rattle.std.specs.List.{list_all}
use Rattle.std.specs.Option.{unwrap_or}
use Rattle.std.specs.Str.{bytes_eq}
use Rattle.std.proofs.Common.{◌∙◌, ap, sym}
use Rattle.std.proofs.lemmas.Bool.{and_parts, eqb-false, not-true}
use Rattle.std.proofs.lemmas.Option.{cond_some, none-some}
use Rattle.vx_base.specs.Named.{Word}
use Rattle.vx_base.proofs.NamedLemmas.{bytes_eq_same}
use Rattle.vx_piece.specs.Seen.{Seen}
use Rattle.vx_piece.specs.MemPiece.{mem_seen}
use Rattle.vx_piece.specs.declared.mem_piece.MemPiece.{MemPiece}
use Rattle.vx_shelf.specs.Shelf.{Held, AreNumbered}
use Rattle.vx_shelf.specs.MemShelf.{Place, is_under, is_empty, shown_under, held_by, free_in, held_in, counted_in, differ_in_number, are_numbered}
use Rattle.vx_shelf.specs.declared.mem_shelf.MemShelf.{MemShelf}

-- the device of a name that nobody holds
abbrev pub device_on : MemShelf → Word → Option Seen
device_on s = free_in s.places.items

abbrev pub free_on : MemShelf → Option (Word → Option Seen)
free_on s = Some (device_on s)

abbrev pub held_on : MemShelf → Word → Option Held
held_on s = held_in s.places.items

-- the faults that the device of a name had when it last came to the shelf
abbrev pub counted_on : MemShelf → Word → ℕ
counted_on s = counted_in s.places.items

-- a device that nobody holds has the count of its name
pub free_counted : (ps : List Place) (name : Word) → IfSome (free_in ps name) (λ seen. seen.faults ≡ counted_in ps name)
free_counted [] name = tt
free_counted (p ∷ ps) name = by_tests (is_under name p) (is_empty p.1) (free_counted ps name)
  where
    by_tests : (here empty : Bool) → IfSome (free_in ps name) (λ seen. seen.faults ≡ counted_in ps name) → IfSome (cond here (cond empty None (Some (mem_seen p.1))) (free_in ps name)) (λ seen. seen.faults ≡ unwrap_or (cond here (Some (mem_seen p.1).faults) (shown_under (λ q. Some (mem_seen q).faults) ps name)) 0)
    by_tests true true rest = tt
    by_tests true false rest = refl
    by_tests false empty rest = rest

-- what shows a device as taken has its number
number_shown : (piece : MemPiece) (x : Held) → held_by piece ≡ Some x → (mem_seen piece).device ≡ x.device
number_shown piece x shows = ap (λ h. h.device) (cond_some (is_empty piece) (let left : Held = record { device = (mem_seen piece).device; sectors = (mem_seen piece).start } in left) x shows).1

-- a number that no place has is that of no device that was taken
number_of_none : (p : Place) (ps : List Place) → list_all (differ_in_number p) ps ≡ true → (name : Word) (x : Held) → held_in ps name ≡ Some x → (mem_seen p.1).device ≡ x.device → ⊥
number_of_none p [] differ name x shows same = none-some x shows
number_of_none p (q ∷ qs) differ name x shows same = by_test (is_under name q) (number_of_none p qs (and_parts _ _ differ).1 name x) shows
  where
    by_test : (here : Bool) → (held_in qs name ≡ Some x → (mem_seen p.1).device ≡ x.device → ⊥) → cond here (held_by q.1) (held_in qs name) ≡ Some x → ⊥
    by_test true rest e = eqb-false _ _ (not-true _ (and_parts _ _ differ).0) (same ∙ sym (number_shown q.1 x e))
    by_test false rest e = rest e same

-- two devices that were taken have two numbers, where no two places have one number
pub held_numbered : (ps : List Place) → are_numbered ps ≡ true → AreNumbered (held_in ps)
held_numbered [] numbered a b x y at_a at_b same = absurd (none-some x at_a)
held_numbered (p ∷ ps) numbered a b x y at_a at_b same = by_tests (is_under a p) (is_under b p) (held_numbered ps (and_parts _ _ numbered).1 a b x y) refl refl at_a at_b
  where
    by_tests : (c d : Bool) → (held_in ps a ≡ Some x → held_in ps b ≡ Some y → x.device ≡ y.device → a ≡ b) → bytes_eq p.0 a ≡ c → bytes_eq p.0 b ≡ d → cond c (held_by p.1) (held_in ps a) ≡ Some x → cond d (held_by p.1) (held_in ps b) ≡ Some y → a ≡ b
    by_tests true true rest e f here there = sym (bytes_eq_same p.0 a e) ∙ bytes_eq_same p.0 b f
    by_tests true false rest e f here there = absurd (number_of_none p ps (and_parts _ _ numbered).0 b y there (number_shown p.1 x here ∙ same))
    by_tests false true rest e f here there = absurd (number_of_none p ps (and_parts _ _ numbered).0 a x here (number_shown p.1 y there ∙ sym same))
    by_tests false false rest e f here there = rest here there same

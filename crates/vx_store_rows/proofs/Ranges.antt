-- Parts of a range inside a piece, and of the region.
use Rattle.std.proofs.Common.{◌≡◌, ℕ, ◌+◌, ◌-◌, ◌<◌, ◌≤◌, refl, sym, subst, arith}
use Rattle.vx_piece.specs.Seen.{Seen, IsInside}
use Rattle.vx_cell.specs.Calls.{IsInSpan}

pub at_least : (p : Seen) (at bytes : ℕ) → IsInside p at bytes → 512 ≤ bytes
at_least p at bytes h = let some = h.some in let whole = h.whole in omega (arith, some, whole)

pub first_inside : (p : Seen) (at bytes : ℕ) → IsInside p at bytes → IsInside p at 512
first_inside p at bytes h = let some = h.some in let whole = h.whole in let inside = h.inside in record { some = omega arith; whole = refl; inside = omega (arith, some, whole, inside) }

pub others_inside : (p : Seen) (at bytes : ℕ) → IsInside p at bytes → 512 < bytes → IsInside p (at + 1) (bytes - 512)
others_inside p at bytes h more = let whole = h.whole in let inside = h.inside in record { some = omega (arith, more); whole = omega (arith, whole, more); inside = omega (arith, whole, inside, more) }

pub in_span : (start size at bytes : ℕ) → start ≡ 32 → size ≡ 32 → IsInSpan 32 32 at bytes → IsInSpan start size at bytes
in_span start size at bytes from count h = subst (λ (n : ℕ). IsInSpan n size at bytes) (sym from) (subst (λ (n : ℕ). IsInSpan 32 n at bytes) (sym count) h)

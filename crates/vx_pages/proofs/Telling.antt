-- Where all copies of a sector tell, each does.
use Rattle.std.proofs.Common.{◌≡◌, ℕ, zero, suc, Bool, true, false, refl, Option, Some, None}
use Rattle.std.specs.Prelude.{◌&&◌, is_some}
use Rattle.vx_piece.specs.Seen.{Seen}
use Rattle.vx_pages.specs.Sector.{Copies, copy_tells, second_tells, tells}

pub and_first : (x y : Bool) → (x && y) ≡ true → x ≡ true
and_first true y h = refl
and_first false y h = h

pub and_second : (x y : Bool) → (x && y) ≡ true → y ≡ true
and_second true y h = h
and_second false y h = cc

pub each_tells : (c : Copies) → tells c ≡ true → (n : ℕ) → copy_tells c n ≡ true
each_tells c t n = by c.first c.second t n
  where
    by : (first : Seen) (second : Option Seen) → (is_some first.told && second_tells second) ≡ true → (n : ℕ) → copy_tells (record { first = first; second = second }) n ≡ true
    by first second t zero = and_first _ _ t
    by first None t (suc n) = and_first _ _ t
    by first (Some p) t (suc n) = and_second _ _ t

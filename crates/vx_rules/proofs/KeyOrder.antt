-- The order of keys.
use Rattle.std.proofs.Common.{◌≡◌, ℕ, ◌<◌, ◌≤◌, false, Ordering, Less, Equal, Greater, refl, sym, subst, arith, is_lt, nat_cmp}
use Rattle.std.specs.Ordering.{ordering_then}
use Rattle.std.specs.Cmp.{IsTotalOrder}
use Rattle.std.specs.Cmp.Lexicographic.{slice_cmp}
use Rattle.std.proofs.lemmas.Bool.{false≢true}
use Rattle.std.proofs.lemmas.Bool.Decides.{nat_tests}
use Rattle.std.proofs.lemmas.Cmp.{nat_list_cmp_total, nat_cmp_total, on_total, then_total, tied_itself}
use Rattle.std.proofs.lemmas.Map.Lookups.{exact_bytes, exact_pairs, exact_unsigned, CmpEqualImpliesEq}
use Rattle.vx_base.specs.Named.{Word}
use Rattle.vx_rules.specs.Keys.{Key, key_cmp}

pub key_total : IsTotalOrder key_cmp
key_total = then_total (on_total (λ (p : Key). p.0) nat_list_cmp_total) (on_total (λ (p : Key). p.1) nat_cmp_total)

pub key_exact : CmpEqualImpliesEq key_cmp
key_exact = exact_pairs (slice_cmp nat_cmp) nat_cmp exact_bytes exact_unsigned

below : (x y : ℕ) → nat_cmp x y ≡ Less → x < y
below x y h = grind (arith, nat_tests)

not_below : (x y : ℕ) → is_lt (nat_cmp x y) ≡ false → y ≤ x
not_below x y h = grind (arith, nat_tests)

pub less : (x y : ℕ) → x < y → nat_cmp x y ≡ Less
less x y h = grind (arith, nat_tests)

between_by : (o : Ordering) (x y z : ℕ) → ordering_then o (nat_cmp x y) ≡ Less → is_lt (ordering_then o (nat_cmp x z)) ≡ false → (o ≡ Equal) × (x < y) × (z ≤ x)
between_by Less x y z a b = absurd (false≢true (sym b))
between_by Equal x y z a b = (refl, below x y a, not_below x z b)
between_by Greater x y z a b = absurd (cc)

-- a place before one of a disk, and not before another of it, is on that disk
pub between : (disk d : Word) (x y z : ℕ) → key_cmp (d, x) (disk, y) ≡ Less → is_lt (key_cmp (d, x) (disk, z)) ≡ false → (d ≡ disk) × (x < y) × (z ≤ x)
between disk d x y z a b =
    let h = between_by (slice_cmp nat_cmp d disk) x y z a b in (exact_bytes d disk h.0, h.1, h.2)

-- on one disk
pub before : (disk : Word) (x y : ℕ) → x < y → key_cmp (disk, x) (disk, y) ≡ Less
before disk x y h = rw (tied_itself nat_list_cmp_total disk) (less x y h)

pub begins : (disk d : Word) (x y : ℕ) → d ≡ disk → key_cmp (d, x) (disk, y) ≡ Less → x < y
begins disk d x y same h =
    let tied : slice_cmp nat_cmp d disk ≡ Equal = subst (λ k. slice_cmp nat_cmp d k ≡ Equal) same (tied_itself nat_list_cmp_total d) in
    below x y (rw tied at h)

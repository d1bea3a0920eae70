-- Counts that rise in turn.
use Rattle.std.proofs.Common.{ℕ, ◌+◌, ◌≤◌, arith}
use Rattle.vx_base.specs.Counts.{RoseBy}

pub none_rose : (before now : ℕ) → before ≤ now → RoseBy 0 before now
none_rose before now le = omega arith

pub rose_then : (a b x y z : ℕ) → RoseBy a x y → RoseBy b y z → RoseBy (a + b) x z
rose_then a b x y z first second = omega arith

pub rose_and_later : (a x y z : ℕ) → RoseBy a x y → y ≤ z → RoseBy a x z
rose_and_later a x y z first later = omega arith

pub later_and_rose : (a x y z : ℕ) → x ≤ y → RoseBy a y z → RoseBy a x z
later_and_rose a x y z later second = omega arith

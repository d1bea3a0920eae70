use Rattle.std.proofs.Common.{◌≡◌, ℕ, ◌<◌, None, length, get_or}
use Rattle.vx_base.specs.Named.{Word}
use Rattle.vx_power.specs.Berths.{Berth, has_berth}
use Rattle.vx_power.proofs.berths.clear.Given as goal

abbrev pub invariant-loop-i : goal.invariant-loop-i
invariant-loop-i l = record {
  sized : length l.berths.items ≡ length l.initial.berths.items;
  clear : (d : Berth) (k : ℕ) → k < l.i → (get_or l.berths.items k d).1 ≡ None;
  same : (name : Word) → has_berth l.berths.items name ≡ has_berth l.initial.berths.items name;
}

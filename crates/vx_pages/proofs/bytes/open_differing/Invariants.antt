use Rattle.std.proofs.Common.{◌≡◌, ℕ, ◌<◌, ◌≤◌, length, get_or}
use Rattle.std.specs.Prelude.{bit_and, bit_xor}
use Rattle.vx_pages.proofs.bytes.open_differing.Given as goal

abbrev pub invariant-loop-place : goal.invariant-loop-place
invariant-loop-place l = record {
  sure_size : length l.sure.items ≡ 512;
  loose_size : length l.loose.items ≡ 512;
  below : (k : ℕ) → k < l.place → (get_or l.sure.items k 0 ≡ bit_and (get_or l.fn.sure.items k 0) (get_or l.image k 0)) × (get_or l.loose.items k 0 ≡ bit_xor (get_or l.fn.sure.items k 0) (get_or l.image k 0));
  rest : (k : ℕ) → l.place ≤ k → get_or l.sure.items k 0 ≡ get_or l.fn.sure.items k 0;
}

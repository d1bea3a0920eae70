use Rattle.std.proofs.Common.{arith, replicate, ℕ}
use Rattle.std.proofs.lemmas.List.{length-replicate, length-take-le}
use Rattle.vx_confdb.proofs.Zeros.{padded_is, long, first_zeros}
use Rattle.vx_confdb.proofs.text.Text.of.Goals as goal

pub invariant_of-result : goal.invariant_of-result
invariant_of-result c = record {
  padded = padded_is c.args.text.now _ c.in_ok-bytes.bytes.items c.sectors_for.result c.in_ok-bytes.ensures (length-take-le _ (replicate 512 0) (omega (arith, c.sectors_for.ensures.few, length-replicate {A = ℕ} 512 0))) c.sectors_for.ensures.enough (first_zeros _ 512 (omega (arith, c.sectors_for.ensures.few))) c.sectors_for.ensures.sectors c.requires;
  inside = long c.args.text.now _ c.in_ok-bytes.bytes.items c.sectors_for.result c.in_ok-bytes.ensures (length-take-le _ (replicate 512 0) (omega (arith, c.sectors_for.ensures.few, length-replicate {A = ℕ} 512 0))) c.sectors_for.ensures.enough;
}

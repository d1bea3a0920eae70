use Rattle.std.proofs.Common.{arith}
use Rattle.std.proofs.lemmas.List.Sums.{prefix_len-le-length}
use Rattle.vx_record.proofs.ReadLines.{is_other}
use Rattle.vx_record.proofs.line.read_head.Goals as goal

pub split_at-requires : goal.split_at-requires
split_at-requires c = omega (arith, c.front_len-space.ensures, prefix_len-le-length (is_other 32) c.args.line.now)

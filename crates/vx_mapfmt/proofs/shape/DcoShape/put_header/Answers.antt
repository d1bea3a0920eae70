use Rattle.std.proofs.Common.{arith}
use Rattle.vx_mapfmt.proofs.HeaderLemmas.{header_is_put}
use Rattle.vx_mapfmt.proofs.shape.DcoShape.put_header.Goals as goal

pub returns : goal.returns
returns c = header_is_put _ _ _ _ _ _ _ _ c.put.ensures c.put_u64.ensures c.put_u64-2.ensures c.put_u32.ensures c.put_zeros.ensures (omega arith)

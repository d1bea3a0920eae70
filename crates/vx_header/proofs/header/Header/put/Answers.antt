use Rattle.std.proofs.Common.{arith}
use Rattle.vx_header.proofs.PutLemmas.{header_is_put}
use Rattle.vx_header.proofs.header.Header.put.Goals as goal

pub returns : goal.returns
returns c =
    header_is_put _ _ _ _ _ _ _ _ _ _ _ _ c.put.ensures c.put_name.ensures c.put_name-2.ensures c.put-2.ensures c.put_zeros.ensures c.put_u64.ensures
    c.put_u64-2.ensures c.put_zeros-2.ensures (omega arith)

use Rattle.std.proofs.Common.{length, arith, rules, ◌≡◌}
use Rattle.vx_base.proofs.BlockLemmas.{block_at-part}
use Rattle.vx_piece.proofs.mem_piece.MemPiecePiece.read.Goals as goal

pub returns-clause-ok : goal.returns-clause-ok
returns-clause-ok c = λ k lt.
    let len : length c.copy_out.new.into ≡ length c.args.into.now = search rules in
    rw (c.copy_out.ensures, c.deref.ensures.value) (block_at-part c.args.self.now.bytes.items c.args.at (length c.args.into.now) k (omega (arith, lt, len)))

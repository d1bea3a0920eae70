use Rattle.std.proofs.Common.{arith, rules, refl}
use Rattle.vx_piece.proofs.Sectors.{block_at-put_good, put_good-is_torn, put_good-all}
use Rattle.vx_piece.proofs.mem_piece.MemPiecePiece.write.Goals as goal

pub returns-then-good-count-clause-told : goal.returns-then-good-count-clause-told
returns-then-good-count-clause-told c = record {
  told = rw c.copy_in.ensures.items (put_good-is_torn c.args.self.now.bytes.items c.args.from.now c.args.at c.touch-good.result (omega (arith, c.requires.inside, c.requires.whole)) (omega (arith, c.touch-good.ensures.few)));
  writes = search rules;
  reads = refl;
}

pub returns-then-good-count-clause-good : goal.returns-then-good-count-clause-good
returns-then-good-count-clause-good c = λ k. rw (c.copy_in.ensures.items, ← c.touch-good.ensures.good) (block_at-put_good c.args.self.now.bytes.items c.args.from.now c.args.at c.touch-good.result (omega (arith, c.requires.inside, c.requires.whole)) (omega (arith, c.touch-good.ensures.few)) k)

pub returns-clause-told : goal.returns-clause-told
returns-clause-told c = record {
  told = λ k. rw c.copy_in.ensures.items (put_good-all c.args.self.now.bytes.items c.args.from.now c.args.at c.touch-good.result (omega (arith, c.requires.inside, c.requires.whole)) (omega (arith, c.touch-good.ensures.few)) (omega (arith, c.touch-good.ensures.few, c.requires.whole)) k);
  writes = search rules;
  reads = refl;
}

pub returns-clause-good : goal.returns-clause-good
returns-clause-good c = λ k. rw (c.copy_in.ensures.items, ← c.touch-good.ensures.good) (block_at-put_good c.args.self.now.bytes.items c.args.from.now c.args.at c.touch-good.result (omega (arith, c.requires.inside, c.requires.whole)) (omega (arith, c.touch-good.ensures.few)) k)

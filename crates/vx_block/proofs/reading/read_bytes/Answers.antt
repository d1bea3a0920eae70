use Rattle.std.proofs.Common.{rules}
use Rattle.std.proofs.lemmas.List.{length-set}
use Rattle.vx_block.proofs.WordLemmas.{next_byte}
use Rattle.vx_block.proofs.reading.read_bytes.Goals as goal

pub loop-i-preserved : goal.loop-i-preserved
loop-i-preserved c = record {
  size = search (rules, length-set);
  told = search (rules, next_byte);
}

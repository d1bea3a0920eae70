use Rattle.vx_mask.proofs.MaskLemmas.{has-zero}
use Rattle.vx_marks.proofs.no_log.NoLogMarker.marked.Goals as goal

pub returns : goal.returns
returns c = λ k. has-zero k

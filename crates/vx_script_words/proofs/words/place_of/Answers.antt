use Rattle.std.proofs.Common.{arith, ◌==◌, eq-eqb}
use Rattle.vx_script_words.proofs.Places.{place_here, place_end}
use Rattle.vx_script_words.proofs.words.place_of.Goals as goal

pub returns-then-b-byte-clause-place : goal.returns-then-b-byte-clause-place
returns-then-b-byte-clause-place c = place_here (λ x. x == c.args.byte) _ _ (omega arith) c.loop-n.invariant (eq-eqb _ _ c.if-b-byte.true)

pub returns-clause-place : goal.returns-clause-place
returns-clause-place c = place_end (λ x. x == c.args.byte) _ c.loop-n.n (omega arith) (omega arith) c.loop-n.invariant

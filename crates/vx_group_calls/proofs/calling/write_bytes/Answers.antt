use Rattle.std.proofs.Common.{List, ℕ, subst}
use Rattle.vx_group_calls.specs.Ending.{EndsAs}
use Rattle.vx_group_calls.proofs.calling.write_bytes.Goals as goal

pub returns-clause-served : goal.returns-clause-served
returns-clause-served g c =
    record {
      result = c.write-outcome.result;
      before = c.in_ok-receipt.receipt;
      after = c.write-outcome.new.receipt;
      ends = c.write-outcome.ensures.ends;
      reserved = c.in_ok-receipt.ensures;
      told = subst (λ (bytes : List ℕ). EndsAs c.write-outcome.result c.write-outcome.new.receipt.parts.items bytes c.ended.result) c.new.ensures.items c.ended.ensures;
    }

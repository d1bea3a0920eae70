use Rattle.vx_group_calls.proofs.calling.read_blocks.Goals as goal

pub returns-clause-served : goal.returns-clause-served
returns-clause-served g c =
    record {
      result = c.read-outcome.result;
      before = c.in_ok-receipt.receipt;
      after = c.read-outcome.new.receipt;
      ends = c.read-outcome.ensures.ends;
      reserved = c.in_ok-receipt.ensures;
      told = c.ended.ensures;
    }

use Rattle.std.proofs.Common.{arith}
use Rattle.vx_copies.proofs.StepLaws.{each_refl, each_trans}
use Rattle.vx_import.specs.Looks.{IsPrivate, Reads}
use Rattle.vx_import.specs.Tries.{IsSpent}
use Rattle.vx_import.proofs.Looks.{reads_refl, spent_refl, spent_trans, tried_then, all_on, private_on}
use Rattle.vx_import.proofs.taking.take_text.Goals as goal

pub tries-init : goal.tries-init
tries-init g c = record { few = c.requires.few; private = c.requires.private; room = c.requires.room; reads = each_refl Reads reads_refl _; spent = each_refl IsSpent spent_refl _ }

pub returns-in-Some-clause-reads : goal.returns-in-Some-clause-reads
returns-in-Some-clause-reads g c = tried_then _ _ _ c.tries.invariant.reads c.tries.invariant.spent c.try_best.ensures.reads

pub tries-preserved : goal.tries-preserved
tries-preserved g c =
    record {
      few = omega (arith, c.try_best.auto.found, c.tries.invariant.few);
      private = all_on Reads IsPrivate (λ a b is. private_on a b is.kept) _ _ c.try_best.ensures.reads c.tries.invariant.private;
      room = c.try_best.ensures.room;
      reads = tried_then _ _ _ c.tries.invariant.reads c.tries.invariant.spent c.try_best.ensures.reads;
      spent = each_trans IsSpent spent_trans _ _ _ c.tries.invariant.spent c.in-None.ensures.ends.1;
    }

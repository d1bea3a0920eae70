use Rattle.std.proofs.Common.{rules, suc, length}
use Rattle.vx_new_records.proofs.FreeNames.{taken, free}
use Rattle.vx_new_records.proofs.naming.next_name.Goals as goal

pub returns-then-not-has-clause-name : goal.returns-then-not-has-clause-name
returns-then-not-has-clause-name c =
    free (suc (length c.args.known.now.names.items)) c.loop.counter c.args.known.now.names.items c.args.stem.now c.loop.number c.in-Some.name _ (search rules) (search rules) (search rules) c.loop.invariant

pub loop-preserved : goal.loop-preserved
loop-preserved c =
    taken (suc (length c.args.known.now.names.items)) c.loop.counter c.args.known.now.names.items c.args.stem.now c.loop.number c.in-Some.name _ (search rules) (search rules) (search rules) c.loop.invariant

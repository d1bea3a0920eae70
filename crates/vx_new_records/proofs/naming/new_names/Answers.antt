use Rattle.std.proofs.Common.{rules, ◌-◌, ◌+◌, List, ℕ, ap, ◌∙◌}
use Rattle.vx_new_volumes.specs.Naming.{names_behind}
use Rattle.vx_new_records.proofs.FreeNames.{more, stops}
use Rattle.vx_new_records.proofs.naming.new_names.Goals as goal

pub returns-in_default : goal.returns-in_default
returns-in_default c =
    stops c.args.count c.loop.counter c.loop.names.items c.args.known.now.names.items c.args.stem.now c.loop.from _ (search rules) (search rules) c.loop.invariant

pub loop-preserved : goal.loop-preserved
loop-preserved c =
    ap (λ (names : List (List ℕ)). names_behind (c.args.count - (c.loop.counter + 1)) names c.args.known.now.names.items c.args.stem.now (c.in-Some.next.number + 1)) (search rules)
    ∙ more c.args.count c.loop.counter c.loop.names.items c.args.known.now.names.items c.args.stem.now c.loop.from (record { name = c.in-Some.next.name; number = c.in-Some.next.number }) _ (search rules) (search rules) c.loop.invariant

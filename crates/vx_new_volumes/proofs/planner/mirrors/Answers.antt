use Rattle.std.proofs.Common.{rules, ◌+◌, ◌-◌, List, ◌∙◌, ap, inl, inr}
use Rattle.std.proofs.lemmas.Result.{err_from_is_err_and}
use Rattle.vx_space.specs.declared.extent.Extent.{Extent}
use Rattle.vx_new_volumes.specs.Steps.{repeated}
use Rattle.vx_new_volumes.specs.Rule.{mirror}
use Rattle.vx_new_volumes.proofs.Repeats.{more, stops}
use Rattle.vx_new_volumes.proofs.planner.mirrors.Goals as goal

pub returns-in_err-part-clause-refused : goal.returns-in_err-part-clause-refused
returns-in_err-part-clause-refused c =
    let p = err_from_is_err_and c.from_residual.result c.from_residual.ensures.1 in
    rw (p.1, p.2) (elim c.in_err-part.ensures.refused [
      | inl e ↦ inl e
      | inr e ↦ inr (stops (mirror c.args.request.now) c.args.request.now.mirrors c.loop.counter c.loop.done.items c.loop.disks.items c.loop.free _ _ (search rules) e c.loop.invariant)
    ])

pub loop-preserved : goal.loop-preserved
loop-preserved c =
    ap (λ (items : List (List (List Extent))). repeated (mirror c.args.request.now) (c.args.request.now.mirrors - (c.loop.counter + 1)) items c.mirror.new.disks.items c.mirror.new.free) (search rules)
    ∙ more (mirror c.args.request.now) c.args.request.now.mirrors c.loop.counter c.loop.done.items c.loop.disks.items c.loop.free (record { part = c.in_ok-part.part; disks = c.mirror.new.disks.items; free = c.mirror.new.free }) _ (search rules) c.in_ok-part.ensures.found c.loop.invariant

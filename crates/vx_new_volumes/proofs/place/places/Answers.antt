use Rattle.std.proofs.Common.{rules, ◌+◌, ◌-◌, List, ◌∙◌, ap, inl, inr}
use Rattle.std.proofs.lemmas.Result.{err_from_is_err_and}
use Rattle.vx_space.specs.declared.extent.Extent.{Extent}
use Rattle.vx_new_volumes.specs.Steps.{place, repeated}
use Rattle.vx_new_volumes.proofs.Repeats.{more, stops}
use Rattle.vx_new_volumes.proofs.place.places.Goals as goal

pub returns-in_err-part-clause-refused : goal.returns-in_err-part-clause-refused
returns-in_err-part-clause-refused c =
    let p = err_from_is_err_and c.from_residual.result c.from_residual.ensures.1 in
    rw (p.1, p.2) (elim c.in_err-part.ensures.refused [
      | inl e ↦ inl e
      | inr e ↦ inr (stops (place c.args.need) c.args.count c.loop.counter c.loop.done.items c.loop.disks.items c.loop.free _ _ (search rules) e c.loop.invariant)
    ])

pub loop-preserved : goal.loop-preserved
loop-preserved c =
    ap (λ (items : List (List Extent)). repeated (place c.args.need) (c.args.count - (c.loop.counter + 1)) items c.place.new.disks.items c.place.new.free) (search rules)
    ∙ more (place c.args.need) c.args.count c.loop.counter c.loop.done.items c.loop.disks.items c.loop.free (record { part = c.in_ok-part.part; disks = c.place.new.disks.items; free = c.place.new.free }) _ (search rules) c.in_ok-part.ensures.found c.loop.invariant

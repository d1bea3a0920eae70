use Rattle.std.proofs.Common.{◌∙◌, ap, subst, sym}
use Rattle.vx_space.specs.Extents.{left}
use Rattle.vx_space.specs.Small.{AreSmall}
use Rattle.vx_space.proofs.Counts.{left_small}
use Rattle.vx_space.proofs.free.Free.take.Goals as goal

pub invariant_of-self : goal.invariant_of-self
invariant_of-self c =
    let is = c.in-Ok-left_of.ensures ∙ ap (λ es. left c.args.disk.now c.args.count es) c.deref-2.ensures.value in
    subst (λ es. AreSmall es) (sym is) (left_small c.args.disk.now c.args.count c.self.inside.extents.items c.self.invariant)

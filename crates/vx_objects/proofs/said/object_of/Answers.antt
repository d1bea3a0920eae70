use Rattle.std.proofs.Common.{◌∙◌, ap, sym, refl}
use Rattle.vx_config_parts.specs.declared.group.Group.{Group}
use Rattle.vx_config_parts.specs.declared.object.Object.{Object}
use Rattle.vx_config_parts.specs.declared.object.Object.TheVariants.{GroupRecord}
use Rattle.vx_objects.proofs.Fields.{group_read}
use Rattle.vx_objects.proofs.said.object_of.Goals as goal

pub returns-in-Dg : goal.returns-in-Dg
returns-in-Dg c =
    let said : Object = GroupRecord (record { name = c.entry.inside.name; version = 1 }) in
    (said, (group_read c.entry.inside.kind c.entry.inside.name c.entry.inside.attrs c.entry.invariant c.in-Dg.is ∙ c.entry.view_is, refl), ap (λ (g : Group). GroupRecord g) (sym c.group_of.ensures))

use Rattle.std.proofs.Common.{List, sym, ap, refl}
use Rattle.std.proofs.lemmas.Bool.{and_from}
use Rattle.vx_names.specs.declared.attr.Attr.{Attr}
use Rattle.vx_record.specs.Table.{columns}
use Rattle.vx_record.specs.declared.kind.Kind.TheVariants as kinds
use Rattle.vx_config_parts.specs.declared.object.Object.{Object}
use Rattle.vx_config_parts.specs.declared.object.Object.TheVariants.{DiskRecord}
use Rattle.vx_objects.proofs.Fields.{fit_end, link}
use Rattle.vx_objects.proofs.said.disk_of.Goals as goal

pub returns : goal.returns
returns c =
    let said : Object = DiskRecord (record { name = c.args.name; device = c.referred-device.result; slot = c.number-slot.result; publen = c.number-publen.result }) in
    let same = link c.referred-device.ensures (link c.number-slot.ensures.there (link c.number-publen.ensures.there (fit_end (columns kinds.Dm) c.args.attrs.now c.requires))) in
    (said, (ap (λ (attrs : List Attr). record { kind = kinds.Dm; name = c.args.name; attrs = attrs }) (sym same), and_from _ _ c.number-slot.ensures.short c.number-publen.ensures.short), rw c.as_byte.ensures refl)

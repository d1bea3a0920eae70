use Rattle.std.proofs.Common.{List, sym, ap, refl}
use Rattle.vx_names.specs.declared.attr.Attr.{Attr}
use Rattle.vx_record.specs.Table.{columns}
use Rattle.vx_record.specs.declared.kind.Kind.TheVariants as kinds
use Rattle.vx_config_parts.specs.declared.object.Object.{Object}
use Rattle.vx_config_parts.specs.declared.object.Object.TheVariants.{DcoRecord}
use Rattle.vx_objects.proofs.Fields.{fit_end, link, maps_there}
use Rattle.vx_objects.proofs.said.dco_of.Goals as goal

pub returns : goal.returns
returns c =
    let said : Object = DcoRecord (record { name = c.args.name; vol = c.referred-vol.result; maps = 32 }) in
    let same = link c.referred-vol.ensures (link (maps_there c.args.attrs.now c.requires) (fit_end (columns kinds.Dco) c.args.attrs.now c.requires)) in
    (said, (ap (λ (attrs : List Attr). record { kind = kinds.Dco; name = c.args.name; attrs = attrs }) (sym same), refl), refl)

use Rattle.std.proofs.Common.{List, sym, ap, refl}
use Rattle.std.proofs.lemmas.Bool.{and_from}
use Rattle.vx_names.specs.declared.attr.Attr.{Attr}
use Rattle.vx_record.specs.Table.{columns}
use Rattle.vx_record.specs.declared.kind.Kind.TheVariants as kinds
use Rattle.vx_config_parts.specs.declared.object.Object.{Object}
use Rattle.vx_config_parts.specs.declared.object.Object.TheVariants.{SnapRecord}
use Rattle.vx_objects.proofs.Fields.{fit_end, link}
use Rattle.vx_objects.proofs.said.snap_of.Goals as goal

pub returns : goal.returns
returns c =
    let said : Object = SnapRecord (record { name = c.args.name; vol = c.referred-vol.result; of = c.referred-of.result; map = c.number-map.result; ofmap = c.number-ofmap.result }) in
    let same = link c.referred-vol.ensures (link c.referred-of.ensures (link c.number-map.ensures.there (link c.number-ofmap.ensures.there (fit_end (columns kinds.Snap) c.args.attrs.now c.requires)))) in
    (said, (ap (λ (attrs : List Attr). record { kind = kinds.Snap; name = c.args.name; attrs = attrs }) (sym same), and_from _ _ c.number-map.ensures.short c.number-ofmap.ensures.short), rw (c.as_byte.ensures, c.as_byte-2.ensures) refl)

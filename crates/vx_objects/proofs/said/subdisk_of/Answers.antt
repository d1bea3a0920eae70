use Rattle.std.proofs.Common.{List, sym, ap, refl}
use Rattle.std.proofs.lemmas.Bool.{and_from}
use Rattle.vx_names.specs.declared.attr.Attr.{Attr}
use Rattle.vx_record.specs.Table.{columns}
use Rattle.vx_record.specs.declared.kind.Kind.TheVariants as kinds
use Rattle.vx_config_parts.specs.declared.object.Object.{Object}
use Rattle.vx_config_parts.specs.declared.object.Object.TheVariants.{SubdiskRecord}
use Rattle.vx_objects.proofs.Fields.{fit_end, link}
use Rattle.vx_objects.proofs.said.subdisk_of.Goals as goal

pub returns : goal.returns
returns c =
    let said : Object = SubdiskRecord (record { name = c.args.name; disk = c.referred-disk.result; off = c.number-off.result; len = c.number-len.result; plex = c.referred_or_none-plex.result; col = c.number-col.result; at = c.number-at.result }) in
    let same = link c.referred-disk.ensures (link c.number-off.ensures.there (link c.number-len.ensures.there (link c.referred_or_none-plex.ensures (link c.number-col.ensures.there (link c.number-at.ensures.there (fit_end (columns kinds.Sd) c.args.attrs.now c.requires)))))) in
    (said, (ap (λ (attrs : List Attr). record { kind = kinds.Sd; name = c.args.name; attrs = attrs }) (sym same), and_from _ _ (and_from _ _ (and_from _ _ c.number-off.ensures.short c.number-len.ensures.short) c.number-col.ensures.short) c.number-at.ensures.short), rw c.as_word.ensures refl)

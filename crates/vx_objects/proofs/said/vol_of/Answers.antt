use Rattle.std.proofs.Common.{List, sym, ap, refl}
use Rattle.std.proofs.lemmas.Bool.{and_from}
use Rattle.vx_names.specs.declared.attr.Attr.{Attr}
use Rattle.vx_record.specs.Table.{columns}
use Rattle.vx_record.specs.declared.kind.Kind.TheVariants as kinds
use Rattle.vx_config_parts.specs.declared.object.Object.{Object}
use Rattle.vx_config_parts.specs.declared.object.Object.TheVariants.{VolRecord}
use Rattle.vx_objects.proofs.Fields.{fit_end, link}
use Rattle.vx_objects.proofs.said.vol_of.Goals as goal

pub returns : goal.returns
returns c =
    let said : Object = VolRecord (record { name = c.args.name; len = c.number-len.result; region = c.number-region.result; rdpol = c.policy-rdpol.result; prefer = c.referred_or_none-prefer.result; state = c.vol_state-state.result; dco = c.referred_or_none-dco.result }) in
    let same = link c.number-len.ensures.there (link c.number-region.ensures.there (link c.policy-rdpol.ensures (link c.referred_or_none-prefer.ensures (link c.vol_state-state.ensures (link c.referred_or_none-dco.ensures (fit_end (columns kinds.Vol) c.args.attrs.now c.requires)))))) in
    (said, (ap (λ (attrs : List Attr). record { kind = kinds.Vol; name = c.args.name; attrs = attrs }) (sym same), and_from _ _ c.number-len.ensures.short c.number-region.ensures.short), refl)
